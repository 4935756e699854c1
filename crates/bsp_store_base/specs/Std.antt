-- The names of the standard library that the definitions and the proofs cite, passed on from one place. Declares nothing.
pub use Rattle.std.specs.Cmp.{IsTotalOrder, nat_cmp_total, unsigned_tied}
pub use Rattle.std.specs.FinMap.{empty, entries, find, FinMap, from_entries, from_sorted, get, get-entries, get-from_entries, get-insert, insert, IsAntisymmetric, remove}
pub use Rattle.std.specs.List.{AllByRecursion, list_all, range_with_len}
pub use Rattle.std.specs.Option.{ForSome, option_or, option_xor}
pub use Rattle.std.specs.Ordering.{eq_by_cmp, nat_cmp, on, then_cmp}
pub use Rattle.std.specs.Prelude.{IfErr, IsOk, MatchResult, Some, true}
pub use Rattle.std.specs.declared.cmp.Ordering.{Ordering}
