-- The names of the standard library and its lemmas that the proofs cite, passed on from one place. Declares nothing.
pub use Rattle.std.proofs.Common.{[], ◌%◌, ◌&&◌, ◌*◌, ◌++◌, ◌+◌, ◌-◌, ◌/◌, ◌<◌, ◌==◌, ◌^◌, ◌↔◌, ◌∙◌, ◌∷◌, ◌≡◌, ◌≢◌, ◌≤◌, ◌⊎◌, add-one, ap, append-nil, append_assoc, ap₂, arith, Bool, codes, cond, drop, Err, false, get_or, Greater, IfOk, inl, inr, int_cmp, is_eq, is_err, is_none, is_ok, is_some, IsPermutation, IsTrue, length, length-append, Less, List, map, MatchBool, nat_cmp, None, not, Ok, OnErr, OnOk, Option, Ordering, pos, refl, Result, rules, slice_get, Some, subst, subst₂, suc, sym, take, true, zero, ℕ, ℤ, Equal, Decides, bytes_eq, fold}
pub use Rattle.std.proofs.Math.Nat.{pow-suc, pow-le-pow_right}
pub use Rattle.std.proofs.lemmas.Bool.{and_parts, both_ways, cases_Bool, cond-false, cond_both, eqb-false, eqb-true, false≢true, lt-ltb, ltb-true, MatchBool-at_false, ne_eqb, not-true, or_cases, or_parts, true_from_ne_false, leb-true, eq-eqb, not-false, true≢false}
pub use Rattle.std.proofs.lemmas.Bool.Decides.{Decides-eqb, nat_tests, same_from_decides}
pub use Rattle.std.proofs.lemmas.Grind.{common_steps}
pub use Rattle.std.proofs.lemmas.List.{append_cancel_left, append_cancel_right, at_drop_more, drop_all, drop_at, get_or-map, length-map, length-take, length-take-le, nil_from_length, take-map, take_all, take_at, take_more, take_more_same}
pub use Rattle.std.proofs.lemmas.List.Sorted.{IsPermutation-append_right, IsPermutation-cons, IsPermutation-map, IsPermutation-middle, IsPermutation-refl, IsPermutation-sym, IsPermutation-trans, length_permutation, list_any-IsPermutation}
pub use Rattle.std.proofs.lemmas.Map.Iter.{rest_all, rest_more}
pub use Rattle.std.proofs.lemmas.Map.Text.{is_eq-slice_cmp}
pub use Rattle.std.proofs.lemmas.Option.{IfSome_then, none-some, same_Some}
pub use Rattle.std.proofs.lemmas.Slice.Eq.{bytes_eq-Decides, slice_eq-Decides, strip_prefix_is, strip_suffix_is}
pub use Rattle.std.specs.BTreeMap.{BTreeMap}
pub use Rattle.std.specs.Cmp.{alike_right, eq_by_cmp_equiv, Equal-is, IsTotalOrder, nat_cmp_total, on_total, then_total, tied_itself}
pub use Rattle.std.specs.Cmp.Lexicographic.{slice_cmp}
pub use Rattle.std.specs.FinMap.{contains_key-keys, empty, entries, entries-from_sorted, entries-insert, entries_sorted, find, FinMap, from_entries, get, get-empty, get-entries, get-from_entries, get-from_sorted, get-insert, get-remove, get_tied, insert, IsAntisymmetric, nat_cmp-IsAntisymmetric, remove, same_entries_map, same_map, slice_cmp-IsAntisymmetric, values}
pub use Rattle.std.specs.FinMap.Entries.{below_all, by_order, is_sorted, put}
unfoldable pub use Rattle.std.specs.Fmt.{digits}
pub use Rattle.std.specs.List.{AllByRecursion, AllPairs, concat, cons_option, Contains, filter, filter_map, flat_map, list_all, list_any, range_with_len}
unfoldable pub use Rattle.std.specs.List.Sorted.{IsStrictlySortedBy}
pub use Rattle.std.specs.Map.{keys_of}
pub use Rattle.std.specs.Map.Iter.{deref_pair, TakesFirst}
pub use Rattle.std.specs.Option.{ForSome, option_flatten, option_or, option_to_list, option_xor}
pub use Rattle.std.specs.Ordering.{bool_cmp, eq_by_cmp, is_lt, ordering_reverse, ordering_then}
pub use Rattle.std.specs.Prelude.{⊤, IfErr, IfSome, if◌then◌else◌, IsErrAnd, IsOk, IsSomeAnd, MatchResult, nat_le, nat_lt, option_and_then, option_map, slice_index, slice_index_or, SomeIff, T, unwrap_or, negsuc, unsigned_abs}
pub use Rattle.std.specs.Result.{result_ok}
pub use Rattle.std.specs.Str.{all_ascii_digits}
