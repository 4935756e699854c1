-- The names of SQLite's crates and its lemmas that the proofs cite, passed on from one place. Declares nothing.
pub use Rattle.sqlite.proofs.Callers.{begins_shown, begun_plain, command_of, EndsIn, given_begin, IsPlain, never_commits, one_permutation, one_step, reads_as, runs_as, statement_of, survives_begin, through, unchanged_then}
pub use Rattle.sqlite.proofs.StateLemmas.{survives_then, survives_weaker}
pub use Rattle.sqlite.specs.Effect.{Database, IsDatabase}
pub use Rattle.sqlite.specs.Held.{Held, state}
pub use Rattle.sqlite.specs.Listing.{reads_listing}
unfoldable pub use Rattle.sqlite.specs.Listing.{understood}
pub use Rattle.sqlite.specs.State.{Executes, HasCleanDisk, IsUnchanged, State, Survives}
unfoldable pub use Rattle.sqlite.specs.State.{CommitsBy, CommitsShowing, ExecutesIn, IsNotRun, Shown}
pub use Rattle.sqlite.specs.Values.{bound, or_null}
pub use Rattle.sqlite.specs.declared.error.Error.{Error}
pub use Rattle.sqlite_catalog.specs.Listing.{IsSound, Lists}
pub use Rattle.sqlite_resolve.specs.Compile.{table_defined_by}
pub use Rattle.sqlite_rules.specs.Cast.{cast, cast_all}
pub use Rattle.sqlite_schema.specs.declared.command.Command.TheVariants.{Delete, Insert, Select, Update}
pub use Rattle.sqlite_schema.specs.declared.schema.Schema.{Schema}
pub use Rattle.sqlite_schema.specs.declared.schema.Table.{Table}
pub use Rattle.sqlite_sql.specs.Query.{Output}
pub use Rattle.sqlite_sql.specs.Term.{col, eval_all, holds, lit}
unfoldable pub use Rattle.sqlite_tied.specs.Compute.{everything}
pub use Rattle.sqlite_trees.proofs.ListLemmas.{all-append, all-filter, all-map, all-permutation, all_both, all_from_map, all_of, all_weaker, ascending-filter, filter-map, filter_all, filter_none, filter_same, IsPermutation-filter, map-map}
pub use Rattle.sqlite_trees.specs.Objects.{catalog_tree}
pub use Rattle.sqlite_trees.specs.Tree.{IsAscending, IsTable, rowid, Trees}
pub use Rattle.sqlite_trees.specs.View.{is_int, IsClean, IsQuiet}
pub use Rattle.sqlite_trees.specs.declared.store.Store.{Ghosts}
pub use Rattle.sqlite_value.proofs.OrderLemmas.{then-Equal, value_cmp-Int, value_cmp-Text, value_cmp_total}
pub use Rattle.sqlite_value.specs.Order.{column, Row}
pub use Rattle.sqlite_value.specs.declared.value.Value.{Value}
pub use Rattle.sqlite_value.specs.declared.value.Value.TheVariants.{Blob, Int, Null, Real, Text}
