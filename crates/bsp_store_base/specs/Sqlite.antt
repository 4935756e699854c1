-- The names of SQLite's crates that the definitions and the proofs cite, passed on from one place. Declares nothing.
pub use Rattle.sqlite.specs.Clock.{timed}
pub use Rattle.sqlite.specs.Does.{AtPlace, Does, lacks_sequence, MakesSequence, MakesTable, no_rows, OnRows, OnTable, Tally, WritesRows}
pub use Rattle.sqlite.specs.Effect.{Database, IsDatabase, value_rows}
pub use Rattle.sqlite.specs.Files.{FailsToOpenFiles, file_state, IsCleanLeft, LeavesFiles, over_files}
pub use Rattle.sqlite.specs.Given.{IsPlain}
pub use Rattle.sqlite.specs.Held.{Held, IsNew, state}
pub use Rattle.sqlite.specs.Listing.{if_select, is_select, reads_listing}
unfoldable pub use Rattle.sqlite.specs.Listing.{understood}
pub use Rattle.sqlite.specs.Rows.{count_of, Gives, rowids_for, stamped, Task, Then, Written}
pub use Rattle.sqlite.specs.State.{Begins, Executes, FailsToQuery, HasCleanDisk, IsLive, IsMisplaced, IsRolledBack, IsUnchanged, KeepsCommit, MayCommit, mode_of, Opens, Runs, RunsCommand, Shows, shows_rows, ShowsRows, State, Survives, text_of, Writes}
unfoldable pub use Rattle.sqlite.specs.State.{CommitsBy, CommitsShowing, ExecutesIn, IsNotRun, Shown}
pub use Rattle.sqlite.specs.Steps.{IsFresh, over_memory}
pub use Rattle.sqlite.specs.Values.{bound, bound_value, or_null}
pub use Rattle.sqlite.specs.declared.error.Error.{Error}
pub use Rattle.sqlite.specs.declared.error.Error.TheVariants.{SqliteFailure}
pub use Rattle.sqlite.specs.declared.error.ErrorCode.TheVariants.{CannotOpen, DatabaseBusy, OutOfMemory, TooBig}
pub use Rattle.sqlite_catalog.specs.Listing.{IsSound}
pub use Rattle.sqlite_resolve.specs.Compile.{returning_by, table_defined_by, with_command}
unfoldable pub use Rattle.sqlite_resolve.specs.Compile.{compiled, first, meaning, planned, returning}
pub use Rattle.sqlite_resolve.specs.declared.compiled.Compiled.{Compiled}
pub use Rattle.sqlite_resolve.specs.declared.error.CompileError.{CompileError}
pub use Rattle.sqlite_rules.specs.Action.{works}
pub use Rattle.sqlite_rules.specs.Cast.{cast, cast_all, cast_row}
pub use Rattle.sqlite_rules.specs.Edit.{are_fresh, edit_of, id_in, is_taken, IsNoIndex, next_rowid, numbered, put_all, taken_by, without_all}
pub use Rattle.sqlite_schema.specs.declared.command.Command.{Command}
pub use Rattle.sqlite_schema.specs.declared.command.Command.TheVariants.{Begin, Commit, CreateTable, Delete, Insert, Release, Rollback, Select, Update}
pub use Rattle.sqlite_schema.specs.declared.command.Returning.{Returning}
pub use Rattle.sqlite_schema.specs.declared.command.Source.TheVariants.{Values}
pub use Rattle.sqlite_schema.specs.declared.schema.Column.{Column}
pub use Rattle.sqlite_schema.specs.declared.schema.Index.{Index}
pub use Rattle.sqlite_schema.specs.declared.schema.Keys.TheVariants.{Enforced}
pub use Rattle.sqlite_schema.specs.declared.schema.Kind.TheVariants.{Integer}
pub use Rattle.sqlite_schema.specs.declared.schema.Schema.{Schema}
pub use Rattle.sqlite_schema.specs.declared.schema.Table.{Table}
pub use Rattle.sqlite_sql.specs.Ops.{from_truth, is_true}
unfoldable pub use Rattle.sqlite_sql.specs.Ops.{binary}
pub use Rattle.sqlite_sql.specs.Program.{overlay}
pub use Rattle.sqlite_sql.specs.Query.{end, inner, IsAnswer, key_cmp, Output, output, output_cmp, Query}
pub use Rattle.sqlite_sql.specs.Term.{col, eval_all, holds, lit, op2, Term}
pub use Rattle.sqlite_sql.specs.declared.ops.BinaryOp.TheVariants.{Compare}
pub use Rattle.sqlite_sql.specs.declared.ops.CompareOp.TheVariants.{Eq}
unfoldable pub use Rattle.sqlite_tied.specs.Compute.{everything}
pub use Rattle.sqlite_trees.specs.Objects.{catalog_tree, IsListed}
pub use Rattle.sqlite_trees.specs.Tree.{has_rowid, IsAscending, IsTable, put_row, rowid, Trees, without_rowid}
pub use Rattle.sqlite_trees.specs.View.{doubt, is_int, IsClean, IsQuiet}
pub use Rattle.sqlite_trees.specs.declared.store.Store.{Ghosts}
pub use Rattle.sqlite_value.specs.Keys.{ascending, plain}
pub use Rattle.sqlite_value.specs.Order.{column, Row, value_cmp}
pub use Rattle.sqlite_value.specs.Value.{owned}
pub use Rattle.sqlite_value.specs.declared.keys.Collation.TheVariants.{Binary}
pub use Rattle.sqlite_value.specs.declared.keys.Key.{Key}
pub use Rattle.sqlite_value.specs.declared.value.Value.{Value}
pub use Rattle.sqlite_value.specs.declared.value.Value.TheVariants.{Blob, Int, Null, Real, Text}
