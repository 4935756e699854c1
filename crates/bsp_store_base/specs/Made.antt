-- What is in a store whose tables were made.
use Rattle.std.specs.Prelude.{[], ◌≡◌}
use Rattle.std.specs.List.{AllByRecursion}
use Rattle.bsp_store_base.specs.Sqlite.{Database, Schema, Table}

-- a database that has the tables, indexes and views of a schema, and no row in a table
pub record HasNoRows (of : Schema) (db : Database) : Type 0 where
  pub schema : db.schema ≡ of
  pub empty : AllByRecursion (λ (t : Table). db.trees t.tree ≡ []) of.tables
