-- What is made of a store that has nothing in it.
use Rattle.std.specs.Prelude.{◌≡◌}
use Rattle.sqlite.specs.Effect.{Database, IsDatabase}
use Rattle.bsp_rows.specs.Rows.{no_rows}
use Rattle.bsp_store_base.specs.Schema.{our_schema}
use Rattle.bsp_store_load.specs.Contents.{KeepsBook}

-- the book's tables and nothing else, with the rows of an empty book
pub record IsNewBook (db : Database) : Type 0 where
  pub schema : db.schema ≡ our_schema
  pub keeps : KeepsBook no_rows db.trees
  pub sound : IsDatabase db
