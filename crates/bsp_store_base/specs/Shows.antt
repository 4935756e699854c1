-- What a query for a whole table of the book shows.
use Rattle.std.specs.Prelude.{◌≡◌, ℕ, List, [], false, map, Vec, Result, Ok, Err, IfOk, OnOk, IsPermutation}
use Rattle.std.specs.Global.{Global}
use Rattle.bsp_store_base.specs.Sqlite.{Command, CompileError, Compiled, Error, Ghosts, HasCleanDisk, Held, IsAnswer, IsPlain, Query, Row, Select, Trees, overlay, reads_listing, state, understood}
use Rattle.bsp_store_base.specs.Schema.{our_schema}
use Rattle.bsp_store_base.specs.Content.{Content, form, width_of}
use Rattle.bsp_store_base.specs.Forms.{IsFormed}
use Rattle.bsp_store_base.specs.Kept.{KeepsRows, Part, Reads, Spares, columns_of}

-- all rows of a table, and what the query leaves
pub record ShowsAll (part : Part Content) {S : Type 0} (g : Ghosts S) (old new : Held S) (result : Result (Vec Row Global) Error) : Type 0 where
  -- the columns of each row, in some order
  pub rows : HasCleanDisk (state g new) → IfOk result (λ found. (state g old).now.schema ≡ our_schema → IsPermutation (map (columns_of (width_of part.tree)) ((state g old).now.trees part.tree)) found.items)
  -- where the trees keep a content, in the order of its keys or places
  pub order : HasCleanDisk (state g new) → IfOk result (λ found. (state g old).now.schema ≡ our_schema → (c : Content) → IsFormed c → KeepsRows form c (state g old).now.trees → found.items ≡ part.rows c)
  pub read : OnOk result (old.schema ≡ our_schema → Reads g old new)
  -- where no transaction was open, none is
  pub mode : old.in_transaction ≡ false → new.in_transaction ≡ false
  pub spares : old.schema ≡ our_schema → Spares g old new

-- all rows of a table: those of its tree in some order, and in the order of the content, where the trees keep one whose
-- values the program's types have
pub record AreAllOf (part : Part Content) (trees : Trees) (rows : List Row) : Type 0 where
  pub in_any_order : IsPermutation (map (columns_of (width_of part.tree)) (trees part.tree)) rows
  pub in_order : (c : Content) → IsFormed c → KeepsRows form c trees → rows ≡ part.rows c

-- a text means this command, and asks for no rows
abbrev pub IsCommand : Result Compiled CompileError → Command → Type 0
IsCommand (Ok c) command = c.command ≡ command
IsCommand (Err e) command = ⊥

-- a text means this query
abbrev pub IsQuery : Result Compiled CompileError → Query → List (List ℕ) → Type 0
IsQuery r query names = IsCommand r (Select (record { lets = []; body = query }) names)

-- a text for all rows of a table
pub record ShowsTable (part : Part Content) (text : List ℕ) : Type 0 where
  pub query : Query
  pub names : List (List ℕ)
  pub is : IsQuery (understood our_schema text) query names
  pub plain : IsPlain (understood our_schema text)
  pub unlisted : reads_listing our_schema text ≡ false
  pub all : (trees : Trees) (rows : List Row) → IsAnswer query (overlay trees []) [] rows → AreAllOf part trees rows
