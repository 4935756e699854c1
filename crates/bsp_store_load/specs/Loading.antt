-- Rows of a table that are put into memory one at a time, each as an entry.
use Rattle.std.specs.Prelude.{[], ◌++◌, ◌∷◌, ◌≡◌, Bool, false, IfSome, IsPermutation, List, map, None, Option, Some, true}
use Rattle.std.specs.List.{list_any}
use Rattle.bsp_store_base.specs.Sqlite.{Blob, Int, Null, Real, Row, Text, Trees, Value}
use Rattle.bsp_store_base.specs.Base.{AreAllOf, columns_of, Content, Part, width_of}

abbrev pub is_real : Value → Bool
is_real Null = false
is_real (Int n) = false
is_real (Real x) = true
is_real (Text t) = false
is_real (Blob b) = false

abbrev pub has_real : Row → Bool
has_real row = list_any is_real row

module _ {E W : Type 0} (step : E → W → W) where
  abbrev pub after_all : List E → W → W
  after_all [] rows = rows
  after_all (e ∷ es) rows = after_all es (step e rows)

  -- each may be put into the rows that those before it made
  abbrev pub MayAll : (E → W → Type 0) → List E → W → Type 0
  MayAll may [] rows = Unit {0}
  MayAll may (e ∷ es) rows = may e rows × MayAll may es (step e rows)

-- the trees have the rows of a content in a table, in some order
abbrev pub HasRows : Part Content → Content → Trees → Type 0
HasRows part c trees = IsPermutation (map (columns_of (width_of part.tree)) (trees part.tree)) (part.rows c)

-- a row, if there is one, and those after it
abbrev pub and_after : Option Row → List Row → List Row
and_after None after = []
and_after (Some row) after = row ∷ after

-- W is what the rows are put into, as clauses see it
module _ (part : Part Content) {E W : Type 0} (row_of : E → Row) (with_entry : E → W → W) (fits : E → Type 0) (lacks : E → W → Type 0) (rows_in : W → List Row) where
  -- the entry may be put into memory
  abbrev pub MayPut : E → W → Type 0
  MayPut e whole = fits e × lacks e whole

  -- the rows of the table that the trees have, in the order in which they were read, and what those put have made of what
  -- is in memory: all of them, or all before one that was left
  pub record IsLoaded (trees : Trees) (old new : W) (left : Option Row) : Type 0 where
    pub before : List Row
    pub after : List Row
    pub are : AreAllOf part trees (before ++ and_after left after)
    pub put : IsPermutation (before ++ rows_in old) (rows_in new)
    pub made : (es : List E) × (new ≡ after_all with_entry es old)
    -- the row that was left is that of no entry that may be put
    pub refused : IfSome left (λ r. (e : E) → MayPut e new → r ≡ row_of e → ⊥)
    -- so none is left where they are the rows of entries that may be put
    pub entries : (es : List E) → MayAll with_entry MayPut es old → before ++ and_after left after ≡ map row_of es → (left ≡ None) × (new ≡ after_all with_entry es old)

  -- a row was left
  abbrev pub LeavesRow : Trees → W → W → Type 0
  LeavesRow trees old new = (row : Row) × IsLoaded trees old new (Some row)
