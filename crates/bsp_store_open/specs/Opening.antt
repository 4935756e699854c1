-- What an opening finds in a store, and what it leaves.
use Rattle.std.specs.Prelude.{[], ⊤, ◌&&◌, ◌∷◌, ◌≡◌, ◌⊎◌, Bool, codes, false, IfErr, IfOk, IsPermutation, IsTrue, List, map, MatchResult, nat_le, negsuc, None, pos, Result, true, Vec, ℕ, ℤ}
use Rattle.std.specs.List.{AllByRecursion}
use Rattle.std.specs.Global.{Global}
use Rattle.bsp_store_base.specs.Sqlite.{column, Database, FailsToQuery, Ghosts, HasCleanDisk, Held, Int, IsClean, IsLive, IsNew, Opens, Row, Shown, state, Trees}
use Rattle.sqlite.specs.declared.error.Error.{Error as StoreError}
use Rattle.bsp_store_base.specs.Entries.{no_rows, Rows, Sound}
use Rattle.bsp_book.specs.Listed.{meaning as listed}
use Rattle.bsp_book.specs.declared.list.ListBook.{ListBook}
use Rattle.bsp_store_base.specs.Base.{airline_part, AreAllOf, AreInOrder, columns_of, commission_tax_part, Content, count, form, HasContents, IsFormed, IsInOrder, IsOutside, KeepsRows, meta_part, our_schema, period_part, rate_part, Reads, Spares, terms_part, version, width_of}
use Rattle.bsp_store_load.specs.Contents.{IsContentOf, KeepsBook}
use Rattle.bsp_store_load.specs.Formed.{AreFormed, IsBook}
use Rattle.bsp_store_load.specs.declared.plan_rows.PlanRows.{PlanRows}
use Rattle.bsp_store_open.specs.Faults.{is_refusal, refusal_for}
use Rattle.bsp_store_open.specs.declared.fault.OpenFault.{OpenFault}
use Rattle.bsp_store_open.specs.declared.fault.OpenFault.TheVariants.{NoRoom, Damaged, Failed, OtherVersion}

-- ---- all rows

pub record ArePlanRows (trees : Trees) (rows : PlanRows) : Type 0 where
  pub meta : AreAllOf meta_part trees rows.meta.items
  pub terms : AreAllOf terms_part trees rows.terms.items
  pub airlines : AreAllOf airline_part trees rows.airlines.items
  pub rates : AreAllOf rate_part trees rows.rates.items
  pub periods : AreAllOf period_part trees rows.periods.items
  pub commission_taxes : AreAllOf commission_tax_part trees rows.commission_taxes.items

-- the first row of `meta` has the version of this crate
pub record IsOfVersion (rows : List Row) : Type 0 where
  pub row : Row
  pub more : List Row
  pub first : rows ≡ row ∷ more
  pub version : column row 1 ≡ count version

-- ---- why a store is refused

-- a version from the first to that of this crate, so that its tables are known
abbrev pub is_known : ℤ → Bool
is_known (pos number) = nat_le 1 number && nat_le number version
is_known (negsuc number) = false

-- the first row of `meta` has a version that is not known
pub record IsOfOther (rows : List Row) : Type 0 where
  pub row : Row
  pub more : List Row
  pub first : rows ≡ row ∷ more
  pub found : ℤ
  pub has : column row 1 ≡ Int found
  pub other : is_known found ≡ false

-- the first row of `meta` has this version
pub record ShowsNumber (rows : List Row) (number : ℤ) : Type 0 where
  pub row : Row
  pub more : List Row
  pub first : rows ≡ row ∷ more
  pub has : column row 1 ≡ Int number

-- the text that asks tables for their version
abbrev pub version_text : List ℕ
version_text = codes "SELECT id, version FROM meta"

-- what a fault says of the rows of `meta`
abbrev pub Reports : OpenFault → List Row → Type 0
Reports NoRoom rows = ⊤
Reports Damaged rows = IsOfOther rows → ⊥
Reports (Failed error) rows = ⊤
Reports OtherVersion rows = IsOfOther rows

-- why tables that are not a book's are refused: for what their version says of them, or for the error
abbrev pub IsRefusalOf : Result (Vec Row Global) StoreError → OpenFault → Type 0
IsRefusalOf found fault = MatchResult found (λ rows. Reports fault rows.items × (is_refusal fault ≡ true)) (λ error. fault ≡ refusal_for error)

-- the trees keep no sound rows whose values the program's types have, and the rows of `meta`, in some order, are such as
-- the fault says
pub record ShowsNoBook (fault : OpenFault) (trees : Trees) : Type 0 where
  pub none : (rows : Rows) (c : Content) → Sound rows → IsContentOf rows c → IsFormed c → KeepsRows form c trees → ⊥
  pub meta : List Row
  pub all : IsPermutation (map (columns_of (width_of meta_part.tree)) (trees meta_part.tree)) meta
  pub reports : Reports fault meta

abbrev pub IsNoBook : OpenFault → Database → Type 0
IsNoBook fault db = db.schema ≡ our_schema → ShowsNoBook fault db.trees

-- these rows are all that the trees keep, of sound rows whose values are such as the program's types have
abbrev pub KeepsOnly : Rows → Trees → Type 0
KeepsOnly rows trees = (other : Rows) → Sound other → AreFormed other → KeepsBook other trees → other ≡ rows

-- ---- an opening, step by step

-- tables are refused as damaged, for this
abbrev pub IsDamage : (Trees → Type 0) → OpenFault → Trees → Type 0
IsDamage Missed fault trees = (fault ≡ Damaged) × Missed trees

-- the rows of each table are in the order of their rowids, which are integers
abbrev pub AreOrdered : Database → Type 0
AreOrdered db = AllByRecursion (IsInOrder db.trees) (map (λ t. t.tree) db.schema.tables)

module _ {S : Type 0} (g : Ghosts S) where
  -- so they are in what a connection shows
  abbrev pub AreAllInOrder : Held S → Type 0
  AreAllInOrder h = HasCleanDisk (state g h) → AreOrdered (state g h).now

  -- the rows of a book's tables are in the order of their rowids
  abbrev pub IsOrdered : Held S → Type 0
  IsOrdered h = HasCleanDisk (state g h) → (state g h).now.schema ≡ our_schema → AreInOrder (state g h).now.trees

  -- the tables of a book were read: this is found of them, and they are as they were
  pub record Finds (old new : Held S) (Found : Trees → Type 0) : Type 0 where
    pub ours : old.schema ≡ our_schema
    pub read : Reads g old new
    pub found : HasCleanDisk (state g new) → Found (state g old).now.trees

  -- this is found of the tables of a book, though what is looked for was missed
  abbrev pub Misses : Held S → Held S → (Trees → Type 0) → Type 0
  Misses old new Found = HasCleanDisk (state g new) → old.schema ≡ our_schema → Found (state g old).now.trees

  -- a call that reads the tables of a book: what holds of the value that it answers, and what it finds of the tables then.
  -- Where it refuses them it missed this in them. Whatever it answers, a stop leaves no more than there was
  pub record IsReading {X : Type 0} (old new : Held S) (result : Result X OpenFault) (Holds : X → Type 0) (Found : X → Trees → Type 0) (Missed : OpenFault → Trees → Type 0) : Type 0 where
    pub holds : IfOk result Holds
    pub found : IfOk result (λ x. Finds old new (Found x))
    pub refused : IfErr result (λ fault. is_refusal fault ≡ true → Misses old new (Missed fault))
    pub spares : Spares g old new

  -- a call that reads one table, and refuses only tables that are not a book's
  pub record IsTableRead {X : Type 0} (old new : Held S) (result : Result X OpenFault) (Holds : X → Type 0) (Found : X → Trees → Type 0) : Type 0 where
    pub holds : IfOk result Holds
    pub found : IfOk result (λ x. Finds old new (Found x))
    pub refused : IfErr result (λ fault. is_refusal fault ≡ true → (fault ≡ Damaged) × ¬ (old.schema ≡ our_schema))
    pub spares : Spares g old new

  -- what was read shows that there is no book of this version
  abbrev pub HasNoBook : OpenFault → Held S → Held S → Type 0
  HasNoBook fault old new = HasCleanDisk (state g new) → IsNoBook fault (state g old).now

  -- no transaction of the connection is open, and what it shows is committed
  pub record IsAtRest (h : Held S) : Type 0 where
    pub outside : h.in_transaction ≡ false
    pub settled : IsTrue (state g h).is_open → (state g h).now ≡ (state g h).committed
    pub live : IsLive (state g h)

  -- no transaction of the connection is open, and its tables have these rows
  abbrev pub KeepsAtRest : Held S → Rows → Type 0
  KeepsAtRest h rows = (c : Content) × IsContentOf rows c × (HasContents form g h c c c c × IsOutside form g h)

  -- the book in memory has these rows, which are sound, and the tables keep them
  pub record IsRead (old new : Held S) (list : ListBook) (rows : Rows) : Type 0 where
    pub listed : listed.holds list rows None
    pub sound : Sound rows
    pub formed : AreFormed rows
    pub kept : KeepsAtRest new rows
    pub earlier : HasCleanDisk (state g new) → HasCleanDisk (state g old)
    pub found : HasCleanDisk (state g new) → KeepsBook rows (state g old).now.trees
    pub only : HasCleanDisk (state g new) → KeepsOnly rows (state g old).now.trees

  -- tables that are not a book's were asked for their version, and the fault is what follows from the answer
  pub record IsAskedVersion (fault : OpenFault) (old new : Held S) : Type 0 where
    pub found : Result (Vec Row Global) StoreError
    pub rows : HasCleanDisk (state g new) → IfOk found (λ rows. Shown version_text [] (state g old) (state g new) rows.items)
    pub error : HasCleanDisk (state g new) → IfErr found (FailsToQuery version_text [] (state g old) (state g new))
    pub answer : IsRefusalOf found fault

  -- a connection over a store that was just opened: it shows what the one before it had committed
  pub record Reopens (before now : Held S) : Type 0 where
    pub earlier : HasCleanDisk (state g now) → HasCleanDisk (state g before)
    pub opens : HasCleanDisk (state g now) → Opens (state g now) × IsLive (state g now)
    pub fresh : IsNew now
    pub trees : HasCleanDisk (state g now) → (state g now).now.trees ≡ (state g before).committed.trees
    pub ordered : IsOrdered now

  -- ---- what a store leaves that is given up

  -- a store that is given up leaves to a stop no more than its connection did
  pub record SparesStore (h : Held S) (left : S) : Type 0 where
    pub earlier : IsClean (g.view left) → HasCleanDisk (state g h)
    pub leaves : IsClean (g.view left) → (db : Trees) → g.recovers left db → (state g h).may_leave db

  -- a stop leaves what was committed, or what it left before
  pub record LeavesCommitted (h : Held S) (left : S) : Type 0 where
    pub earlier : IsClean (g.view left) → HasCleanDisk (state g h)
    pub leaves : IsClean (g.view left) → (db : Trees) → g.recovers left db → (db ≡ (state g h).committed.trees) ⊎ g.recovers h.store db

  -- a stop leaves what it left before, or the whole of an empty book
  pub record LeavesEmptyBook (h : Held S) (left : S) : Type 0 where
    pub earlier : IsClean (g.view left) → HasCleanDisk (state g h)
    pub leaves : IsClean (g.view left) → (db : Trees) → g.recovers left db → g.recovers h.store db ⊎ IsBook no_rows db
