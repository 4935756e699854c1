-- Rows whose values are such as the program's types have.
use Rattle.std.specs.Prelude.{◌<◌, ◌^◌, ◌≡◌, IfSome, IsTrue, length, List, Some, true, ℕ}
use Rattle.bsp_store_base.specs.Std.{AllByRecursion, FinMap, get, Ordering}
use Rattle.bsp_store_base.specs.Sqlite.{IsDatabase, Trees}
use Rattle.bsp_store_base.specs.Entries.{is_day, Item, ItemKey, MemoFields, MemoKey, Published, Rows}
use Rattle.bsp_rows.specs.Tokens.{is_token}
use Rattle.bsp_memory_rows.specs.Tables.{IsDerived, rows_of}
use Rattle.bsp_memory_rows.specs.declared.tables.Tables.{Tables}
use Rattle.bsp_store_base.specs.Base.{AreTerms, IsAgent, IsAgentEntry, IsAirline, IsCommissionTax, IsItemEntry, IsMemoEntry, IsPeriod, IsRangeEntry, IsRate, our_schema}
use Rattle.bsp_store_load.specs.Contents.{KeepsBook}

-- a condition on each entry of a map
abbrev pub OnEach : {K X : Type 0} {R : K → K → Ordering} → (K × X → Type 0) → FinMap R X → Type 0
OnEach {K} {X} P m = (k : K) (x : X) → get m k ≡ Some x → P (k, x)

-- the entries of a plan, and how many there are
pub record IsFormedPublished (p : Published) : Type 0 where
  pub day : IsTrue (is_day p.day)
  pub terms : IfSome p.terms AreTerms
  pub airlines : AllByRecursion IsAirline p.airlines
  pub rates : AllByRecursion IsRate p.rates
  pub periods : AllByRecursion IsPeriod p.periods
  pub commission_taxes : AllByRecursion IsCommissionTax p.commission_taxes
  pub closed_count : length p.closed < 2 ^ 63
  pub airline_count : length p.airlines < 2 ^ 63
  pub rate_count : length p.rates < 2 ^ 63
  pub period_count : length p.periods < 2 ^ 63
  pub commission_tax_count : length p.commission_taxes < 2 ^ 63

-- a registered airline and its token
pub record IsRegisteredAirline (e : ℕ × List ℕ) : Type 0 where
  pub airline : IsAirline e.0
  pub token : is_token e.1 ≡ true

-- an item and a memo under their keys; the tally of each is that of the agent and of the airline that it bears
pub record IsFormedItem (e : ItemKey × Item) : Type 0 where
  pub entry : IsItemEntry e
  pub agent : IsAgent e.1.agent

pub record IsFormedMemo (e : MemoKey × MemoFields) : Type 0 where
  pub entry : IsMemoEntry e
  pub airline : IsAirline e.1.airline

pub record AreFormed (rows : Rows) : Type 0 where
  pub plan : IsFormedPublished rows.published
  pub agents : OnEach IsAgentEntry rows.agents
  pub airlines : OnEach IsRegisteredAirline rows.airlines
  pub ranges : OnEach IsRangeEntry rows.ranges
  pub items : OnEach IsFormedItem rows.items
  pub memos : OnEach IsFormedMemo rows.memos

-- tables in memory whose indexes and tallies follow from the rows, and whose values are such as the program's types have
pub record AreWhole (tables : Tables) : Type 0 where
  pub derived : IsDerived tables
  pub formed : AreFormed (rows_of tables)

-- trees with the tables of a book and nothing else, which keep these rows
pub record IsBook (rows : Rows) (trees : Trees) : Type 0 where
  pub formed : AreFormed rows
  pub keeps : KeepsBook rows trees
  pub sound : IsDatabase (record { schema = our_schema; trees = trees })
