-- The rows of the plan's tables, and what tables in memory are as a commit leaves them.
use Rattle.std.specs.Prelude.{[], ◌<◌, ◌^◌, ◌∷◌, ◌≡◌, IfSome, IsOk, IsTrue, length, List, map, None, Option, option_map, Some, ℕ}
use Rattle.bsp_store_base.specs.Std.{AllByRecursion, entries, FinMap, insert, nat_cmp, Ordering}
use Rattle.bsp_store_base.specs.Entries.{after_request, Close, is_day, Period, Published, request_answer, Rows}
use Rattle.bsp_store_base.specs.Base.{airline_entries, airline_row, AreTerms, commission_tax_row, entry_of, IsAirlineEntry, IsCommissionTax, IsPeriod, IsRate, meta_rows, period_row, placed, rate_row, terms_rows}
use Rattle.bsp_store_columns.specs.declared.airlines.AirlineEntry.{AirlineEntry}
use Rattle.bsp_memory_rows.specs.declared.tables.Tables.{Tables}
use Rattle.bsp_memory_rows.specs.Tables.{IsDerived, WasDerived, committed_rows, rows_of}
use Rattle.bsp_store_load.specs.Formed.{IsRegisteredAirline, OnEach}
use Rattle.bsp_store_load.specs.declared.plan_rows.PlanRows.{PlanRows}

-- the tables as a commit leaves them
pub record AreCommitted (tables : Tables) : Type 0 where
  pub committed : committed_rows tables ≡ rows_of tables
  pub derived : IsDerived tables
  pub was_derived : WasDerived tables

-- ---- the plan

-- they are the rows of the plan and of airlines with these tokens, table by table, each in the order of its entries
pub record AreRowsOfPlan (p : Published) (tokens : FinMap nat_cmp (List ℕ)) (rows : PlanRows) : Type 0 where
  pub meta : rows.meta.items ≡ meta_rows (Some (record { day = p.day; closed = length p.closed }))
  pub terms : rows.terms.items ≡ terms_rows p.terms
  pub airlines : rows.airlines.items ≡ map airline_row (entries (airline_entries p.airlines tokens))
  pub rates : rows.rates.items ≡ map rate_row (placed 0 p.rates)
  pub periods : rows.periods.items ≡ map period_row (placed 0 p.periods)
  pub commission_taxes : rows.commission_taxes.items ≡ map commission_tax_row (placed 0 p.commission_taxes)

-- the values are such as the program's types have, and the places are integers of a store
pub record IsFormedPlan (p : Published) (tokens : FinMap nat_cmp (List ℕ)) : Type 0 where
  pub day : IsTrue (is_day p.day)
  pub closed : length p.closed < 2 ^ 63
  pub terms : IfSome p.terms AreTerms
  pub airlines : AllByRecursion IsAirlineEntry (entries (airline_entries p.airlines tokens))
  pub rates : AllByRecursion IsRate p.rates
  pub periods : AllByRecursion IsPeriod p.periods
  pub commission_taxes : AllByRecursion IsCommissionTax p.commission_taxes
  pub rate_places : length p.rates < 2 ^ 63
  pub period_places : length p.periods < 2 ^ 63
  pub commission_tax_places : length p.commission_taxes < 2 ^ 63

-- an airline that has a place or a token
pub record IsListedAirline (e : ℕ × AirlineEntry) : Type 0 where
  pub formed : IsAirlineEntry e
  pub some : entry_of e.1.place e.1.token ≡ Some e.1

-- ---- the plan and the tokens of airlines, put into tables

-- the plan alone is changed, and what follows from the rows still does
pub record ChangesPlan (old new : Tables) : Type 0 where
  pub derived : IsDerived old → IsDerived new
  pub others : rows_of new ≡ record (rows_of old) { published = (rows_of new).published }

-- the tokens of airlines alone are changed, to those of registered airlines
pub record ChangesTokens (old new : Tables) : Type 0 where
  pub derived : IsDerived old → IsDerived new
  pub registered : OnEach IsRegisteredAirline (rows_of old).airlines → OnEach IsRegisteredAirline (rows_of new).airlines
  pub others : rows_of new ≡ record (rows_of old) { airlines = (rows_of new).airlines }

-- both are
pub record PutsPlan (old new : Tables) : Type 0 where
  pub derived : IsDerived old → IsDerived new
  pub registered : OnEach IsRegisteredAirline (rows_of old).airlines → OnEach IsRegisteredAirline (rows_of new).airlines
  pub others : rows_of new ≡ record (rows_of old) { published = (rows_of new).published; airlines = (rows_of new).airlines }

-- ---- periods that are closed one after another

abbrev pub closing : ℕ × Period → Rows → Rows
closing e = after_request (Close e.1.code)

abbrev pub MayClose : (Period → Type 0) → ℕ × Period → Rows → Type 0
MayClose P e rows = P e.1 × IsOk (request_answer (Close e.1.code) rows)

-- ---- what rows read as

-- each row is that of its value, and there are as many of each
abbrev pub AreReadAs : {Row V : Type 0} → (V → Row → Type 0) → List Row → List V → Type 0
AreReadAs is_in [] [] = Unit {0}
AreReadAs is_in [] (v ∷ values) = ⊥
AreReadAs is_in (row ∷ rows) [] = ⊥
AreReadAs is_in (row ∷ rows) (v ∷ values) = is_in v row × AreReadAs is_in rows values

-- ---- maps of the pairs that the elements of a list give

module _ {K V : Type 0} {R : K → K → Ordering} where
  -- with this value at this key, if there is one
  abbrev pub with_pair : Option (K × V) → FinMap R V → FinMap R V
  with_pair None m = m
  with_pair (Some e) m = insert m e.0 e.1

  -- with the pair of each element, one after another
  abbrev pub gathered : {A : Type 0} → (A → Option (K × V)) → List A → FinMap R V → FinMap R V
  gathered f [] m = m
  gathered f (x ∷ xs) m = gathered f xs (with_pair (f x) m)

-- an airline by its place, and its token by the airline
abbrev pub placed_code : ℕ × AirlineEntry → Option (ℕ × ℕ)
placed_code e = option_map (λ place. (place, e.0)) e.1.place

abbrev pub code_token : ℕ × AirlineEntry → Option (ℕ × List ℕ)
code_token e = option_map (λ token. (e.0, token)) e.1.token
