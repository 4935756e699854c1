-- The values that the program's types have, entry by entry. A content of other values is no book's.
use Rattle.std.specs.Prelude.{◌<◌, ◌^◌, IfSome, length, ℕ}
use Rattle.bsp_store_base.specs.Std.{AllByRecursion, entries}
use Rattle.bsp_store_base.specs.Entries.{Item, ItemKey, TallyKey}
use Rattle.bsp_rows.specs.Stored.{IsStored, IsStoredAmount}
pub use Rattle.bsp_store_columns.specs.Values.{IsAgent}
pub use Rattle.bsp_store_columns.specs.Rows.{AreTerms, IsAgentEntry, IsAirlineEntry, IsCommissionTax, IsMemoEntry, IsMeta, IsPeriod, IsRangeEntry, IsRate, IsSecondEntry, IsTaxEntry}
use Rattle.bsp_store_base.specs.Content.{Content}

pub record IsAirline (airline : ℕ) : Type 0 where
  pub has_digits : airline < 10 ^ 3

pub record IsItemEntry (e : ItemKey × Item) : Type 0 where
  pub agent : IsAgent e.0.agent
  pub number : e.0.number < 10 ^ 10
  pub period : e.1.period < 10 ^ 5
  pub stored : IsStored e.1.transaction
  pub tax : IsStoredAmount e.1.tax
  pub hundredths : e.1.hundredths < 2 ^ 16

pub record IsTallyKey (k : TallyKey) : Type 0 where
  pub agent : IsAgent k.agent
  pub airline : IsAirline k.airline
  pub period : k.period < 10 ^ 5

-- ---- a content

-- the places of rates, periods and commission taxes are integers of a store
pub record ArePlaces (c : Content) : Type 0 where
  pub rates : length c.rates < 2 ^ 63
  pub periods : length c.periods < 2 ^ 63
  pub commission_taxes : length c.commission_taxes < 2 ^ 63

pub record IsFormed (c : Content) : Type 0 where
  pub places : ArePlaces c
  pub meta : IfSome c.meta IsMeta
  pub terms : IfSome c.terms AreTerms
  pub airlines : AllByRecursion IsAirlineEntry (entries c.airlines)
  pub rates : AllByRecursion IsRate c.rates
  pub periods : AllByRecursion IsPeriod c.periods
  pub agents : AllByRecursion IsAgentEntry (entries c.agents)
  pub ranges : AllByRecursion IsRangeEntry (entries c.ranges)
  pub items : AllByRecursion IsItemEntry (entries c.items)
  pub memos : AllByRecursion IsMemoEntry (entries c.memos)
  pub tallies : AllByRecursion (λ e. IsTallyKey e.0) (entries c.tallies)
  pub commission_taxes : AllByRecursion IsCommissionTax c.commission_taxes
  pub item_taxes : AllByRecursion IsItemEntry (entries c.item_taxes)
  pub tally_taxes : AllByRecursion (λ e. IsTallyKey e.0) (entries c.tally_taxes)
  pub seconds : AllByRecursion IsSecondEntry (entries c.seconds)
