-- What the text of a plan says.
use Rattle.std.specs.Prelude.{◌≡◌, ℕ, ◌≤◌, List, [], codes, Option, Some, Ok, pos}
use Rattle.std.specs.Cmp.Lexicographic.{slice_cmp}
use Rattle.std.specs.Ordering.{nat_cmp, match_ordering}
use Rattle.toml.specs.Data.{Data, integer, array, Items, Members, no_members, member, depth, items_depth, members_depth}
use Rattle.bsp_calendar.specs.PlanDocument.{PlanData, airline_of, currency_of, each, period_of, plan_data, plan_in, plan_reading, rate_of, tax_of}
use Rattle.bsp_calendar.specs.Published.{Published, opening}
use Rattle.bsp_calendar.specs.Requests.{extended}
use Rattle.bsp_calendar.specs.declared.entries.PlanText.{PlanText}
use Rattle.bsp_calendar.specs.declared.entries.Terms.{Terms}

-- ---- tables

-- members with a value at a key, in the order of the keys
abbrev pub put : List ℕ → Data → Members → Members
put key d no_members = member key d no_members
put key d (member other e rest) = match_ordering (slice_cmp nat_cmp key other) (member key d (member other e rest)) (member other d rest) (member other e (put key d rest))

-- a value that is read as this, in which arrays and tables nest no deeper than this
pub record IsValueOf {A : Type 0} (form : Data → Option A) (most : ℕ) (x : A) (d : Data) : Type 0 where
  pub reads : form d ≡ Some x
  pub flat : depth d ≤ most

-- items that are read as these entries, which are fields or tables of fields
pub record AreItemsOf {A : Type 0} (form : Data → Option A) (xs : List A) (items : Items) : Type 0 where
  pub reads : each form items ≡ Some xs
  pub flat : items_depth items ≤ 1

-- a list of these entries is put at a key
pub record PutsList {A : Type 0} (form : Data → Option A) (key : List ℕ) (xs : List A) (old new : Members) : Type 0 where
  pub items : Items
  pub are : AreItemsOf form xs items
  pub new_is : new ≡ put key (array items) old

-- the terms are put
pub record PutsTerms (terms : Terms) (old new : Members) : Type 0 where
  pub currency : Data
  pub is : IsValueOf currency_of 0 terms.currency currency
  pub new_is : new ≡ put (codes "documents_limit") (integer (pos terms.documents_limit)) (put (codes "review_days") (integer (pos terms.review_days)) (put (codes "currency") currency old))

-- the lists of a plan are put
pub record PutsLists (p : Published) (old new : Members) : Type 0 where
  pub first : Members
  pub airlines : PutsList airline_of (codes "airline") p.airlines old first
  pub second : Members
  pub rates : PutsList rate_of (codes "rate") p.rates first second
  pub third : Members
  pub periods : PutsList period_of (codes "period") p.periods second third
  pub taxes : PutsList tax_of (codes "commission_tax") p.commission_taxes third new

-- ---- the text

-- the entries of a plan with these terms
abbrev pub entries_with : Terms → Published → PlanData
entries_with terms p = record {
  terms = terms;
  airlines = p.airlines;
  rates = p.rates;
  periods = p.periods;
  commission_taxes = p.commission_taxes;
}

-- the document says the entries of the plan with these terms
pub record IsDocumentOf (terms : Terms) (p : Published) (members : Members) : Type 0 where
  pub says : plan_in members ≡ Some (entries_with terms p)
  pub flat : members_depth members ≤ 2

-- the plan on the opening day, with no period closed
abbrev pub unbegun : Published → Published
unbegun p = record p { day = opening.day; closed = [] }

-- the text says the terms and the entries of the plan, which make it from nothing, its business day and closes apart
pub record SaysPlan (p : Published) (text : List ℕ) : Type 0 where
  pub terms : Terms
  pub are_published : p.terms ≡ Some terms
  pub says : plan_reading text ≡ Ok (entries_with terms p)
  pub makes : (entries : PlanText) → plan_data entries ≡ entries_with terms p → extended opening entries ≡ Ok (unbegun p)
