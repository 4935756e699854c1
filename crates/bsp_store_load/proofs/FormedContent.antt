-- Rows whose values the program's types have: their content, and what each write of the office leaves.
use Rattle.bsp_store_base.proofs.Std.{[], ◌++◌, ◌+◌, ◌<◌, ◌==◌, ◌^◌, ◌∙◌, ◌∷◌, ◌≡◌, ◌≤◌, AllByRecursion, and_parts, arith, Bool, cond, cons_option, empty, entries, eq_by_cmp, eqb-true, Err, false, filter, filter_map, FinMap, ForSome, get, get-empty, get-insert, get-remove, IfOk, IfSome, if◌then◌else◌, inl, inr, insert, IsAntisymmetric, IsTotalOrder, IsTrue, length, List, map, nat_cmp-IsAntisymmetric, nat_cmp_total, nat_lt, None, not, Ok, Option, option_or, or_cases, Ordering, refl, remove, Result, slice_index_or, Some, subst, sym, true, values, ℕ}
use Rattle.bsp_store_base.proofs.Entries.{changed, changed_to, CivilDay, Close, ended, is_closed, is_day, Item, item_exact, item_total, ItemKey, key_of, key_tally, memo_exact, memo_key, memo_total, MemoFields, MemoKey, no_rows, outcome, plan_left, PlanFault, Published, range_exact, range_key, range_total, ReportedDocument, Rows, same_key, same_Some, second_of, SetDay, Tally, tally_exact, tally_of, tally_total, TallyKey, with_agent_token, with_airline_token, with_billing, with_end, with_item, with_memo, with_range, without_range}
use Rattle.bsp_rows.specs.Billing.{billed_in}
use Rattle.bsp_rows.specs.Owed.{is_period}
use Rattle.bsp_rows.specs.PlanFault.TheVariants.{NotEarliest, NotOver}
use Rattle.bsp_rows.specs.Requests.{closing, has_code, is_over, next_open, on_day, with_closed}
use Rattle.bsp_rows.specs.Range.{Range}
use Rattle.bsp_rows.specs.PostingsTallies.{is_item_under, is_memo_under}
use Rattle.bsp_rows.specs.Stored.{InEach, IsStoredDocument}
use Rattle.bsp_memory_rows.specs.Lookups.{has_rows}
use Rattle.bsp_store_base.proofs.Base.{airline_entries, Content, content_with, entries-seconds_of, entry_of, get-airline_entries, IsAgent, IsAgentEntry, IsAirline, IsAirlineEntry, IsFormed, IsItemEntry, IsMemoEntry, IsRangeEntry, IsSecondEntry, IsTallyKey, place_among, place_of, placed, second_entry, second_pair, ticket}
use Rattle.bsp_store_columns.specs.declared.airlines.AirlineEntry.{AirlineEntry}
use Rattle.bsp_store_load.specs.Contents.{IsContentOf, used}
use Rattle.bsp_store_load.specs.Formed.{AreFormed, IsFormedItem, IsFormedMemo, IsFormedPublished, IsRegisteredAirline, OnEach}
use Rattle.bsp_store_load.proofs.CloseLemmas.{of_entries}

-- ---- conditions on each entry of a map

module _ {K X : Type 0} {R : K → K → Ordering} (o : IsTotalOrder R) (exact : IsAntisymmetric R) (P : K × X → Type 0) where
  -- at a key that is tied with another there is what is at that one
  at_key : (q k : K) (x y : X) → eq_by_cmp R q k ≡ true → Some x ≡ Some y → P (k, x) → P (q, y)
  at_key q k x y tie is own = subst P (λ i. (sym (same_key exact q k tie) i, same_Some x y is i)) own

  pub each_inserted : (m : FinMap R X) (k : K) (x : X) → P (k, x) → OnEach P m → OnEach P (insert m k x)
  each_inserted m k x own each q y at = go (eq_by_cmp R q k) refl (sym (get-insert o m k x q) ∙ at)
    where
      go : (b : Bool) → eq_by_cmp R q k ≡ b → cond b (Some x) (get m q) ≡ Some y → P (q, y)
      go true tie is = at_key q k x y tie is own
      go false tie is = each q y is

  each_removed : (m : FinMap R X) (k : K) → OnEach P m → OnEach P (remove m k)
  each_removed m k each q y at = go (eq_by_cmp R q k) (sym (get-remove o m k q) ∙ at)
    where
      go : (b : Bool) → cond b None (get m q) ≡ Some y → P (q, y)
      go true is = absurd (cc is)
      go false is = each q y is

  each_changed : (m : FinMap R X) (k : K) (change : X → X) → ((x : X) → P (k, x) → P (k, change x)) → OnEach P m → OnEach P (changed change k m)
  each_changed m k change so each = go (get m k) refl
    where
      go : (found : Option X) → get m k ≡ found → OnEach P (changed_to change k found m)
      go None is = each
      go (Some x) is = each_inserted m k (change x) (so x (each k x is)) each

  pub each_empty : OnEach P (empty {R = R})
  each_empty k x at = absurd (let none = sym (get-empty R k) ∙ at in cc none)

-- ---- airlines

-- each published airline, and its place up to the number of all
placed_formed : (total n : ℕ) (ps : List ℕ) → n + length ps ≤ total → AllByRecursion IsAirline ps → AllByRecursion (λ e. IsAirline e.1 × (e.0 ≤ total)) (placed n ps)
placed_formed total n [] within all = tt
placed_formed total n (p ∷ ps) within all = ((all.0, omega arith), placed_formed total (n + 1) ps (omega arith) all.1)

-- what is true of each place and its airline is true of the place of an airline
at_place : (P : ℕ × ℕ → Type 0) (a : ℕ) (es : List (ℕ × ℕ)) (place : ℕ) → AllByRecursion P es → place_among a es ≡ Some place → P (place, a)
at_place P a [] place all is = absurd (cc is)
at_place P a (e ∷ es) place all is = go (at_place P a es place all.1) (place_among a es) refl (a == e.1) refl is
  where
    go : (place_among a es ≡ Some place → P (place, a)) → (later : Option ℕ) → place_among a es ≡ later → (b : Bool) → (a == e.1) ≡ b → option_or later (cond b (Some e.0) None) ≡ Some place → P (place, a)
    go rest (Some found) there b tie at = rest (there ∙ at)
    go rest None there true tie at = subst P (λ i. (same_Some e.0 place at i, sym (eqb-true a e.1 tie) i)) all.0
    go rest None there false tie at = absurd (cc at)

module _ (rows : Rows) (formed : AreFormed rows) where
  airline_formed : (q : ℕ) (a : AirlineEntry) → get (airline_entries rows.published.airlines rows.airlines) q ≡ Some a → IsAirlineEntry (q, a)
  airline_formed q a at = go (place_of q rows.published.airlines) refl (get rows.airlines q) refl (sym (get-airline_entries rows.airlines rows.published.airlines q) ∙ at)
    where
      all_placed : AllByRecursion (λ e. IsAirline e.1 × (e.0 ≤ length rows.published.airlines)) (placed 0 rows.published.airlines)
      all_placed = placed_formed (length rows.published.airlines) 0 rows.published.airlines (omega arith) formed.plan.airlines

      stored : (place : ℕ) → place ≤ length rows.published.airlines → ForSome (Some place) (λ n. n < 2 ^ 63)
      stored place within n is = subst (λ (m : ℕ). m < 2 ^ 63) (same_Some place n is) (omega (arith, within, formed.plan.airline_count))

      go : (place : Option ℕ) → place_of q rows.published.airlines ≡ place → (token : Option (List ℕ)) → get rows.airlines q ≡ token → entry_of place token ≡ Some a → IsAirlineEntry (q, a)
      go None unplaced None none is = absurd (cc is)
      go None unplaced (Some token) there is =
          let own = formed.airlines q token there in
          subst (λ (e : AirlineEntry). IsAirlineEntry (q, e)) (same_Some _ a is) ((own.airline.has_digits, (λ x other. absurd (cc other)), own.token))
      go (Some place) there None none is =
          let own = at_place (λ e. IsAirline e.1 × (e.0 ≤ length rows.published.airlines)) q (placed 0 rows.published.airlines) place all_placed there in
          subst (λ (e : AirlineEntry). IsAirlineEntry (q, e)) (same_Some _ a is) ((own.0.has_digits, stored place own.1, tt))
      go (Some place) there (Some token) has is =
          let own = at_place (λ e. IsAirline e.1 × (e.0 ≤ length rows.published.airlines)) q (placed 0 rows.published.airlines) place all_placed there in
          subst (λ (e : AirlineEntry). IsAirlineEntry (q, e)) (same_Some _ a is)
          ((own.0.has_digits, stored place own.1, (formed.airlines q token has).token))

-- ---- tallies

-- some element passes the test
some_passes : {A : Type 0} (P : A → Type 0) (test : A → Bool) (Q : Type 0) (xs : List A) → AllByRecursion P xs → ((x : A) → P x → test x ≡ true → Q) → nat_lt 0 (length (filter test xs)) ≡ true → Q
some_passes P test Q [] all so more = absurd (cc more)
some_passes P test Q (x ∷ xs) all so more = go (some_passes P test Q xs all.1 so) (test x) refl
  where
    go : (nat_lt 0 (length (filter test xs)) ≡ true → Q) → (b : Bool) → test x ≡ b → Q
    go rest true passes = so x all.0 passes
    go rest false fails = rest (rw fails at more)

of_values : {K X : Type 0} (P : X → Type 0) (es : List (K × X)) → AllByRecursion (λ e. P e.1) es → AllByRecursion P (map (λ e. e.1) es)
of_values P [] all = tt
of_values P (e ∷ es) all = (all.0, of_values P es all.1)

-- what a tally's key needs of an item and of a memo
pub record IsTalliedItem (i : Item) : Type 0 where
  pub agent : IsAgent i.agent
  pub airline : IsAirline i.transaction.document.airline
  pub period : i.period < 10 ^ 5

pub record IsTalliedMemo (m : MemoFields) : Type 0 where
  pub agent : IsAgent m.agent
  pub airline : IsAirline m.airline
  pub billed : IfSome m.billed (λ period. period < 10 ^ 5)

item_tallied : (k : TallyKey) (i : Item) → IsTalliedItem i → is_item_under (key_tally k) i ≡ true → IsTallyKey k
item_tallied k i formed under =
    let agent = and_parts (i.agent == k.agent) _ under in
    let airline = and_parts (i.transaction.document.airline == k.airline) _ agent.1 in
    record {
      agent = subst IsAgent (eqb-true i.agent k.agent agent.0) formed.agent;
      airline = subst IsAirline (eqb-true i.transaction.document.airline k.airline airline.0) formed.airline;
      period = subst (λ (n : ℕ). n < 10 ^ 5) (eqb-true i.period k.period airline.1) formed.period;
    }

memo_tallied : (k : TallyKey) (m : MemoFields) → IsTalliedMemo m → is_memo_under (key_tally k) m ≡ true → IsTallyKey k
memo_tallied k m formed under =
    let agent = and_parts (m.agent == k.agent) _ under in
    let airline = and_parts (m.airline == k.airline) _ agent.1 in
    record {
      agent = subst IsAgent (eqb-true m.agent k.agent agent.0) formed.agent;
      airline = subst IsAirline (eqb-true m.airline k.airline airline.0) formed.airline;
      period = of_billed m.billed formed.billed airline.1;
    }
  where
    of_billed : (billed : Option ℕ) → IfSome billed (λ period. period < 10 ^ 5) → is_period k.period billed ≡ true → k.period < 10 ^ 5
    of_billed None all is = absurd (cc is)
    of_billed (Some period) all is = subst (λ (n : ℕ). n < 10 ^ 5) (eqb-true period k.period is) all

module _ (rows : Rows) (formed : AreFormed rows) where
  items_tallied : AllByRecursion IsTalliedItem (values rows.items)
  items_tallied = of_values IsTalliedItem (entries rows.items)
      (of_entries item_total item_exact (λ e. IsTalliedItem e.1) rows.items (λ k i at. let own = formed.items k i at in record { agent = own.agent; airline = record { has_digits = own.entry.stored.document.airline }; period = own.entry.period }))

  memos_tallied : AllByRecursion IsTalliedMemo (values rows.memos)
  memos_tallied = of_values IsTalliedMemo (entries rows.memos)
      (of_entries memo_total memo_exact (λ e. IsTalliedMemo e.1) rows.memos (λ k m at. let own = formed.memos k m at in record { agent = search own.entry; airline = own.airline; billed = search own.entry }))

  -- a key to whose tally some row adds
  tally_formed : (k : TallyKey) → has_rows (tally_of k rows) ≡ true → IsTallyKey k
  tally_formed k has = elim (or_cases (nat_lt 0 (tally_of k rows).accepted) (nat_lt 0 (tally_of k rows).memo_count) has) [
    | inl some ↦ some_passes IsTalliedItem (is_item_under (key_tally k)) (IsTallyKey k) (values rows.items) items_tallied (item_tallied k) some
    | inr some ↦ some_passes IsTalliedMemo (is_memo_under (key_tally k)) (IsTallyKey k) (values rows.memos) memos_tallied (memo_tallied k) some
  ]

  used_formed : (k : TallyKey) (t : Tally) → used (tally_of k rows) ≡ Some t → IsTallyKey k
  used_formed k t is = go (has_rows (tally_of k rows)) refl is
    where
      go : (b : Bool) → has_rows (tally_of k rows) ≡ b → cond b (Some (tally_of k rows)) None ≡ Some t → IsTallyKey k
      go true has at = tally_formed k has
      go false has at = absurd (cc at)

-- ---- second documents

second_in_each : (places : List (Option ReportedDocument)) (d : ReportedDocument) → InEach IsStoredDocument places → slice_index_or places 1 None ≡ Some d → IsStoredDocument d
second_in_each [] d all is = absurd (cc is)
second_in_each (first ∷ []) d all is = absurd (cc is)
second_in_each (first ∷ second ∷ others) d all is = let own : IfSome (Some d) IsStoredDocument = subst (λ o. IfSome o IsStoredDocument) is all.1.0 in own

seconds_each : (es : List (ItemKey × Item)) → AllByRecursion IsItemEntry es → AllByRecursion IsSecondEntry (filter_map second_entry es)
seconds_each [] formed = tt
seconds_each (e ∷ es) formed = go (seconds_each es formed.1) e.0.is_canx (second_of e.1.transaction) refl
  where
    go : AllByRecursion IsSecondEntry (filter_map second_entry es) → (b : Bool) (o : Option ReportedDocument) → second_of e.1.transaction ≡ o → AllByRecursion IsSecondEntry (cons_option (second_pair b (ticket e.0) o) (filter_map second_entry es))
    go rest true o is = rest
    go rest false None is = rest
    go rest false (Some d) is = let document = second_in_each e.1.transaction.related d formed.0.stored.related is in ((formed.0.agent, formed.0.number, document.airline, document.number), rest)

-- ---- the content

pub formed_content : (rows : Rows) (c : Content) → AreFormed rows → IsContentOf rows c → IsFormed c
formed_content rows c formed of =
    let items : AllByRecursion IsItemEntry (entries rows.items) = of_entries item_total item_exact IsItemEntry rows.items (λ k i at. (formed.items k i at).entry) in
    let tallies : AllByRecursion (λ e. IsTallyKey e.0) (entries c.tallies) =
    of_entries tally_total tally_exact (λ e. IsTallyKey e.0) c.tallies (λ k t at. used_formed rows formed k t (sym (of.tallies k) ∙ at)) in
    let own : IsFormed (content_with rows c.tallies) = record {
      places = record { rates = formed.plan.rate_count; periods = formed.plan.period_count; commission_taxes = formed.plan.commission_tax_count };
      meta = (formed.plan.day, formed.plan.closed_count);
      terms = formed.plan.terms;
      airlines = of_entries nat_cmp_total nat_cmp-IsAntisymmetric IsAirlineEntry (airline_entries rows.published.airlines rows.airlines) (airline_formed rows formed);
      rates = formed.plan.rates;
      periods = formed.plan.periods;
      agents = of_entries nat_cmp_total nat_cmp-IsAntisymmetric IsAgentEntry rows.agents formed.agents;
      ranges = of_entries range_total range_exact IsRangeEntry rows.ranges formed.ranges;
      items = items;
      memos = of_entries memo_total memo_exact IsMemoEntry rows.memos (λ k m at. (formed.memos k m at).entry);
      tallies = tallies;
      commission_taxes = formed.plan.commission_taxes;
      item_taxes = items;
      tally_taxes = tallies;
      seconds = subst (AllByRecursion IsSecondEntry) (sym (entries-seconds_of rows.items)) (seconds_each (entries rows.items) items);
    } in
    subst IsFormed (sym of.same) own

-- no rows
pub no_rows_formed : AreFormed no_rows
no_rows_formed = record {
  plan = record { day = refl; terms = tt; airlines = tt; rates = tt; periods = tt; commission_taxes = tt; closed_count = omega arith; airline_count = omega arith; rate_count = omega arith; period_count = omega arith; commission_tax_count = omega arith };
  agents = each_empty nat_cmp_total nat_cmp-IsAntisymmetric IsAgentEntry;
  airlines = each_empty nat_cmp_total nat_cmp-IsAntisymmetric IsRegisteredAirline;
  ranges = each_empty range_total range_exact IsRangeEntry;
  items = each_empty item_total item_exact IsFormedItem;
  memos = each_empty memo_total memo_exact IsFormedMemo;
}

-- ---- what a write leaves

-- rows that are formed table by table
each_formed : (rows : Rows) → IsFormedPublished rows.published → OnEach IsAgentEntry rows.agents → OnEach IsRegisteredAirline rows.airlines → OnEach IsRangeEntry rows.ranges → OnEach IsFormedItem rows.items → OnEach IsFormedMemo rows.memos → AreFormed rows
each_formed rows plan agents airlines ranges items memos = record { plan = plan; agents = agents; airlines = airlines; ranges = ranges; items = items; memos = memos }

module _ (rows : Rows) (formed : AreFormed rows) where
  pub agent_formed : (agent : ℕ) (token : List ℕ) → IsAgentEntry (agent, token) → AreFormed (with_agent_token agent token rows)
  agent_formed agent token own =
      each_formed _ formed.plan (each_inserted nat_cmp_total nat_cmp-IsAntisymmetric IsAgentEntry rows.agents agent token own formed.agents) formed.airlines formed.ranges formed.items formed.memos

  pub airline_token_formed : (airline : ℕ) (token : List ℕ) → IsRegisteredAirline (airline, token) → AreFormed (with_airline_token airline token rows)
  airline_token_formed airline token own =
      each_formed _ formed.plan formed.agents (each_inserted nat_cmp_total nat_cmp-IsAntisymmetric IsRegisteredAirline rows.airlines airline token own formed.airlines) formed.ranges formed.items formed.memos

  pub range_formed : (agent : ℕ) (range : Range) → IsRangeEntry (range_key agent range, range.last) → AreFormed (with_range agent range rows)
  range_formed agent range own =
      each_formed _ formed.plan formed.agents formed.airlines (each_inserted range_total range_exact IsRangeEntry rows.ranges (range_key agent range) range.last own formed.ranges) formed.items formed.memos

  pub no_range_formed : (agent : ℕ) (range : Range) → AreFormed (without_range agent range rows)
  no_range_formed agent range =
      each_formed _ formed.plan formed.agents formed.airlines (each_removed range_total range_exact IsRangeEntry rows.ranges (range_key agent range) formed.ranges) formed.items formed.memos

  pub item_formed : (item : Item) → IsFormedItem (key_of item, item) → AreFormed (with_item item rows)
  item_formed item own =
      each_formed _ formed.plan formed.agents formed.airlines formed.ranges (each_inserted item_total item_exact IsFormedItem rows.items (key_of item) item own formed.items) formed.memos

  pub end_formed : (key : ItemKey) → AreFormed (with_end key rows)
  end_formed key =
      let items = each_changed item_total item_exact IsFormedItem rows.items key ended
      (λ i own. record { entry = record { agent = own.entry.agent; number = own.entry.number; period = own.entry.period; stored = own.entry.stored; tax = own.entry.tax; hundredths = own.entry.hundredths }; agent = own.agent }) formed.items in
      each_formed _ formed.plan formed.agents formed.airlines formed.ranges items formed.memos

  pub memo_formed : (memo : MemoFields) → IsFormedMemo (memo_key memo, memo) → AreFormed (with_memo memo rows)
  memo_formed memo own =
      each_formed _ formed.plan formed.agents formed.airlines formed.ranges formed.items (each_inserted memo_total memo_exact IsFormedMemo rows.memos (memo_key memo) memo own formed.memos)

  pub billing_formed : (key : MemoKey) (period : ℕ) → period < 10 ^ 5 → AreFormed (with_billing key period rows)
  billing_formed key period own =
      let memos = each_changed memo_total memo_exact IsFormedMemo rows.memos key (billed_in period)
      (λ m was. record { entry = search (was.entry, own); airline = was.airline }) formed.memos in
      each_formed _ formed.plan formed.agents formed.airlines formed.ranges formed.items memos

  pub plan_formed : (p : Published) → IsFormedPublished p → AreFormed (record rows { published = p })
  plan_formed p own = each_formed _ own formed.agents formed.airlines formed.ranges formed.items formed.memos

-- a plan and registered airlines alone
pub planned_formed : (rows : Rows) → rows ≡ record no_rows { published = rows.published; airlines = rows.airlines } → IsFormedPublished rows.published → OnEach IsRegisteredAirline rows.airlines → AreFormed rows
planned_formed rows alone plan airlines = subst AreFormed (sym alone) (each_formed _ plan no_rows_formed.agents airlines no_rows_formed.ranges no_rows_formed.items no_rows_formed.memos)

-- ---- what a request leaves of the plan

-- what is true of the plan and of the plan that is wanted is true of the plan that is left
or_next : {V F : Type 0} (P : V → Type 0) (b : Bool) (fault : F) (r : Result V F) → IfOk r P → IfOk (if b then Err fault else r) P
or_next P true fault r own = tt
or_next P false fault r own = own

either : {V F : Type 0} (P : V → Type 0) (b : Bool) (r s : Result V F) → IfOk r P → IfOk s P → IfOk (if b then r else s) P
either P true r s one other = one
either P false r s one other = other

left_of : (P : Published → Type 0) (p : Published) (r : Result Published PlanFault) → P p → IfOk r P → P (plan_left p r)
left_of P p (Ok plan) own made = made
left_of P p (Err fault) own made = own

module _ (p : Published) (formed : IsFormedPublished p) where
  -- with another day, and other closed periods
  changed_formed : (day : CivilDay) (closed : List ℕ) → IsTrue (is_day day) → length closed < 2 ^ 63 → IsFormedPublished (record p { day = day; closed = closed })
  changed_formed day closed own few = record {
    day = own;
    terms = formed.terms;
    airlines = formed.airlines;
    rates = formed.rates;
    periods = formed.periods;
    commission_taxes = formed.commission_taxes;
    closed_count = few;
    airline_count = formed.airline_count;
    rate_count = formed.rate_count;
    period_count = formed.period_count;
    commission_tax_count = formed.commission_tax_count;
  }

  pub day_formed : (day : CivilDay) → IsTrue (is_day day) → IsFormedPublished (plan_left p (outcome p (SetDay day)))
  day_formed day own = left_of IsFormedPublished p (on_day p day) formed (or_next IsFormedPublished _ _ (Ok (record p { day = day })) (changed_formed day p.closed own formed.closed_count))

  -- where its closed periods are not too many
  abbrev IfFew : Published → Type 0
  IfFew m = length m.closed < 2 ^ 63 → IsFormedPublished m

  closes : (code : ℕ) → IfFew (record p { closed = p.closed ++ code ∷ [] })
  closes code few = changed_formed p.day (p.closed ++ code ∷ []) formed.day few

  second : (code : ℕ) → IfOk (if not (is_over p (next_open p)) then Err NotOver else Ok (record p { closed = p.closed ++ code ∷ [] })) IfFew
  second code = or_next IfFew (not (is_over p (next_open p))) NotOver (Ok (record p { closed = p.closed ++ code ∷ [] })) (closes code)

  first : (code : ℕ) → IfOk (with_closed p code) IfFew
  first code = or_next IfFew (not (has_code code (next_open p))) NotEarliest (if not (is_over p (next_open p)) then Err NotOver else Ok (record p { closed = p.closed ++ code ∷ [] })) (second code)

  pub close_formed : (code : ℕ) → length (plan_left p (outcome p (Close code))).closed < 2 ^ 63 → IsFormedPublished (plan_left p (outcome p (Close code)))
  close_formed code few =
      left_of IfFew p (closing p code) (λ _. formed)
      (either IfFew (is_closed p code) (Ok p) (with_closed p code) (λ _. formed) (first code)) few
