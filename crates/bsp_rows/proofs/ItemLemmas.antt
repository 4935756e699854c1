-- An accepted transaction keeps the items sound.
use Rattle.std.proofs.Common.{◌≡◌, ℕ, ◌+◌, ◌≤◌, ◌==◌, Bool, true, false, not, ◌&&◌, ◌||◌, cond, List, count_by, Option, Some, None, is_some, Ok, refl, sym, ap, subst, ◌∙◌, inl, inr, arith}
use Rattle.std.specs.List.{Contains, list_any}
use Rattle.std.specs.FinMap.{FinMap, get, entries}
use Rattle.std.proofs.lemmas.Bool.{and_parts, eqb-true, both_ways, false_from_ne_true}
use Rattle.std.proofs.lemmas.Slice.Eq.{bytes_eq-Decides}
use Rattle.bsp_fields.specs.CivilDay.{CivilDay}
use Rattle.bsp_fields.specs.Codes.{agent_reading}
use Rattle.bsp_fields.specs.Decimal.{number_of}
use Rattle.bsp_calendar.specs.DayOrder.{is_up_to}
use Rattle.std.specs.Prelude.{IfSome}
use Rattle.bsp_calendar.specs.Published.{Published, IsTarget, target_of}
use Rattle.bsp_calendar.proofs.ListedLemmas.{contains_any}
use Rattle.bsp_calendar.proofs.PeriodLemmas.{AreApart}
use Rattle.bsp_calendar.proofs.TargetLemmas.{in_target}
use Rattle.bsp_ret_writer.specs.GroupValues.{is_group_values}
use Rattle.bsp_ret_records.specs.declared.transactions.ReportedDocument.{ReportedDocument}
use Rattle.bsp_ret_records.specs.declared.transactions.Transaction.{Transaction}
use Rattle.bsp_rules.specs.FactsOf.{counts, related_document}
use Rattle.bsp_rules.specs.Rows.{is_canx, names, names_number, is_living_relation, relates}
use Rattle.bsp_rules.specs.Tax.{accepted_item, hundredths_for, issued_of, tax_on}
use Rattle.bsp_rules.specs.Verdicts.{is_wrong_place, limit_of}
use Rattle.bsp_rules.specs.declared.facts.RelatedDocument.{RelatedDocument}
use Rattle.bsp_rules.specs.declared.rows.Item.{Item}
use Rattle.bsp_rows.specs.declared.keys.ItemKey.{ItemKey}
use Rattle.bsp_rows.specs.Rows.{Rows, canx_of, item_cmp, key_of, agent_items, agent_token, ranges_of}
use Rattle.bsp_rows.specs.Sound.{IsInTime, HasTicket, IsSoundItem, IsTaxed, AreSoundItems, document_at, ticket_key, is_counted}
use Rattle.bsp_rows.specs.Changes.{sale_key, after_accepted, facts_at}
use Rattle.bsp_rows.proofs.MapLemmas.{same_Some}
use Rattle.bsp_rows.proofs.RowLemmas.{none_passes}
use Rattle.bsp_rows.proofs.ClearedLemmas.{IsCleared}
use Rattle.bsp_rows.proofs.TaxTies.{AreIssuedAlike, document_issued, facts_related, facts_ticket, related_reads, same_hundredths}
use Rattle.bsp_rows.proofs.TakenLemmas.{fate, ends, IsTaken, taken, lives_on, count_taken}

-- ---- the target is a published period whose last day is not before the date of issue

in_time : (p : Published) (issued : CivilDay) (code : ℕ) → is_up_to issued p.day ≡ true → (found : Option ℕ) → found ≡ Some code → IfSome found (IsTarget p issued) → IsInTime p issued code
in_time p issued code day None is target = absurd (cc is)
in_time p issued code day (Some x) is target = subst (λ (c : ℕ). IsInTime p issued c) (same_Some x code is) (record { day = day; period = target.period; there = target.is; end = target.in_time })

timely : (p : Published) (issued : CivilDay) (code : ℕ) → AreApart p.periods → is_up_to issued p.day ≡ true → target_of p issued ≡ Some code → IsInTime p issued code
timely p issued code apart day h = in_time p issued code day (target_of p issued) h (in_target p issued apart)

-- ---- what becomes of an old item

named_place : (number : List ℕ) (place : Option ReportedDocument) → names_number number place ≡ true → (d : ReportedDocument) × (place ≡ Some d) × (d.number ≡ number)
named_place number None h = absurd (cc h)
named_place number (Some d) h = (d, refl, (bytes_eq-Decides d.number number).0 h)

pub named : (number : List ℕ) (t : Transaction) → names number t ≡ true → (d : ReportedDocument) × Contains t.related (Some d) × (d.number ≡ number)
named number t h =
    let (place, in', is) = contains_any (names_number number) t.related h in
    let (d, e, same) = named_place number place is in
    (d, subst (λ (x : Option ReportedDocument). Contains t.related x) e in', same)

-- a relation that lives has lived
lived : (lives other canx name : Bool) → ((lives && other) && not canx && name) ≡ true → (lives && not canx && name) ≡ true
lived true other true name h = absurd (both_ways _ (dead other name) h) where
  dead : (a b : Bool) → ((true && a) && not true && b) ≡ false
  dead true b = refl
  dead false b = refl
lived true true false name h = h
lived true false false name h = absurd (cc h)
lived false other canx name h = absurd (cc h)

related_before : (item : Item) (k : ItemKey) (i : Item) (number : List ℕ) → is_living_relation number (fate item k i) ≡ true → is_living_relation number i ≡ true
related_before item k i number h = lived i.lives (not (ends (is_canx item) (sale_key item) k)) (is_canx i) (names number i.transaction) h

no_canx : (lives name : Bool) → (lives && not true && name) ≡ false
no_canx true name = refl
no_canx false name = refl

canx_unrelated : (i : Item) (number : List ℕ) (canx : Bool) → is_canx i ≡ canx → is_living_relation number i ≡ true → canx ≡ false
canx_unrelated i number true c h = absurd (both_ways _ (no_canx i.lives (names number i.transaction)) (sym (ap (λ b. i.lives && not b && names number i.transaction) c) ∙ h))
canx_unrelated i number false c h = refl

module _ (rows : Rows) (item : Item) (sound : AreSoundItems rows.published rows.agents rows.ranges rows.items) (apart : AreApart rows.published.periods) (c : IsCleared rows item)
    (group : is_group_values item.transaction ≡ true) (bears : agent_reading item.transaction.agent ≡ Ok item.agent) (as_accepted : item ≡ accepted_item item.agent item.period item.transaction (facts_at item.agent item.transaction rows).related rows.published) where
  lives : item.lives ≡ true
  lives = ap (λ (x : Item). x.lives) as_accepted

  abbrev new : FinMap item_cmp Item
  new = (after_accepted item rows).items

  abbrev key : ItemKey
  key = key_of item

  at_free : (found : Option Item) → get rows.items key ≡ found → get rows.items key ≡ None
  at_free None is = is
  at_free (Some i) is = let both = c.free key i is refl refl in absurd (both_ways (is_canx item) both.1 both.0)

  abbrev Taken : Type 0
  Taken = IsTaken rows.items new item

  all_taken : Taken
  all_taken = taken rows item (at_free (get rows.items key) refl)

  has_ticket : (agent airline : ℕ) (d : ReportedDocument) → HasTicket rows.items agent airline d → HasTicket new agent airline d
  has_ticket agent airline d h = record { own = h.own; ticket = fate item (ticket_key agent d) h.ticket; there = all_taken.kept (ticket_key agent d) h.ticket h.there; is = h.is }

  -- ---- its tax

  -- a ticket stays, as one of the same date of issue
  issued_still : (agent : ℕ) (t : Transaction) (d : ReportedDocument) (ticket : Item) → list_any is_wrong_place t.related ≡ false → Contains t.related (Some d) → get rows.items (ticket_key agent d) ≡ Some ticket → issued_of (document_at new agent d).ticket ≡ Some ticket.transaction.issued
  issued_still agent t d ticket checked in' there = document_issued new agent d (fate item (ticket_key agent d) ticket) (related_reads t d checked in') (all_taken.kept (ticket_key agent d) ticket there)

  found_alike : AreIssuedAlike (related_document (agent_items item.agent rows)) (document_at new item.agent) item.transaction.related
  found_alike d in' =
      let o = c.tickets d in' in
      ap issued_of (facts_ticket (agent_items item.agent rows) d ∙ o.found) ∙ sym (issued_still item.agent item.transaction d o.ticket c.checked in' o.there)

  item_taxed : IsTaxed rows.published new key item
  item_taxed =
      let own : item.hundredths ≡ hundredths_for item.transaction (facts_at item.agent item.transaction rows).related rows.published = ap (λ (x : Item). x.hundredths) as_accepted in
      let places = facts_related (is_some (agent_token item.agent rows)) (ranges_of item.agent rows) (agent_items item.agent rows) item.transaction rows.published in
      record {
        hundredths = own
            ∙ (ap (λ (r : List (Option RelatedDocument)). hundredths_for item.transaction r rows.published) places
            ∙ same_hundredths (related_document (agent_items item.agent rows)) (document_at new item.agent) item.transaction rows.published found_alike);
        tax = ap (λ (x : Item). x.tax) as_accepted ∙ ap (λ (h : ℕ). tax_on h item.transaction) (sym own);
      }

  old_alike : (k : ItemKey) (i : Item) → get rows.items k ≡ Some i → AreIssuedAlike (document_at rows.items k.agent) (document_at new k.agent) i.transaction.related
  old_alike k i there d in' =
      let s = sound.each k i there in
      let t = s.tied.related d in' in
      document_issued rows.items k.agent d t.ticket (related_reads i.transaction d s.right.checked in') t.there
      ∙ sym (issued_still k.agent i.transaction d t.ticket s.right.checked in' t.there)

  old_taxed : (k : ItemKey) (i : Item) → get rows.items k ≡ Some i → IsTaxed rows.published new k (fate item k i)
  old_taxed k i there =
      let s = (sound.each k i there).taxed in
      record {
        hundredths = s.hundredths ∙ same_hundredths (document_at rows.items k.agent) (document_at new k.agent) i.transaction rows.published (old_alike k i there);
        tax = s.tax;
      }

  -- ---- each item

  -- no item is at the key of its CANX, but itself
  alone : (found : Option Item) → get new (canx_of key) ≡ found → (canx : Bool) → is_canx item ≡ canx → (canx || not (is_some found)) ≡ true
  alone found is true e = refl
  alone None is false e = refl
  alone (Some j) is false e =
      elim (all_taken.made (canx_of key) j is) as (λ _. (false || not true) ≡ true) [
        | inl own ↦ absurd (both_ways (is_canx item) e (sym (ap (λ (x : ItemKey). x.is_canx) own.0)))
        | inr old ↦ absurd (both_ways (is_canx item) e (c.free (canx_of key) old.0 old.1 refl refl).0)
      ]

  item_sound : IsSoundItem rows.published rows.agents rows.ranges new key item
  item_sound = record {
    right = record { keyed = refl; bears = bears; numbered = c.reads; checked = c.checked; group = group };
    registered = c.registered;
    in_stock = c.in_stock;
    in_time = timely rows.published item.transaction.issued item.period apart c.issued c.target;
    tied = record {
      lives = lives ∙ sym (alone (get new (canx_of key)) refl (is_canx item) refl);
      cancelled = λ j h. elim (all_taken.made (canx_of key) j h) [
        | inl own ↦ ap (λ (x : Item). x.transaction.document.airline) own.1
        | inr old ↦ absurd (both_ways true (c.free (canx_of key) old.0 old.1 refl refl).1 refl)
      ];
      related = λ d in'. let o = c.tickets d in' in has_ticket item.agent item.transaction.document.airline d (record { own = o.own; ticket = o.ticket; there = o.there; is = o.is });
    };
    taxed = item_taxed;
  }

  -- the item's own CANX key is that of an old item that it ends
  ended_airline : (k : ItemKey) (i : Item) → get rows.items k ≡ Some i → canx_of k ≡ key → item.transaction.document.airline ≡ i.transaction.document.airline
  ended_airline k i there same =
      sym (c.airline (sym (ap (λ (x : ItemKey). x.is_canx) same)) k i there (ap (λ (x : ItemKey). x.agent) same) (ap (λ (x : ItemKey). x.number) same))

  old_sound : (k : ItemKey) (i : Item) → get rows.items k ≡ Some i → IsSoundItem rows.published rows.agents rows.ranges new k (fate item k i)
  old_sound k i there =
      let s = sound.each k i there in
      record {
        right = record { keyed = s.right.keyed; bears = s.right.bears; numbered = s.right.numbered; checked = s.right.checked; group = s.right.group };
        registered = s.registered;
        in_stock = s.in_stock;
        in_time = s.in_time;
        tied = record {
          lives = lives_on rows.items new item all_taken k i s.tied.lives k.is_canx refl;
          cancelled = λ j h. elim (all_taken.made (canx_of k) j h) [
            | inl own ↦ ap (λ (x : Item). x.transaction.document.airline) own.1 ∙ ended_airline k i there own.0
            | inr old ↦ ap (λ (x : Item). x.transaction.document.airline) old.2 ∙ s.tied.cancelled old.0 old.1
          ];
          related = λ d in'. has_ticket k.agent i.transaction.document.airline d (s.tied.related d in');
        };
        taxed = old_taxed k i there;
      }

  each : (k : ItemKey) (j : Item) → get new k ≡ Some j → IsSoundItem rows.published rows.agents rows.ranges new k j
  each k j h = elim (all_taken.made k j h) [
    | inl own ↦ subst (λ (x : ItemKey × Item). IsSoundItem rows.published rows.agents rows.ranges new x.0 x.1) {x = (key, item)} {y = (k, j)} (λ i. (sym own.0 i, sym own.1 i)) item_sound
    | inr old ↦ subst (λ (x : Item). IsSoundItem rows.published rows.agents rows.ranges new k x) (sym old.2) (old_sound k old.0 old.1)
  ]

  -- ---- relations

  -- what it relates to, no old item of the agent relates to
  first_to : (number : List ℕ) (l : ItemKey) (j : Item) → is_living_relation number item ≡ true → get rows.items l ≡ Some j → l.agent ≡ item.agent → is_living_relation number j ≡ true → ⊥
  first_to number l j h there own old =
      let name = (and_parts (item.lives && not (is_canx item)) (names number item.transaction) h).1 in
      let (d, in', same) = named number item.transaction name in
      let none : relates number (agent_items item.agent rows) ≡ false = ap (λ (n : List ℕ). relates n (agent_items item.agent rows)) (sym same) ∙ (c.tickets d in').unrelated in
      both_ways _ (none_passes rows item.agent (is_living_relation number) none l j there own) old

  once : (k l : ItemKey) (i j : Item) (number : List ℕ) → get new k ≡ Some i → get new l ≡ Some j → k.agent ≡ l.agent → is_living_relation number i ≡ true → is_living_relation number j ≡ true → k ≡ l
  once k l i j number hk hl same ri rj =
      elim (all_taken.made k i hk) [
        | inl own ↦ elim (all_taken.made l j hl) [
          | inl other ↦ own.0 ∙ sym other.0
          | inr old ↦ absurd (first_to number l old.0 (sym (ap (is_living_relation number) own.1) ∙ ri) old.1 (sym same ∙ ap (λ (x : ItemKey). x.agent) own.0) (related_before item l old.0 number (sym (ap (is_living_relation number) old.2) ∙ rj)))
        ]
        | inr old ↦ elim (all_taken.made l j hl) [
          | inl own ↦ absurd (first_to number k old.0 (sym (ap (is_living_relation number) own.1) ∙ rj) old.1 (same ∙ ap (λ (x : ItemKey). x.agent) own.0) (related_before item k old.0 number (sym (ap (is_living_relation number) old.2) ∙ ri)))
          | inr other ↦ sound.related_once k l old.0 other.0 number old.1 other.1 same (related_before item k old.0 number (sym (ap (is_living_relation number) old.2) ∙ ri)) (related_before item l other.0 number (sym (ap (is_living_relation number) other.2) ∙ rj))
        ]
      ]

  -- what it relates to has no CANX
  lives_still : (l : ItemKey) (j : Item) → get rows.items l ≡ Some j → l.agent ≡ item.agent → is_canx j ≡ true → is_living_relation j.transaction.document.number item ≡ true → ⊥
  lives_still l j there own canx h =
      let number : List ℕ = j.transaction.document.number in
      let name = (and_parts (item.lives && not (is_canx item)) (names number item.transaction) h).1 in
      let (d, in', same) = named number item.transaction name in
      let o = c.tickets d in' in
      let keyed : key_of j ≡ l = (sound.each l j there).right.keyed in
      let at : l ≡ canx_of (ticket_key item.agent d) = sym keyed ∙ (λ i. record { agent = (ap (λ (x : ItemKey). x.agent) keyed ∙ own) i; number = number_of (sym same i); is_canx = canx i }) in
      let there_is : get rows.items (canx_of (ticket_key item.agent d)) ≡ Some j = sym (ap (get rows.items) at) ∙ there in
      let ended = (sound.each (ticket_key item.agent d) o.ticket o.there).tied.lives ∙ ap (λ (f : Option Item). not (is_some f)) there_is in
      both_ways o.ticket.lives ended o.lives

  none_to : (k l : ItemKey) (i j : Item) → get new k ≡ Some i → get new l ≡ Some j → k.agent ≡ l.agent → is_canx j ≡ true → is_living_relation j.transaction.document.number i ≡ true → ⊥
  none_to k l i j hk hl same canx r =
      elim (all_taken.made k i hk) [
        | inl own ↦ (
            let ri : is_living_relation j.transaction.document.number item ≡ true = sym (ap (is_living_relation j.transaction.document.number) own.1) ∙ r in
            elim (all_taken.made l j hl) [
              | inl other ↦ both_ways true (canx_unrelated item j.transaction.document.number true (sym (ap is_canx other.1) ∙ canx) ri) refl
              | inr old ↦ lives_still l old.0 old.1 (sym same ∙ ap (λ (x : ItemKey). x.agent) own.0) (sym (ap is_canx old.2) ∙ canx) (sym (ap (λ (x : Item). is_living_relation x.transaction.document.number item) old.2) ∙ ri)
            ])
        | inr old ↦ (
            let ro : is_living_relation j.transaction.document.number old.0 ≡ true = related_before item k old.0 j.transaction.document.number (sym (ap (is_living_relation j.transaction.document.number) old.2) ∙ r) in
            elim (all_taken.made l j hl) [
              | inl own ↦ both_ways _ (c.unrelated (sym (ap is_canx own.1) ∙ canx) k old.0 old.1 (same ∙ ap (λ (x : ItemKey). x.agent) own.0)) (sym (ap (λ (x : Item). is_living_relation x.transaction.document.number old.0) own.1) ∙ ro)
              | inr other ↦ both_ways _ (sound.related_lives k l old.0 other.0 old.1 other.1 same (sym (ap is_canx other.2) ∙ canx)) (sym (ap (λ (x : Item). is_living_relation x.transaction.document.number old.0) other.2) ∙ ro)
            ])
      ]

  -- ---- the documents limit

  documents_by : (agent airline period : ℕ) (b : Bool) → is_counted agent airline period (key, item) ≡ b → cond b 1 0 + count_by (is_counted agent airline period) (entries rows.items) ≤ limit_of rows.published.terms
  documents_by agent airline period true is =
      let outer = and_parts (item.agent == agent) (counts airline period item) is in
      let inner = and_parts (item.transaction.document.airline == airline) (item.period == period) outer.1 in
      let a : agent ≡ item.agent = sym (eqb-true item.agent agent outer.0) in
      let l : airline ≡ item.transaction.document.airline = sym (eqb-true item.transaction.document.airline airline inner.0) in
      let q : period ≡ item.period = sym (eqb-true item.period period inner.1) in
      let n : count_by (is_counted agent airline period) (entries rows.items) ≡ count_by (is_counted item.agent item.transaction.document.airline item.period) (entries rows.items) = λ i. count_by (is_counted (a i) (l i) (q i)) (entries rows.items) in
      let below = c.limit in
      rw n (omega (arith, below))
  documents_by agent airline period false is = let within = sound.documents agent airline period in omega (arith, within)

  documents : (agent airline period : ℕ) → count_by (is_counted agent airline period) (entries new) ≤ limit_of rows.published.terms
  documents agent airline period =
      subst (λ (n : ℕ). n ≤ limit_of rows.published.terms) (sym (count_taken (is_counted agent airline period) (λ k i. refl) rows item (at_free (get rows.items key) refl)))
      (documents_by agent airline period (is_counted agent airline period (key, item)) refl)

  pub items_kept : AreSoundItems rows.published rows.agents rows.ranges (after_accepted item rows).items
  items_kept = record {
    each = each;
    related_once = once;
    related_lives = λ k l i j hk hl same canx. false_from_ne_true _ (none_to k l i j hk hl same canx);
    documents = documents;
  }
