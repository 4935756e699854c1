-- What a run has accepted agrees with its tickets.
use Rattle.std.proofs.Common.{◌≡◌, ◌≢◌, ℕ, zero, suc, ◌==◌, ◌&&◌, is_some, arith, Bool, true, false, cond, List, [], ◌∷◌, map, Option, Some, None, option_map, refl, sym, ap, ap₂, subst, ◌∙◌, ◌⊎◌, inl, inr}
use Rattle.std.specs.List.{AllPairs, Contains, find}
use Rattle.std.specs.Prelude.{nat_lt}
use Rattle.std.proofs.lemmas.Bool.{and_parts, ltb-true, or_cases}
use Rattle.std.specs.FinMap.{FinMap, get}
use Rattle.bsp_rows.proofs.ListLemmas.{contains_head, contains_tail}
use Rattle.bsp_rows.specs.Decimal.{number_of}
use Rattle.bsp_rows.specs.GroupValues.{are_related, is_document}
use Rattle.bsp_rows.specs.Values.{is_before}
use Rattle.bsp_rows.specs.ReportedDocument.{ReportedDocument}
use Rattle.bsp_rows.specs.Transaction.{Transaction}
use Rattle.bsp_rows.specs.FactsOf.{facts_in, related_document}
use Rattle.bsp_rows.specs.Meanings.{IsPassed}
use Rattle.bsp_rows.specs.RulesRows.{is_ticket}
use Rattle.bsp_rows.specs.RelatedDocument.{RelatedDocument}
use Rattle.bsp_rows.specs.Item.{Item}
use Rattle.bsp_rows.specs.Reporter.{Reporter}
use Rattle.bsp_rows.proofs.MeaningLemmas.{accepted_is_passed, tickets_live}
use Rattle.bsp_rows.specs.declared.keys.ItemKey.{ItemKey}
use Rattle.bsp_rows.specs.Changes.{IsAcceptance, after_accepted, facts_at}
use Rattle.bsp_rows.specs.Rows.{Rows, agent_items, item_cmp}
use Rattle.bsp_rows.specs.Sound.{Sound}
use Rattle.bsp_rows.proofs.ClearedLemmas.{cleared}
use Rattle.bsp_rows.proofs.GroupLemmas.{group_fits}
use Rattle.bsp_rows.proofs.MapLemmas.{same_Some}
use Rattle.bsp_rows.proofs.RowLemmas.{contains_map, item_among}
use Rattle.bsp_rows.proofs.TakenLemmas.{fate, taken}
use Rattle.bsp_office_spec.specs.Laws.{AgreesWithTickets, AreOfTwoNumbers, HasAccepted, NewAgreeWithTickets, RunsAgreeWithTickets, WasThere}
use Rattle.bsp_office_spec.proofs.Held.{as_before, free_before, has_is_kept}
use Rattle.bsp_office_spec.proofs.Invariant.{IsKept, sound_is_kept}
use Rattle.bsp_office_spec.proofs.Runs.{run_keeps}

-- ---- the tickets of the facts

find_step : {A : Type 0} (p : A → Bool) (y : A) (ys : List A) (x : A) → (find p ys ≡ Some x → Contains ys x × (p x ≡ true)) → (b : Bool) → p y ≡ b → cond b (Some y) (find p ys) ≡ Some x → Contains (y ∷ ys) x × (p x ≡ true)
find_step {A} p y ys x rest true is e =
    let same = same_Some y x e in
    (subst (λ (z : A). Contains (y ∷ ys) z) same (contains_head y ys), subst (λ (z : A). p z ≡ true) same is)
find_step p y ys x rest false is e =
    let found = rest e in
    (contains_tail y ys x found.0, found.1)

find_in : {A : Type 0} (p : A → Bool) (xs : List A) (x : A) → find p xs ≡ Some x → Contains xs x × (p x ≡ true)
find_in p [] x h = absurd (cc h)
find_in p (y ∷ ys) x h = find_step p y ys x (find_in p ys x) (p y) refl h

related_are : (rows : Rows) (agent : ℕ) (t : Transaction) → (facts_at agent t rows).related ≡ map (option_map (related_document (agent_items agent rows))) t.related
unfolding facts_in
related_are rows agent t = refl

document_back : (items : List Item) (place : Option ReportedDocument) → option_map (λ r. r.document) (option_map (related_document items) place) ≡ place
unfolding related_document
document_back items None = refl
document_back items (Some d) = refl

documents_back : (items : List Item) (places : List (Option ReportedDocument)) → map (option_map (λ r. r.document)) (map (option_map (related_document items)) places) ≡ places
documents_back items [] = refl
documents_back items (place ∷ places) = ap₂ (λ (x : Option ReportedDocument) (xs : List (Option ReportedDocument)). x ∷ xs) (document_back items place) (documents_back items places)

-- a related document with its ticket, which is among the items
found_ticket : (items : List Item) (d : ReportedDocument) (r : RelatedDocument) (i : Item) → related_document items d ≡ r → r.ticket ≡ Some i → Contains items i × (is_ticket r.document i ≡ true)
unfolding related_document
found_ticket items d r i is there =
    let found = find_in (is_ticket d) items i (ap (λ (x : RelatedDocument). x.ticket) is ∙ there) in
    (found.0, subst (λ (x : ReportedDocument). is_ticket x i ≡ true) (ap (λ (x : RelatedDocument). x.document) is) found.1)

ticket_in : (items : List Item) (places : List (Option ReportedDocument)) (r : RelatedDocument) (i : Item) → Contains (map (option_map (related_document items)) places) (Some r) → r.ticket ≡ Some i → Contains items i × (is_ticket r.document i ≡ true)
ticket_in items places r i among there =
    let (place, in', is) = contains_map (option_map (related_document items)) places (Some r) among in
    by place is
  where
    by : (place : Option ReportedDocument) → option_map (related_document items) place ≡ Some r → Contains items i × (is_ticket r.document i ≡ true)
    by None is = absurd (cc is)
    by (Some d) is = found_ticket items d r i (same_Some (related_document items d) r is) there

accepted_ticket : (rows : Rows) (agent : ℕ) (i : Item) → Contains (agent_items agent rows) i → HasAccepted rows agent i.transaction i.period
accepted_ticket rows agent i among =
    let (k, there, own) = item_among rows agent i among in
    record { key = k; own = own; item = i; there = there; content = refl; period_is = refl }

-- ---- no ticket is named twice

pair : {A : Type 0} (R : A → A → Type 0) (x y : A) → R x y → AllPairs R (x ∷ y ∷ [])
pair R x y h zero zero d below within = absurd (omega arith)
pair R x y h zero (suc zero) d below within = h
pair R x y h (suc i) zero d below within = absurd (omega arith)
pair R x y h (suc i) (suc zero) d below within = absurd (omega arith)
pair R x y h i (suc (suc j)) d below within = absurd (omega arith)

-- of two documents of an airline the one behind has another number
behind_apart : (d e : ReportedDocument) → is_before d e ≡ true → d.airline ≡ e.airline → d.number ≢ e.number
behind_apart d e behind own same = elim (or_cases (nat_lt d.airline e.airline) ((d.airline == e.airline) && nat_lt (number_of d.number) (number_of e.number)) behind) [
  | inl less ↦ absurd (omega (arith, ltb-true d.airline e.airline less, own))
  | inr more ↦
      let less = (and_parts (d.airline == e.airline) (nat_lt (number_of d.number) (number_of e.number)) more).1 in
      absurd (omega (arith, ltb-true (number_of d.number) (number_of e.number) less, ap number_of same))
]

places_once : (exchange : Bool) (airline : ℕ) (places : List (Option ReportedDocument)) → are_related exchange places ≡ true → ((d : ReportedDocument) → Contains places (Some d) → d.airline ≡ airline) → AllPairs AreOfTwoNumbers places
unfolding are_related
places_once exchange airline [] fit own = absurd (cc fit)
places_once exchange airline (first ∷ []) fit own = absurd (cc fit)
places_once exchange airline (None ∷ second ∷ []) fit own = pair AreOfTwoNumbers None second tt
places_once exchange airline (Some d ∷ None ∷ []) fit own = pair AreOfTwoNumbers (Some d) None tt
places_once exchange airline (Some d ∷ Some e ∷ []) fit own =
    let behind = (and_parts (exchange && is_document d && is_document e) (is_before d e) fit).1 in
    let first = own d (contains_head (Some d) (Some e ∷ [])) in
    let second = own e (contains_tail (Some d) (Some e ∷ []) (Some e) (contains_head (Some e) [])) in
    pair AreOfTwoNumbers (Some d) (Some e) (behind_apart d e behind (first ∙ sym second))
places_once exchange airline (first ∷ second ∷ third ∷ others) fit own = absurd (cc fit)

named_once : (who : Reporter) (rows : Rows) (item : Item) → Sound rows → IsAcceptance who rows item → AllPairs AreOfTwoNumbers item.transaction.related
named_once who rows item s a =
    let t = item.transaction in
    let passed = (accepted_is_passed who t (facts_at item.agent t rows) rows.published item.period).0 a.accepted in
    let clear = cleared who rows item s.items a.group passed in
    places_once (is_some t.exchange) t.document.airline t.related (group_fits t a.group).0 (λ d among. (clear.tickets d among).own)

-- ---- what is accepted agrees

passed_agrees : (who : Reporter) (rows : Rows) (agent : ℕ) (t : Transaction) (period : ℕ) → AllPairs AreOfTwoNumbers t.related → IsPassed who t (facts_at agent t rows) rows.published period → AgreesWithTickets rows agent t
passed_agrees who rows agent t period once passed =
    let f = facts_at agent t rows in
    let items = agent_items agent rows in
    record {
      related = f.related;
      places = ap (map (option_map (λ r. r.document))) (related_are rows agent t) ∙ documents_back items t.related;
      once = once;
      tickets = λ r i among there.
          let found = ticket_in items t.related r i (subst (λ (l : List (Option RelatedDocument)). Contains l (Some r)) (related_are rows agent t) among) there in
          (found.1, accepted_ticket rows agent i found.0);
      none_missing = λ ends. let live = tickets_live who t f rows.published period passed ends in (live.0, live.1.0);
      agreed = passed.agreed;
    }

-- it goes on to agree where what is accepted stays
agrees_on : (rows new : Rows) (agent : ℕ) (t : Transaction) → ((a : ℕ) (u : Transaction) (period : ℕ) → HasAccepted rows a u period → HasAccepted new a u period) → AgreesWithTickets rows agent t → AgreesWithTickets new agent t
agrees_on rows new agent t stays h = record {
  related = h.related;
  places = h.places;
  once = h.once;
  tickets = λ r i among there. let found = h.tickets r i among there in (found.0, stays agent i.transaction i.period found.1);
  none_missing = h.none_missing;
  agreed = h.agreed;
}

-- ---- over a run

module _ (start : Rows) where
  record Agree (rows : Rows) : Type 0 where
    sound : Sound rows
    each : NewAgreeWithTickets start rows

  same_items : (rows new : Rows) → new.items ≡ rows.items → NewAgreeWithTickets start rows → NewAgreeWithTickets start new
  same_items rows new same h k i at =
      elim (h k i (ap (λ (m : FinMap item_cmp Item). get m k) (sym same) ∙ at)) [
        | inl there ↦ inl there
        | inr agrees ↦ inr (agrees_on rows new k.agent i.transaction (λ a u period. as_before a u period rows new same) agrees)
      ]

  more_agree : (who : Reporter) (rows : Rows) (item : Item) → Agree rows → IsAcceptance who rows item → NewAgreeWithTickets start (after_accepted item rows)
  more_agree who rows item h a k j at = elim ((taken rows item (free_before who rows item h.sound a)).made k j at) [
    | inl new ↦ inr (subst (λ (x : Item). AgreesWithTickets after k.agent x.transaction) (sym new.1) (subst (λ (x : ItemKey). AgreesWithTickets after x.agent item.transaction) (sym new.0) agrees))
    | inr old ↦ before old.0 old.1 old.2
  ] where
    after : Rows
    after = after_accepted item rows

    stay : (b : ℕ) (u : Transaction) (period : ℕ) → HasAccepted rows b u period → HasAccepted after b u period
    stay b u period has = ((has_is_kept b u period).accepted who rows item (record { sound = h.sound; has = has }) a).has

    agrees : AgreesWithTickets after item.agent item.transaction
    agrees =
        let passed = (accepted_is_passed who item.transaction (facts_at item.agent item.transaction rows) rows.published item.period).0 a.accepted in
        let once = named_once who rows item h.sound a in
        agrees_on rows after item.agent item.transaction stay (passed_agrees who rows item.agent item.transaction item.period once passed)

    before : (i : Item) → get rows.items k ≡ Some i → j ≡ fate item k i → WasThere start k j ⊎ AgreesWithTickets after k.agent j.transaction
    before i there is = elim (h.each k i there) [
      | inl was ↦ inl (was.0, was.1, was.2 ∙ ap (λ (x : Item). x.transaction) (sym is))
      | inr old ↦ inr (subst (λ (x : Item). AgreesWithTickets after k.agent x.transaction) (sym is) (agrees_on rows after k.agent i.transaction stay old))
    ]

  agree_is_kept : IsKept Agree
  agree_is_kept = record {
    sound = λ rows h. h.sound;
    accepted = λ who rows item h a. record { sound = sound_is_kept.accepted who rows item h.sound a; each = more_agree who rows item h a };
    planned = λ rows r h. record { sound = sound_is_kept.planned rows r h.sound; each = same_items rows _ refl h.each };
    closed = λ rows code plan terms h c o k. record { sound = sound_is_kept.closed rows code plan terms h.sound c o k; each = same_items rows _ refl h.each };
    issued = λ rows c d b kind amount reason h r f k l. record { sound = sound_is_kept.issued rows c d b kind amount reason h.sound r f k l; each = same_items rows _ refl h.each };
    acted = λ rows memo action h k. record { sound = sound_is_kept.acted rows memo action h.sound k; each = same_items rows _ refl h.each };
    allotted = λ rows b range h k o m. record { sound = sound_is_kept.allotted rows b range h.sound k o m; each = same_items rows _ refl h.each };
    withdrawn = λ rows b range h k u. record { sound = sound_is_kept.withdrawn rows b range h.sound k u; each = same_items rows _ refl h.each };
    agent = λ rows b token h. record { sound = sound_is_kept.agent rows b token h.sound; each = same_items rows _ refl h.each };
    airline = λ rows c token h. record { sound = sound_is_kept.airline rows c token h.sound; each = same_items rows _ refl h.each };
  }

pub runs_agree : RunsAgreeWithTickets
runs_agree office rows exchanges new run fits s =
    (run_keeps (Agree rows) (agree_is_kept rows) office rows exchanges new run fits (record { sound = s; each = λ k i at. inl (i, at, refl) })).each
