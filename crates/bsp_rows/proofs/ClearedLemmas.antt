-- What an accepting verdict says of the rows, by their keys.
use Rattle.std.proofs.Common.{◌≡◌, ℕ, ◌+◌, ◌<◌, ◌==◌, Bool, true, false, not, ◌&&◌, ◌||◌, cond, List, [], ◌∷◌, map, count_by, Option, Some, None, is_some, is_none, IsSome, option_map, Ok, refl, sym, ap, subst, ◌∙◌, arith, nat_le}
use Rattle.std.specs.List.{Contains, filter, list_any}
use Rattle.std.specs.Str.{all_ascii_digits}
use Rattle.std.specs.FinMap.{get, entries}
use Rattle.std.proofs.lemmas.Bool.{and_parts, or_parts, not-false, eqb-true, leb-true, both_ways}
use Rattle.std.proofs.lemmas.List.Sums.{sum_by-cons}
use Rattle.std.proofs.lemmas.Slice.Eq.{bytes_eq-Decides}
use Rattle.bsp_fields.specs.Codes.{document_reading}
use Rattle.bsp_fields.specs.Decimal.{number_of}
use Rattle.bsp_calendar.specs.DayOrder.{is_up_to}
use Rattle.bsp_calendar.specs.Published.{Published, target_of}
use Rattle.bsp_calendar.proofs.ListedLemmas.{contains_any, any_false}
use Rattle.bsp_calendar.proofs.DayLemmas.{not_before, up_to_from}
use Rattle.bsp_fields.specs.Days.{day_number}
use Rattle.bsp_ret_writer.specs.GroupValues.{is_group_values}
use Rattle.bsp_ret_records.specs.declared.codes.TransactionCode.{TransactionCode}
use Rattle.bsp_ret_records.specs.declared.codes.TransactionCode.TheVariants.{Tktt, Rfnd, Canx}
use Rattle.bsp_ret_records.specs.declared.transactions.ReportedDocument.{ReportedDocument}
use Rattle.bsp_ret_records.specs.declared.transactions.Transaction.{Transaction}
use Rattle.bsp_rules.specs.declared.facts.Facts.{Facts}
use Rattle.bsp_rules.specs.declared.facts.RelatedDocument.{RelatedDocument}
use Rattle.bsp_rules.specs.declared.rows.Item.{Item}
use Rattle.bsp_rules.specs.declared.rows.Range.{Range}
use Rattle.bsp_rules.specs.declared.verdict.Reporter.{Reporter}
use Rattle.bsp_rules.specs.FactsOf.{facts_in, own_number, related_document, counts, count_in}
use Rattle.bsp_rules.specs.Rows.{has_number, is_canx, is_living_relation, is_ticket, used, cancelled, relates, ticket, contains}
use Rattle.bsp_rules.specs.SameContent.{same_code}
use Rattle.bsp_rules.specs.Verdicts.{is_missing, is_ended, is_cancelled, limit_of, is_number_used, is_wrong_place, has_wrong_agent, is_other_agent}
use Rattle.bsp_rows.specs.declared.keys.ItemKey.{ItemKey}
use Rattle.bsp_rows.specs.Rows.{Rows, key_of, HasNumberKey, agent_items, ranges_of}
use Rattle.bsp_rows.specs.Sound.{IsInStock, AreSoundItems, ticket_key, is_counted}
use Rattle.bsp_rules.specs.Meanings.{IsPassed, ends_tickets}
use Rattle.bsp_rules.proofs.MeaningLemmas.{tickets_live, canx_free}
use Rattle.bsp_calendar.proofs.ListLemmas.{find_contains}
use Rattle.bsp_rows.proofs.RowLemmas.{mapped, among_items, item_among, range_among}
use Rattle.bsp_fields.proofs.DocumentLemmas.{one_number}
use Rattle.bsp_rows.proofs.GroupLemmas.{own_reads, related_read, unrelated}

-- ---- small steps

canx_code : (code : TransactionCode) → same_code code Canx ≡ true → code ≡ Canx
canx_code Tktt h = absurd (cc h)
canx_code Rfnd h = absurd (cc h)
canx_code Canx h = refl

ticket_code : (code : TransactionCode) → same_code code Tktt ≡ true → same_code code Canx ≡ false
ticket_code Tktt h = refl
ticket_code Rfnd h = absurd (cc h)
ticket_code Canx h = absurd (cc h)

-- ---- related documents

abbrev found_in : List Item → ReportedDocument → Option Item
found_in items d = ticket d items

-- its TKTT is the one that the facts find, is at its key and lives, and nothing that lives relates to it
pub record IsOpenTicket (rows : Rows) (agent airline : ℕ) (d : ReportedDocument) : Type 0 where
  pub own : d.airline ≡ airline
  pub ticket : Item
  pub found : found_in (agent_items agent rows) d ≡ Some ticket
  pub there : get rows.items (ticket_key agent d) ≡ Some ticket
  pub is : is_ticket d ticket ≡ true
  pub lives : ticket.lives ≡ true
  pub unrelated : relates d.number (agent_items agent rows) ≡ false

ticket_found : (rows : Rows) (agent : ℕ) (d : ReportedDocument) (i : Item) → AreSoundItems rows.published rows.agents rows.ranges rows.items → ticket d (agent_items agent rows) ≡ Some i → (get rows.items (ticket_key agent d) ≡ Some i) × (is_ticket d i ≡ true)
ticket_found rows agent d i sound h =
    let (in', is) = find_contains (is_ticket d) (agent_items agent rows) i h in
    let (k, there, own) = item_among rows agent i in' in
    let right = (sound.each k i there).right in
    let both = and_parts (same_code i.transaction.code Tktt && (i.transaction.document.airline == d.airline)) (has_number d.number i) is in
    let number : i.transaction.document.number ≡ d.number = (bytes_eq-Decides i.transaction.document.number d.number).0 both.1 in
    let sale : is_canx i ≡ false = ticket_code i.transaction.code (and_parts (same_code i.transaction.code Tktt) (i.transaction.document.airline == d.airline) both.0).0 in
    let keyed : key_of i ≡ k = right.keyed in
    let agents : i.agent ≡ agent = ap (λ (x : ItemKey). x.agent) keyed ∙ own in
    let at : k ≡ ticket_key agent d = sym keyed ∙ (λ j. record { agent = agents j; number = number_of (number j); is_canx = sale j }) in
    (subst (λ (x : ItemKey). get rows.items x ≡ Some i) at there, is)

open_ticket : (rows : Rows) (agent airline : ℕ) (d : ReportedDocument) (found : Option Item) → AreSoundItems rows.published rows.agents rows.ranges rows.items → ticket d (agent_items agent rows) ≡ found → (not (d.airline == airline) || is_none found) ≡ false → (is_cancelled found || relates d.number (agent_items agent rows)) ≡ false → IsOpenTicket rows agent airline d
open_ticket rows agent airline d None sound is m e = absurd (both_ways true (or_parts (not (d.airline == airline)) true m).1 refl)
open_ticket rows agent airline d (Some i) sound is m e =
    let found = ticket_found rows agent d i sound is in
    let ended = or_parts (not i.lives) (relates d.number (agent_items agent rows)) e in
    record {
      own = eqb-true d.airline airline (not-false _ (or_parts (not (d.airline == airline)) false m).0);
      ticket = i;
      found = is;
      there = found.0;
      is = found.1;
      lives = not-false i.lives ended.0;
      unrelated = ended.1;
    }

open_tickets : (rows : Rows) (agent airline : ℕ) (places : List (Option ReportedDocument)) → AreSoundItems rows.published rows.agents rows.ranges rows.items → list_any (is_missing airline) (map (λ place. option_map (related_document (agent_items agent rows)) place) places) ≡ false → list_any is_ended (map (λ place. option_map (related_document (agent_items agent rows)) place) places) ≡ false → (d : ReportedDocument) → Contains places (Some d) → IsOpenTicket rows agent airline d
unfolding related_document
open_tickets rows agent airline places sound m e d in' =
    let place : Option ReportedDocument → Option RelatedDocument = λ p. option_map (related_document (agent_items agent rows)) p in
    let there = mapped place places (Some d) in' in
    open_ticket rows agent airline d (ticket d (agent_items agent rows)) sound refl
    (any_false (is_missing airline) (map place places) (place (Some d)) m there)
    (any_false is_ended (map place places) (place (Some d)) e there)

-- ---- counts

count_step : (agent airline period : ℕ) (e : ItemKey × Item) (es : List (ItemKey × Item)) → count_by (counts airline period) (map (λ x. x.1) (filter (λ x. x.0.agent == agent) es)) ≡ count_by (is_counted agent airline period) es → (b : Bool) → (e.0.agent == agent) ≡ b → count_by (counts airline period) (map (λ x. x.1) (cond b (e ∷ filter (λ x. x.0.agent == agent) es) (filter (λ x. x.0.agent == agent) es))) ≡ cond (b && counts airline period e.1) 1 0 + count_by (is_counted agent airline period) es
count_step agent airline period e es rest true is = sum_by-cons (λ (i : Item). cond (counts airline period i) 1 0) e.1 (map (λ x. x.1) (filter (λ x. x.0.agent == agent) es)) ∙ ap (λ (n : ℕ). cond (counts airline period e.1) 1 0 + n) rest
count_step agent airline period e es rest false is = rest ∙ omega arith

pub count_is : (agent airline period : ℕ) (es : List (ItemKey × Item)) → count_by (counts airline period) (map (λ x. x.1) (filter (λ x. x.0.agent == agent) es)) ≡ count_by (is_counted agent airline period) es
count_is agent airline period [] = refl
count_is agent airline period (e ∷ es) =
    count_step agent airline period e es (count_is agent airline period es) (e.0.agent == agent) refl
    ∙ sym (sum_by-cons (λ (x : ItemKey × Item). cond (is_counted agent airline period x) 1 0) e es)

-- ---- the whole

pub record IsCleared (rows : Rows) (item : Item) : Type 0 where
  pub registered : IsSome (get rows.agents item.agent)
  pub reads : HasNumberKey item
  pub checked : list_any is_wrong_place item.transaction.related ≡ false
  pub in_stock : IsInStock rows.ranges item.agent (number_of item.transaction.document.number)
  pub issued : is_up_to item.transaction.issued rows.published.day ≡ true
  pub target : target_of rows.published item.transaction.issued ≡ Some item.period
  -- its number is free: of a TKTT or an RFND in any code, of a CANX in a CANX
  pub free : (k : ItemKey) (i : Item) → get rows.items k ≡ Some i → k.agent ≡ item.agent → k.number ≡ number_of item.transaction.document.number → (is_canx item ≡ true) × (k.is_canx ≡ false)
  -- what a CANX ends is of its airline, and nothing that lives relates to it
  pub airline : is_canx item ≡ true → (k : ItemKey) (i : Item) → get rows.items k ≡ Some i → k.agent ≡ item.agent → k.number ≡ number_of item.transaction.document.number → i.transaction.document.airline ≡ item.transaction.document.airline
  pub unrelated : is_canx item ≡ true → (k : ItemKey) (i : Item) → get rows.items k ≡ Some i → k.agent ≡ item.agent → is_living_relation item.transaction.document.number i ≡ false
  pub tickets : (d : ReportedDocument) → Contains item.transaction.related (Some d) → IsOpenTicket rows item.agent item.transaction.document.airline d
  pub limit : count_by (is_counted item.agent item.transaction.document.airline item.period) (entries rows.items) < limit_of rows.published.terms

registered_is : (reporter : Reporter) (t : Transaction) (registered : Bool) (ranges : List Range) (items : List Item) (p : Published) → has_wrong_agent reporter t (facts_in registered ranges items t p) ≡ false → registered ≡ true
unfolding has_wrong_agent facts_in
registered_is reporter t registered ranges items p h = not-false registered (or_parts (not registered) (is_other_agent reporter t) h).0

stock_is : (rows : Rows) (agent : ℕ) (registered : Bool) (items : List Item) (t : Transaction) (p : Published) → (facts_in registered (ranges_of agent rows) items t p).in_range ≡ true → IsInStock rows.ranges agent (number_of t.document.number)
unfolding facts_in
stock_is rows agent registered items t p h =
    let some = (and_parts (all_ascii_digits t.document.number) (list_any (contains (number_of t.document.number)) (ranges_of agent rows)) h).1 in
    let (r, in', has) = contains_any (contains (number_of t.document.number)) (ranges_of agent rows) some in
    let (k, there, own, first) = range_among rows agent r in' in
    let ends = and_parts (nat_le r.first (number_of t.document.number)) (nat_le (number_of t.document.number) r.last) has in
    let from = leb-true r.first (number_of t.document.number) ends.0 in
    let to = leb-true (number_of t.document.number) r.last ends.1 in
    record { key = k; own = own; has = record { last = r.last; there = there; from = omega (arith, first, from); to = to } }

-- an item at the key of the number has the number
number_at : (rows : Rows) (t : Transaction) (k : ItemKey) (i : Item) → AreSoundItems rows.published rows.agents rows.ranges rows.items → document_reading t.document.number t.document.check_digit ≡ Ok (number_of t.document.number) → get rows.items k ≡ Some i → k.number ≡ number_of t.document.number → i.transaction.document.number ≡ t.document.number
number_at rows t k i sound reads there same =
    let right = (sound.each k i there).right in
    one_number i.transaction.document.number t.document.number i.transaction.document.check_digit t.document.check_digit _ _ right.numbered reads (ap (λ (x : ItemKey). x.number) right.keyed ∙ same)

free_of : (registered : Bool) (ranges : List Range) (items : List Item) (t : Transaction) (p : Published) (i : Item) → is_number_used t.code (facts_in registered ranges items t p).own ≡ false → Contains items i → i.transaction.document.number ≡ t.document.number → (same_code t.code Canx ≡ true) × (is_canx i ≡ false)
unfolding facts_in own_number
free_of registered ranges items t p i h in' same = by_code t.code refl where
  has : has_number t.document.number i ≡ true
  has = (bytes_eq-Decides i.transaction.document.number t.document.number).1 same

  sold : used t.document.number items ≡ false → (same_code t.code Canx ≡ true) × (is_canx i ≡ false)
  sold none = absurd (both_ways _ (any_false (has_number t.document.number) items i none in') has)

  rest : (a b : Bool) → a ≡ true → (a && b) ≡ false → b ≡ false
  rest true b e g = g
  rest false b e g = absurd (cc e)

  by_code : (code : TransactionCode) → t.code ≡ code → (same_code t.code Canx ≡ true) × (is_canx i ≡ false)
  by_code Tktt is = sold (rw is at h)
  by_code Rfnd is = sold (rw is at h)
  by_code Canx is =
      let none : cancelled t.document.number items ≡ false = rw is at h in
      (rw is refl, rest (has_number t.document.number i) (is_canx i) has (any_false (λ j. has_number t.document.number j && is_canx j) items i none in'))

elsewhere_is : (registered : Bool) (ranges : List Range) (items : List Item) (t : Transaction) (p : Published) (i : Item) → (facts_in registered ranges items t p).own.is_of_another_airline ≡ false → Contains items i → i.transaction.document.number ≡ t.document.number → i.transaction.document.airline ≡ t.document.airline
unfolding facts_in own_number
elsewhere_is registered ranges items t p i h in' same =
    let test : Item → Bool = λ j. has_number t.document.number j && not (j.transaction.document.airline == t.document.airline) in
    let no = any_false test items i h in' in
    eqb-true _ _ (not-false _ (rest (has_number t.document.number i) (not (i.transaction.document.airline == t.document.airline)) ((bytes_eq-Decides i.transaction.document.number t.document.number).1 same) no)) where
      rest : (a b : Bool) → a ≡ true → (a && b) ≡ false → b ≡ false
      rest true b e g = g
      rest false b e g = absurd (cc e)

unrelated_is : (registered : Bool) (ranges : List Range) (items : List Item) (t : Transaction) (p : Published) (i : Item) → (facts_in registered ranges items t p).own.is_related_to ≡ false → Contains items i → is_living_relation t.document.number i ≡ false
unfolding facts_in own_number
unrelated_is registered ranges items t p i h in' = any_false (is_living_relation t.document.number) items i h in'

tickets_are : (rows : Rows) (agent : ℕ) (registered : Bool) (t : Transaction) (sound : AreSoundItems rows.published rows.agents rows.ranges rows.items) → is_group_values t ≡ true → (b : Bool) → ends_tickets t.code (is_some t.exchange) ≡ b → (f : Facts) → f ≡ facts_in registered (ranges_of agent rows) (agent_items agent rows) t rows.published → (b ≡ true → list_any (is_missing t.document.airline) f.related ≡ false) → (b ≡ true → list_any is_ended f.related ≡ false) → (d : ReportedDocument) → Contains t.related (Some d) → IsOpenTicket rows agent t.document.airline d
unfolding facts_in
tickets_are rows agent registered t sound group true is f e m n d in' =
    let places : f.related ≡ map (λ place. option_map (related_document (agent_items agent rows)) place) t.related = ap (λ (g : Facts). g.related) e in
    open_tickets rows agent t.document.airline t.related sound (sym (ap (list_any (is_missing t.document.airline)) places) ∙ m refl) (sym (ap (list_any is_ended) places) ∙ n refl) d in'
tickets_are rows agent registered t sound group false is f e m n d in' = absurd (both_ways true (any_false is_some t.related (Some d) (unrelated t group is) in') refl)

limit_is : (rows : Rows) (agent : ℕ) (registered : Bool) (t : Transaction) (period n : ℕ) → target_of rows.published t.issued ≡ Some period → (facts_in registered (ranges_of agent rows) (agent_items agent rows) t rows.published).count < n → count_by (is_counted agent t.document.airline period) (entries rows.items) < n
unfolding facts_in
limit_is rows agent registered t period n target below =
    let is : count_in (agent_items agent rows) t.document.airline (target_of rows.published t.issued) ≡ count_by (is_counted agent t.document.airline period) (entries rows.items) = ap (count_in (agent_items agent rows) t.document.airline) target ∙ count_is agent t.document.airline period (entries rows.items) in
    subst (λ (m : ℕ). m < n) is below

module _ (reporter : Reporter) (rows : Rows) (item : Item) (sound : AreSoundItems rows.published rows.agents rows.ranges rows.items) (group : is_group_values item.transaction ≡ true)
    (h : IsPassed reporter item.transaction (facts_in (is_some (get rows.agents item.agent)) (ranges_of item.agent rows) (agent_items item.agent rows) item.transaction rows.published) rows.published item.period) where
  abbrev facts : Facts
  facts = facts_in (is_some (get rows.agents item.agent)) (ranges_of item.agent rows) (agent_items item.agent rows) item.transaction rows.published

  own : HasNumberKey item
  own = own_reads item.transaction h.check_digits

  free_at : (k : ItemKey) (i : Item) → get rows.items k ≡ Some i → k.agent ≡ item.agent → k.number ≡ number_of item.transaction.document.number → (is_canx item ≡ true) × (k.is_canx ≡ false)
  free_at k i there agent same =
      let both = free_of (is_some (get rows.agents item.agent)) (ranges_of item.agent rows) (agent_items item.agent rows) item.transaction rows.published i h.number (among_items rows item.agent k i there agent) (number_at rows item.transaction k i sound own there same) in
      (both.0, sym (ap (λ (x : ItemKey). x.is_canx) (sound.each k i there).right.keyed) ∙ both.1)

  about : is_canx item ≡ true → (facts.own.is_of_another_airline ≡ false) × (facts.own.is_related_to ≡ false)
  about c =
      let free = canx_free reporter item.transaction facts rows.published item.period h (canx_code item.transaction.code c) in
      (free.own_airline, free.unrelated)

  pub cleared : IsCleared rows item
  cleared = record {
    registered = (registered_is reporter item.transaction (is_some (get rows.agents item.agent)) (ranges_of item.agent rows) (agent_items item.agent rows) rows.published h.agent);
    reads = own;
    checked = related_read item.transaction h.check_digits;
    in_stock = stock_is rows item.agent (is_some (get rows.agents item.agent)) (agent_items item.agent rows) item.transaction rows.published h.in_stock;
    issued = up_to_from (day_number item.transaction.issued) (day_number rows.published.day) (not_before (day_number rows.published.day) (day_number item.transaction.issued) h.issued);
    target = h.target;
    free = free_at;
    airline = λ c k i there agent same. elsewhere_is (is_some (get rows.agents item.agent)) (ranges_of item.agent rows) (agent_items item.agent rows) item.transaction rows.published i (about c).0 (among_items rows item.agent k i there agent) (number_at rows item.transaction k i sound own there same);
    unrelated = λ c k i there agent. unrelated_is (is_some (get rows.agents item.agent)) (ranges_of item.agent rows) (agent_items item.agent rows) item.transaction rows.published i (about c).1 (among_items rows item.agent k i there agent);
    tickets = tickets_are rows item.agent (is_some (get rows.agents item.agent)) item.transaction sound group (ends_tickets item.transaction.code (is_some item.transaction.exchange)) refl facts refl (λ b. (tickets_live reporter item.transaction facts rows.published item.period h b).1.0) (λ b. (tickets_live reporter item.transaction facts rows.published item.period h b).1.1);
    limit = limit_is rows item.agent (is_some (get rows.agents item.agent)) item.transaction item.period (limit_of rows.published.terms) h.target h.limit;
  }
