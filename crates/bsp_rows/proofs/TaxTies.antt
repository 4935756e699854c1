-- The tax of an item stays as tickets end and the plan grows.
use Rattle.std.proofs.Common.{◌≡◌, ℕ, Bool, true, false, List, [], ◌∷◌, map, Option, Some, None, option_map, Ok, refl, sym, ap, subst, ◌∙◌, pos}
use Rattle.std.specs.List.{Contains, list_any}
use Rattle.std.specs.FinMap.{FinMap, get}
use Rattle.bsp_fields.specs.CivilDay.{CivilDay}
use Rattle.bsp_fields.specs.Codes.{code_reading}
use Rattle.bsp_fields.specs.Decimal.{number_of}
use Rattle.bsp_fields.proofs.DocumentLemmas.{reads_without_fault}
use Rattle.bsp_calendar.specs.DayOrder.{is_up_to}
use Rattle.bsp_calendar.specs.Published.{Published, is_taxed, period_of}
use Rattle.bsp_calendar.specs.SoundPlan.{Grows}
use Rattle.bsp_calendar.specs.declared.entries.Period.{Period}
use Rattle.bsp_calendar.proofs.ListLemmas.{contains_head, contains_tail}
use Rattle.bsp_calendar.proofs.ListedLemmas.{any_false}
use Rattle.bsp_ret_records.specs.declared.codes.TransactionCode.{TransactionCode}
use Rattle.bsp_ret_records.specs.declared.codes.TransactionCode.TheVariants.{Tktt, Rfnd, Canx}
use Rattle.bsp_ret_records.specs.declared.transactions.ReportedDocument.{ReportedDocument}
use Rattle.bsp_ret_records.specs.declared.transactions.Transaction.{Transaction}
use Rattle.bsp_rules.specs.FactsOf.{facts_in, related_document}
use Rattle.bsp_rules.specs.Rows.{ticket}
use Rattle.bsp_rules.specs.Tax.{earlier_of, earliest, hundredths_for, issued_of, tax_on}
use Rattle.bsp_rules.specs.Verdicts.{is_wrong_place}
use Rattle.bsp_rules.specs.declared.facts.RelatedDocument.{RelatedDocument}
use Rattle.bsp_rules.specs.declared.rows.Item.{Item}
use Rattle.bsp_rules.specs.declared.rows.Range.{Range}
use Rattle.bsp_rules.proofs.TaxLemmas.{earliest_up_to, untaxed, up_to_later}
use Rattle.bsp_rows.specs.Rows.{item_cmp}
use Rattle.bsp_rows.specs.Sound.{IsInTime, IsTaxed, document_at, documents_at, numbered_at, ticket_key}
use Rattle.bsp_rows.specs.declared.keys.ItemKey.{ItemKey}
use Rattle.bsp_rows.proofs.GroupLemmas.{reads_code}
use Rattle.bsp_rows.proofs.MapLemmas.{same_Some}

-- ---- the tickets of related documents

-- the related documents in their places, each with what is found of it
abbrev pub found_by : (ReportedDocument → RelatedDocument) → List (Option ReportedDocument) → List (Option RelatedDocument)
found_by f places = map (λ place. option_map f place) places

-- both find tickets of the same dates of issue
abbrev pub AreIssuedAlike : (f g : ReportedDocument → RelatedDocument) → List (Option ReportedDocument) → Type 0
AreIssuedAlike f g places = (d : ReportedDocument) → Contains places (Some d) → issued_of (f d).ticket ≡ issued_of (g d).ticket

same_earliest : (f g : ReportedDocument → RelatedDocument) (places : List (Option ReportedDocument)) (day : CivilDay) → AreIssuedAlike f g places → earliest day (found_by f places) ≡ earliest day (found_by g places)
same_earliest f g [] day h = refl
same_earliest f g (None ∷ places) day h = same_earliest f g places day (λ d in'. h d (contains_tail None places (Some d) in'))
same_earliest f g (Some d ∷ places) day h =
    ap (λ (o : Option CivilDay). earliest (earlier_of day o) (found_by f places)) (h d (contains_head (Some d) places))
    ∙ same_earliest f g places (earlier_of day (issued_of (g d).ticket)) (λ e in'. h e (contains_tail (Some d) places (Some e) in'))

same_by_code : (f g : ReportedDocument → RelatedDocument) (t : Transaction) (p : Published) → AreIssuedAlike f g t.related → (code : TransactionCode) → hundredths_for (record t { code = code }) (found_by f t.related) p ≡ hundredths_for (record t { code = code }) (found_by g t.related) p
unfolding hundredths_for
same_by_code f g t p h Tktt = refl
same_by_code f g t p h Rfnd = ap (λ (day : CivilDay). hundredths_for (record t { code = Tktt; issued = day }) [] p) (same_earliest f g t.related t.issued h)
same_by_code f g t p h Canx = refl

-- the dates of issue of the tickets settle the tax
pub same_hundredths : (f g : ReportedDocument → RelatedDocument) (t : Transaction) (p : Published) → AreIssuedAlike f g t.related → hundredths_for t (found_by f t.related) p ≡ hundredths_for t (found_by g t.related) p
same_hundredths f g t p h = same_by_code f g t p h t.code

pub related_reads : (t : Transaction) (d : ReportedDocument) → list_any is_wrong_place t.related ≡ false → Contains t.related (Some d) → code_reading 10 d.number ≡ Ok (number_of d.number)
related_reads t d checked in' = reads_code d.number d.check_digit (number_of d.number) (reads_without_fault d.number d.check_digit (any_false is_wrong_place t.related (Some d) checked in'))

pub document_issued : (items : FinMap item_cmp Item) (agent : ℕ) (d : ReportedDocument) (i : Item) → code_reading 10 d.number ≡ Ok (number_of d.number) → get items (ticket_key agent d) ≡ Some i → issued_of (document_at items agent d).ticket ≡ Some i.transaction.issued
document_issued items agent d i reads there = ap (λ r. issued_of (numbered_at items agent r)) reads ∙ ap issued_of there

-- ---- the tickets of the facts

pub facts_related : (registered : Bool) (ranges : List Range) (items : List Item) (t : Transaction) (p : Published) → (facts_in registered ranges items t p).related ≡ found_by (related_document items) t.related
unfolding facts_in
facts_related registered ranges items t p = refl

pub facts_ticket : (items : List Item) (d : ReportedDocument) → (related_document items d).ticket ≡ ticket d items
unfolding related_document
facts_ticket items d = refl

-- ---- a plan that grows

grow_by_code : (p m : Published) (t : Transaction) (related : List (Option RelatedDocument)) → Grows p m → is_up_to t.issued p.day ≡ true → (code : TransactionCode) → hundredths_for (record t { code = code }) related m ≡ hundredths_for (record t { code = code }) related p
unfolding hundredths_for
grow_by_code p m t related g up Tktt = g.commission_taxes t.issued up
grow_by_code p m t related g up Rfnd = g.commission_taxes (earliest t.issued related) (up_to_later (earliest t.issued related) t.issued p.day (earliest_up_to related t.issued) up)
grow_by_code p m t related g up Canx = refl

-- what is issued by the business day keeps its tax
pub taxed_grows : (p m : Published) (items : FinMap item_cmp Item) (k : ItemKey) (i : Item) → Grows p m → is_up_to i.transaction.issued p.day ≡ true → IsTaxed p items k i → IsTaxed m items k i
taxed_grows p m items k i g up h = record {
  hundredths = h.hundredths ∙ sym (grow_by_code p m i.transaction (documents_at items k.agent i.transaction) g up i.transaction.code);
  tax = h.tax;
}

-- ---- a period of form 1

-- what was accepted in it has no tax
pub untaxed_item : (p : Published) (items : FinMap item_cmp Item) (k : ItemKey) (i : Item) (q : Period) → IsInTime p i.transaction.issued i.period → IsTaxed p items k i → period_of p i.period ≡ Some q → is_taxed p q ≡ false → (i.hundredths ≡ 0) × (i.tax ≡ pos 0)
untaxed_item p items k i q time h there form =
    let same : time.period ≡ q = same_Some time.period q (sym time.there ∙ there) in
    let up : is_up_to i.transaction.issued q.last ≡ true = subst (λ (r : Period). is_up_to i.transaction.issued r.last ≡ true) same time.end in
    let none = untaxed i.transaction (documents_at items k.agent i.transaction) p q form up in
    (h.hundredths ∙ none.0, h.tax ∙ (ap (λ (n : ℕ). tax_on n i.transaction) h.hundredths ∙ none.1))
