-- The content of a group makes a group.
use Rattle.std.proofs.Common.{◌≡◌, ℕ, ◌&&◌, ◌||◌, not, Bool, true, false, List, [], ◌∷◌, length, refl, sym, ap, ◌∙◌, subst, inl, inr, Option, None, Some, is_some, arith}
use Rattle.std.specs.Prelude.{◌↔◌, IfSome, slice_index_or, nat_le, if◌then◌else◌}
use Rattle.std.specs.List.{list_all}
use Rattle.std.specs.Option.{IsSomeAnd}
use Rattle.std.specs.Str.{all_ascii_digits}
use Rattle.std.proofs.lemmas.Bool.{and_parts, or_left, or_right}
use Rattle.bsp_ret_records.specs.declared.codes.TransactionCode.{TransactionCode}
use Rattle.bsp_ret_records.specs.declared.codes.TransactionCode.TheVariants.{Tktt, Rfnd, Canx}
use Rattle.bsp_ret_records.specs.declared.codes.FormOfPayment.TheVariants.{Credit}
use Rattle.bsp_ret_records.specs.declared.transactions.ReportedDocument.{ReportedDocument}
use Rattle.bsp_ret_records.specs.declared.transactions.Amounts.{Amounts}
use Rattle.bsp_ret_records.specs.declared.transactions.CardPayment.{CardPayment}
use Rattle.bsp_ret_records.specs.declared.transactions.Transaction.{Transaction}
use Rattle.bsp_fields.specs.Columns.{columns, is_space, is_letter_or_digit, is_printable}
use Rattle.bsp_fields.specs.Fields.{is_amount}
use Rattle.bsp_fields.specs.Taxes.{tax_places}
use Rattle.bsp_ret_records.specs.Records.{document, related_document, payment_amount, vendor, vendor_fits, form_of, form_fits, related_fits, amounts_fit}
use Rattle.bsp_ret.specs.Ret.{Group, IsRecord, IsForm, IsPaid, AreRelated, HasBody}
use Rattle.bsp_ret.specs.Content.{InBoth, HasRelatedValues, IsContent, HasContent}
use Rattle.bsp_ret_records.specs.Values.{IsRelated, AreAmounts, IsPayment, IsCardPayment, none_or, is_before}
use Rattle.bsp_ret_writer.specs.GroupValues.{is_document, are_related, are_amounts, is_card, has_parts, related_of, is_group_values, MakesGroup}
use Rattle.bsp_ret_writer.specs.Writing.{group_lines}
use Rattle.bsp_ret_writer.proofs.WrittenGroup.{written_group}
use Rattle.bsp_ret_writer.specs.Stored.{IsStored}
use Rattle.bsp_ret_records.proofs.ValueLemmas.{amounts_fields}
use Rattle.bsp_ret.proofs.BodyLemmas.{body_facts, no_forms}
use Rattle.bsp_ret.proofs.GroupLemmas.{wide_length}
use Rattle.bsp_ret_records.proofs.OrderLemmas.{HasNumber, before_from, number_width}
use Rattle.bsp_ret_writer.proofs.DocumentLemmas.{document_digits}
use Rattle.bsp_ret_records.proofs.ReadLemmas.{sale_fields, related_digits, printable_columns}
use Rattle.bsp_ret_writer.proofs.ContentLemmas.{document_fits, taxes_from}

-- ---- what the records of a group say

related_values_fit : (line : List ℕ) (d : ReportedDocument) → related_fits line ≡ true → IsRelated line d → is_document d ≡ true
related_values_fit line d fits is = document_fits (related_document line) d is (related_digits line fits)

amounts_values_fit : (line : List ℕ) (a : Amounts) → amounts_fit line ≡ true → AreAmounts line a → are_amounts a ≡ true
unfolding are_amounts
amounts_values_fit line a fits are =
    let fields = amounts_fields line fits in
    rw (taxes_from 0 (tax_places line) a.taxes are.taxes fields.taxes) (ap (λ n. nat_le n 10000) (sym are.rate) ∙ fields.few)

card_fits : (line : List ℕ) (p : CardPayment) → form_fits line ≡ true → form_of line ≡ Some Credit → IsCardPayment line p → is_card p ≡ true
unfolding form_fits is_card
card_fits line p fits form is =
    let vendor_is = vendor_fits (form_of line) (vendor line) in
    let amount_is = is_amount (payment_amount line) in
    let second = and_parts (vendor_is && amount_is) (list_all is_space (columns 23 136 line)) fits in
    let first = (and_parts vendor_is amount_is second.0).0 in
    ap (list_all is_letter_or_digit) is.vendor ∙ sym (ap (λ o. vendor_fits o (vendor line)) form) ∙ first

-- ---- which records a group has

some_from : {A : Type 0} (P : A → Type 0) (o : Option A) → IsSomeAnd o P → is_some o ≡ true
some_from P None h = absurd h
some_from P (Some x) h = refl

some_form : (n : ℕ) (g : Group) → IsPaid n g → (is_some g.cash || is_some g.credit || is_some g.exchange) ≡ true
some_form n g paid =
    elim paid.some [
      | inl cash ↦ rw cash refl
      | inr others ↦ (elim others [
        | inl credit ↦ or_left (is_some g.cash || is_some g.credit) (is_some g.exchange) (or_right (is_some g.cash) (is_some g.credit) credit)
        | inr exchange ↦ or_right (is_some g.cash || is_some g.credit) (is_some g.exchange) exchange
      ])
    ]

matches_from : (related exchange : Bool) → related ≡ exchange → (if exchange then related else not related) ≡ true
matches_from related true same = same
matches_from related false same = rw same refl

without_exchange : (front exchange : Bool) → (front || exchange) ≡ true → exchange ≡ false → front ≡ true
without_exchange front true some none = absurd (cc none)
without_exchange true false some none = refl
without_exchange false false some none = absurd (cc some)

group_parts : (n : ℕ) (g : Group) (code : TransactionCode) → HasBody n g (Some code) → has_parts code (is_some g.related) (is_some g.amounts) (is_some g.cash) (is_some g.credit) (is_some g.exchange) ≡ true
unfolding has_parts
group_parts n g Tktt body =
    rw (some_from (IsRecord 53 n amounts_fit) g.amounts body.2.amounts, some_form n g body.2, matches_from (is_some g.related) (is_some g.exchange) body.1) refl
group_parts n g Rfnd body =
    let none : is_some g.exchange ≡ false = ap is_some body.2 in
    let some : (is_some g.cash || is_some g.credit) ≡ true = without_exchange (is_some g.cash || is_some g.credit) (is_some g.exchange) (some_form n g body.3) none in
    rw (some_from (IsRecord 51 n related_fits) g.related body.0, some_from (IsRecord 53 n amounts_fit) g.amounts body.3.amounts, some, none) refl
group_parts n g Canx body =
    let forms = no_forms g.cash g.credit g.exchange body.3 in
    let related : is_some g.related ≡ false = ap is_some body.0 in
    let amounts : is_some g.amounts ≡ false = ap is_some body.2 in
    rw (related, amounts, forms.0, forms.1, forms.2) refl

same_some : {A B : Type 0} (P : A → B → Type 0) (o : Option A) (p : Option B) → InBoth P o p → is_some o ≡ is_some p
same_some P None None h = refl
same_some P (Some x) (Some y) h = refl
same_some P None (Some y) h = absurd h
same_some P (Some x) None h = absurd h

-- a second record 3 stands in an exchange
second_of_exchange : (n : ℕ) (related second : Option (List ℕ)) (exchange : Bool) → AreRelated n related second → is_some related ≡ exchange → IfSome second (λ line. exchange ≡ true)
second_of_exchange n related None exchange are same = tt
second_of_exchange n (Some line) (Some second) exchange are same = sym same
second_of_exchange n None (Some second) exchange are same = absurd are

no_second : (second : Option (List ℕ)) (exchange : Bool) → second ≡ None → IfSome second (λ line. exchange ≡ true)
no_second None exchange none = tt
no_second (Some second) exchange none = absurd (cc none)

exchanged : (n : ℕ) (g : Group) (code : TransactionCode) → HasBody n g (Some code) → IfSome g.second (λ line. is_some g.exchange ≡ true)
exchanged n g Tktt body = second_of_exchange n g.related g.second (is_some g.exchange) body.0 body.1
exchanged n g Rfnd body = no_second g.second (is_some g.exchange) body.1
exchanged n g Canx body = no_second g.second (is_some g.exchange) body.1

-- ---- the values

pub first_of_places : (line second : Option (List ℕ)) (places : List (Option ReportedDocument)) → HasRelatedValues line second places → InBoth IsRelated line (slice_index_or places 0 None)
first_of_places line second [] h = absurd h
first_of_places line second (d ∷ []) h = absurd h
first_of_places line second (d ∷ e ∷ []) h = h.0
first_of_places line second (d ∷ e ∷ f ∷ others) h = absurd h

pub second_of_places : (line second : Option (List ℕ)) (places : List (Option ReportedDocument)) → HasRelatedValues line second places → InBoth IsRelated second (slice_index_or places 1 None)
second_of_places line second [] h = absurd h
second_of_places line second (d ∷ []) h = absurd h
second_of_places line second (d ∷ e ∷ []) h = h.1
second_of_places line second (d ∷ e ∷ f ∷ others) h = absurd h

-- of two records 3, the document of the second is behind that of the first
number_in : (n : ℕ) (line : List ℕ) (d : ReportedDocument) → IsRecord 51 n related_fits line → IsRelated line d → HasNumber d
number_in n line d stands is = record {
  ten = ap length is.number ∙ number_width line (wide_length line stands.wide);
  digits = document_digits d (related_values_fit line d stands.fields is);
}

rises : (n : ℕ) (line second : List ℕ) (d e : ReportedDocument) → AreRelated n (Some line) (Some second) → IsRelated line d → IsRelated second e → is_before d e ≡ true
rises n line second d e are first other =
    before_from (related_document line) (related_document second) d e first other (number_in n line d are.0 first) (number_in n second e are.1 other) are.2

places_fit : (n : ℕ) (exchange : Bool) (line second : Option (List ℕ)) (places : List (Option ReportedDocument)) → AreRelated n line second → IfSome second (λ x. exchange ≡ true) → HasRelatedValues line second places → are_related exchange places ≡ true
unfolding are_related
places_fit n exchange line second [] are so h = absurd h
places_fit n exchange line second (d ∷ []) are so h = absurd h
places_fit n exchange line second (d ∷ e ∷ f ∷ others) are so h = absurd h
places_fit n exchange None None (None ∷ None ∷ []) are so h = refl
places_fit n exchange None None (None ∷ Some e ∷ []) are so h = absurd h.1
places_fit n exchange None None (Some d ∷ e ∷ []) are so h = absurd h.0
places_fit n exchange (Some line) None (Some d ∷ None ∷ []) are so h = related_values_fit line d are.fields h.0
places_fit n exchange (Some line) None (Some d ∷ Some e ∷ []) are so h = absurd h.1
places_fit n exchange (Some line) None (None ∷ e ∷ []) are so h = absurd h.0
places_fit n exchange (Some line) (Some second) (Some d ∷ Some e ∷ []) are so h =
    rw (so, related_values_fit line d are.0.fields h.0, related_values_fit second e are.1.fields h.1, rises n line second d e are h.0 h.1) refl
places_fit n exchange (Some line) (Some second) (Some d ∷ None ∷ []) are so h = absurd h.1
places_fit n exchange (Some line) (Some second) (None ∷ e ∷ []) are so h = absurd h.0
places_fit n exchange None (Some second) (d ∷ e ∷ []) are so h = absurd are

amounts_values : (n : ℕ) (line : Option (List ℕ)) (o : Option Amounts) → IfSome line (IsRecord 53 n amounts_fit) → InBoth AreAmounts line o → none_or are_amounts o ≡ true
amounts_values n None None stands h = refl
amounts_values n (Some line) (Some a) stands h = amounts_values_fit line a stands.fields h
amounts_values n None (Some a) stands h = absurd h
amounts_values n (Some line) None stands h = refl

credit_values : (n : ℕ) (line : Option (List ℕ)) (o : Option CardPayment) → IfSome line (IsForm n Credit) → InBoth IsCardPayment line o → none_or is_card o ≡ true
credit_values n None None form h = refl
credit_values n (Some line) (Some p) form h = card_fits line p form.stands.fields form.form h
credit_values n None (Some p) form h = absurd h
credit_values n (Some line) None form h = refl

parts_of : (n : ℕ) (g : Group) (t : Transaction) → IsContent g t → HasBody n g (Some t.code) → has_parts t.code (is_some (related_of t)) (is_some t.amounts) (is_some t.cash) (is_some t.credit) (is_some t.exchange) ≡ true
parts_of n g t content body =
    rw (
      ← same_some IsRelated g.related (related_of t) (first_of_places g.related g.second t.related content.related),
      ← same_some AreAmounts g.amounts t.amounts content.amounts,
      ← same_some IsPayment g.cash t.cash content.cash,
      ← same_some IsCardPayment g.credit t.credit content.credit,
      ← same_some IsPayment g.exchange t.exchange content.exchange,
    ) (group_parts n g t.code body)

-- values that are the content of a group make a group
pub content_makes : (n : ℕ) (lines : List (List ℕ)) (t : Transaction) → HasContent n lines t → is_group_values t ≡ true
unfolding is_group_values
content_makes n lines t has =
    let g = has.is.group in
    let content : IsContent g t = has.content in
    let Body : Option TransactionCode → Type 0 = λ o. HasBody n g o in
    let body : HasBody n g (Some t.code) = subst Body content.code has.is.body in
    let facts = body_facts n g t.code body in
    let fields = sale_fields g.sale has.is.sale.fields in
    let Second : Bool → Type 0 = λ exchange. IfSome g.second (λ line. exchange ≡ true) in
    let agent : all_ascii_digits t.agent ≡ true = ap all_ascii_digits content.agent ∙ fields.agent in
    let passenger : list_all is_printable t.passenger ≡ true = ap (list_all is_printable) content.passenger ∙ printable_columns g.sale 40 88 has.is.sale.wide in
    rw (
      agent,
      document_fits (document g.sale) t.document content.document fields.document,
      passenger,
      places_fit n (is_some t.exchange) g.related g.second t.related facts.related (subst Second (same_some IsPayment g.exchange t.exchange content.exchange) (exchanged n g t.code body)) content.related,
      amounts_values n g.amounts t.amounts facts.amounts content.amounts,
      credit_values n g.credit t.credit facts.credit content.credit,
      parts_of n g t content body,
    ) refl

-- stored values make a group exactly where they pass the test
pub makes_group : (t : Transaction) → IsStored t → (is_group_values t ≡ true) ↔ MakesGroup t
makes_group t stored =
    (λ fits. (group_lines 1 t, written_group 1 t stored fits (omega arith)), λ made. content_makes 1 made.0 t made.1)
