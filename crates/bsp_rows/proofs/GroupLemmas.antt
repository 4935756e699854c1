-- What a group's values and the rows of a verdict say of the places of related documents.
use Rattle.std.proofs.Common.{◌≡◌, Bool, true, false, not, ◌&&◌, ◌||◌, List, [], ◌∷◌, Option, Some, None, is_some, Ok, refl, sym, subst, inl, inr, ◌⊎◌, slice_index_or, length, ◌∙◌, ◌==◌, ℕ, zero, suc}
use Rattle.std.specs.List.{Contains, list_any}
use Rattle.std.proofs.lemmas.Bool.{and_parts, or_cases, or_parts, not-true}
use Rattle.std.proofs.lemmas.Slice.Eq.{bytes_eq-Decides}
use Rattle.std.specs.Str.{all_ascii_digits, bytes_eq}
use Rattle.bsp_calendar.proofs.ListLemmas.{contains_head, contains_tail}
use Rattle.bsp_fields.specs.Codes.{check_digit_of, code_reading, document_reading}
use Rattle.bsp_fields.specs.Decimal.{number_of}
use Rattle.bsp_ret_writer.specs.GroupValues.{is_group_values, is_document, are_related, are_amounts, is_card, has_parts, related_of}
use Rattle.bsp_ret_records.specs.Values.{none_or, is_before}
use Rattle.bsp_ret_records.specs.declared.codes.TransactionCode.{TransactionCode}
use Rattle.bsp_ret_records.specs.declared.codes.TransactionCode.TheVariants.{Tktt, Rfnd, Canx}
use Rattle.bsp_ret_records.specs.declared.transactions.ReportedDocument.{ReportedDocument}
use Rattle.bsp_ret_records.specs.declared.transactions.Transaction.{Transaction}
use Rattle.bsp_rules.specs.Meanings.{ends_tickets}
use Rattle.bsp_rules.specs.Rows.{names_number}
use Rattle.bsp_rules.specs.Verdicts.{is_wrong, is_wrong_place, has_wrong_check_digit}
use Rattle.bsp_fields.specs.declared.fault.FieldFault.TheVariants.{Width, NotDigit, CheckDigit}
use Rattle.bsp_fields.proofs.DocumentLemmas.{reads_without_fault}
use Rattle.bsp_fields.proofs.FirstFaultLemmas.{row_passed, row_skipped}
use Rattle.bsp_rows.proofs.MapLemmas.{same_Some}

-- ---- the check digits

pub own_reads : (t : Transaction) → has_wrong_check_digit t ≡ false → document_reading t.document.number t.document.check_digit ≡ Ok (number_of t.document.number)
unfolding has_wrong_check_digit
own_reads t h = reads_without_fault t.document.number t.document.check_digit (or_parts (is_wrong t.document) (list_any is_wrong_place t.related) h).0

pub related_read : (t : Transaction) → has_wrong_check_digit t ≡ false → list_any is_wrong_place t.related ≡ false
unfolding has_wrong_check_digit
related_read t h = (or_parts (is_wrong t.document) (list_any is_wrong_place t.related) h).1

-- a number with its check digit is ten digits
pub reads_code : (text : List ℕ) (check n : ℕ) → document_reading text check ≡ Ok n → code_reading 10 text ≡ Ok n
reads_code text check n h =
    let wide = row_passed (not (length text == 10)) Width ((not (all_ascii_digits text), NotDigit) ∷ (not (check == check_digit_of (number_of text)), CheckDigit) ∷ []) (number_of text) n h in
    let digits = row_passed (not (all_ascii_digits text)) NotDigit ((not (check == check_digit_of (number_of text)), CheckDigit) ∷ []) (number_of text) n wide.1 in
    let checked = row_passed (not (check == check_digit_of (number_of text))) CheckDigit [] (number_of text) n digits.1 in
    row_skipped (not (length text == 10)) Width ((not (all_ascii_digits text), NotDigit) ∷ []) (number_of text) wide.0
    ∙ (row_skipped (not (all_ascii_digits text)) NotDigit [] (number_of text) digits.0 ∙ checked.1)

-- ---- the parts of a group

parts : (code : TransactionCode) (related amounts cash credit exchange : Bool) → has_parts code related amounts cash credit exchange ≡ true → ends_tickets code exchange ≡ false → related ≡ false
unfolding has_parts
parts Tktt related amounts cash credit true h n = absurd (cc n)
parts Tktt related amounts cash credit false h n = not-true related (and_parts (amounts && (cash || credit || false)) (not related) h).1
parts Rfnd related amounts cash credit exchange h n = absurd (cc n)
parts Canx true amounts cash credit exchange h n = absurd (cc h)
parts Canx false amounts cash credit exchange h n = refl

fits : (front related amounts card parts : Bool) → (front && related && amounts && card && parts) ≡ true → (related ≡ true) × (parts ≡ true)
fits true true true true parts h = (refl, h)
fits true true true false parts h = absurd (cc h)
fits true true false card parts h = absurd (cc h)
fits true false amounts card parts h = absurd (cc h)
fits false related amounts card parts h = absurd (cc h)

-- its places of related documents, and its parts, are those of a group
pub group_fits : (t : Transaction) → is_group_values t ≡ true → (are_related (is_some t.exchange) t.related ≡ true) × (has_parts t.code (is_some (related_of t)) (is_some t.amounts) (is_some t.cash) (is_some t.credit) (is_some t.exchange) ≡ true)
unfolding is_group_values
group_fits t h = fits _ (are_related (is_some t.exchange) t.related) (none_or are_amounts t.amounts) (none_or is_card t.credit) _ h

no_places : (exchange : Bool) (places : List (Option ReportedDocument)) → are_related exchange places ≡ true → is_some (slice_index_or places 0 None) ≡ false → list_any is_some places ≡ false
unfolding are_related
no_places exchange [] h n = refl
no_places exchange (first ∷ []) h n = absurd (cc h)
no_places exchange (None ∷ None ∷ []) h n = refl
no_places exchange (None ∷ Some e ∷ []) h n = absurd (cc h)
no_places exchange (Some d ∷ None ∷ []) h n = absurd (cc n)
no_places exchange (Some d ∷ Some e ∷ []) h n = absurd (cc n)
no_places exchange (first ∷ second ∷ third ∷ others) h n = absurd (cc h)

-- where no tickets are wanted, no document is related
pub unrelated : (t : Transaction) → is_group_values t ≡ true → ends_tickets t.code (is_some t.exchange) ≡ false → list_any is_some t.related ≡ false
unrelated t g n = let both = group_fits t g in no_places (is_some t.exchange) t.related both.0 (parts t.code _ _ _ _ _ both.1 n)

-- ---- the places of related documents

-- the document in a place has the number
pub record IsNamedIn (places : List (Option ReportedDocument)) (number : List ℕ) (place : ℕ) : Type 0 where
  pub document : ReportedDocument
  pub there : slice_index_or places place None ≡ Some document
  pub same : document.number ≡ number

first_named : (d : ReportedDocument) (others : List (Option ReportedDocument)) (number : List ℕ) → bytes_eq d.number number ≡ true → IsNamedIn (Some d ∷ others) number 0
first_named d others number h = record { document = d; there = refl; same = (bytes_eq-Decides d.number number).0 h }

second_named : (first : Option ReportedDocument) (d : ReportedDocument) (others : List (Option ReportedDocument)) (number : List ℕ) → bytes_eq d.number number ≡ true → IsNamedIn (first ∷ Some d ∷ others) number 1
second_named first d others number h = record { document = d; there = refl; same = (bytes_eq-Decides d.number number).0 h }

-- a number that is named is that of the first document or of the second
pub named_in : (exchange : Bool) (places : List (Option ReportedDocument)) (number : List ℕ) → are_related exchange places ≡ true → list_any (names_number number) places ≡ true → IsNamedIn places number 0 ⊎ IsNamedIn places number 1
unfolding are_related
named_in exchange [] number fit h = absurd (cc h)
named_in exchange (first ∷ []) number fit h = absurd (cc fit)
named_in exchange (None ∷ None ∷ []) number fit h = absurd (cc h)
named_in exchange (None ∷ Some e ∷ []) number fit h = absurd (cc fit)
named_in exchange (Some d ∷ None ∷ []) number fit h = elim (or_cases (bytes_eq d.number number) false h) [
  | inl first ↦ inl (first_named d (None ∷ []) number first)
  | inr none ↦ absurd (cc none)
]
named_in exchange (Some d ∷ Some e ∷ []) number fit h = elim (or_cases (bytes_eq d.number number) (bytes_eq e.number number || false) h) [
  | inl first ↦ inl (first_named d (Some e ∷ []) number first)
  | inr others ↦ elim (or_cases (bytes_eq e.number number) false others) [
    | inl second ↦ inr (second_named (Some d) e [] number second)
    | inr none ↦ absurd (cc none)
  ]
]
named_in exchange (first ∷ second ∷ third ∷ others) number fit h = absurd (cc fit)

-- the second document comes behind the first
pub second_behind : (exchange : Bool) (places : List (Option ReportedDocument)) (d e : ReportedDocument) → are_related exchange places ≡ true → slice_index_or places 0 None ≡ Some d → slice_index_or places 1 None ≡ Some e → is_before d e ≡ true
unfolding are_related
second_behind exchange [] d e fit first second = absurd (cc first)
second_behind exchange (place ∷ []) d e fit first second = absurd (cc second)
second_behind exchange (None ∷ place ∷ []) d e fit first second = absurd (cc first)
second_behind exchange (Some a ∷ None ∷ []) d e fit first second = absurd (cc second)
second_behind exchange (Some a ∷ Some b ∷ []) d e fit first second =
    let behind : is_before a b ≡ true = (and_parts (exchange && is_document a && is_document b) (is_before a b) fit).1 in
    subst (λ (x : ReportedDocument). is_before d x ≡ true) (same_Some b e second) (subst (λ (x : ReportedDocument). is_before x b ≡ true) (same_Some a d first) behind)
second_behind exchange (place ∷ other ∷ third ∷ others) d e fit first second = absurd (cc fit)

-- what is in a place is among the places
pub in_places : (places : List (Option ReportedDocument)) (place : ℕ) (d : ReportedDocument) → slice_index_or places place None ≡ Some d → Contains places (Some d)
in_places [] zero d h = absurd (cc h)
in_places [] (suc k) d h = absurd (cc h)
in_places (first ∷ places) zero d h = subst (λ (x : Option ReportedDocument). Contains (x ∷ places) (Some d)) (sym h) (contains_head (Some d) places)
in_places (first ∷ places) (suc k) d h = contains_tail first places (Some d) (in_places places k d h)
