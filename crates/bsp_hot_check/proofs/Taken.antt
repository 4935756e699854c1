-- A record that the ones before allow makes the next draft.
use Rattle.std.proofs.Common.{◌≡◌, ℕ, ◌+◌, ℤ, Bool, true, false, List, [], ◌∷◌, ◌++◌, length, Option, Some, None, refl, sym, ap, subst, ◌∙◌, eqb-true}
use Rattle.std.specs.List.{find}
use Rattle.std.specs.Option.{is_none}
use Rattle.std.proofs.lemmas.Bool.{and_parts, false≢true}
use Rattle.std.proofs.lemmas.Option.{none-some}
use Rattle.std.proofs.lemmas.Bool.Decides.{Decides-int_eq}
use Rattle.std.proofs.lemmas.Slice.Eq.{bytes_eq-Decides}
use Rattle.bsp_hot_records.specs.declared.code.DocumentCode.{DocumentCode}
use Rattle.bsp_hot_records.specs.declared.code.DocumentCode.TheVariants.{Tktt, Rfnd, Canx, Adma, Acma}
use Rattle.bsp_hot_records.specs.declared.totals.Sums.{Sums}
use Rattle.bsp_hot_records.specs.declared.totals.Totals.{Totals}
use Rattle.bsp_hot_records.specs.declared.model.Record.TheVariants as record_is
use Rattle.bsp_hot_check.specs.declared.model.OfficeSums.{OfficeSums}
use Rattle.bsp_hot_check.specs.declared.model.Place.TheVariants.{InDocument}
use Rattle.bsp_hot_check.specs.declared.model.Standing.{Standing}
use Rattle.bsp_hot_records.specs.Records.{Days, Heading, Document, Part, Record, file_header, period_header, office_header, transaction_header, document, part, code_totals, office_totals, period_totals, file_totals}
use Rattle.bsp_hot_records.specs.Sums.{with_net, is_same, has_totals, is_code, all_codes}
use Rattle.bsp_hot_check.specs.Hot.{Body, Item, File, items_sums, code_sums, file_sums, has_code, all_but_last}
use Rattle.bsp_hot_records.specs.Judged.{judged, judged_part}
use Rattle.bsp_hot_check.specs.Standings.{is_complete_progress, later_codes, sums_at, next_code, is_next, allowed, step}
use Rattle.bsp_hot_check.proofs.SumLemmas.{codes_of}
use Rattle.bsp_hot_check.proofs.PartialItems.{PartialItem, whole, progress_of, next_part, item_with, is_whole, whole_body}
use Rattle.bsp_hot_check.proofs.Drafts.{Draft, nothing, headed, between, opened, begun, in_item, totalled, closed, ended, number, office_with, standing_of, IsOpen, IsInItem, IsTotalling, IsSoundDraft, Next}
use Rattle.bsp_hot_check.proofs.Steps.{begins, heads, opens, begins_first, begins_next, number_more, number_none, documents, parts, office_whole}
use Rattle.bsp_hot_check.proofs.Closing.{sums_at_codes, found_codes, totals_first, totals_next, totals, closes, ends}

-- the draft that the record makes
abbrev pub Taken : Draft → Record → Type 0
Taken d r = (e : Draft) × Next d r e

-- ---- helpers

test_of : (test : Bool) (x y : Standing) → allowed test x ≡ Some y → test ≡ true
test_of true x y h = refl
test_of false x y h = absurd cc

same_record : (d : Draft) (r s : Record) → r ≡ s → Taken d s → Taken d r
same_record d r s e t = subst (λ (x : Record). Taken d x) (sym e) t

same_totals : (a a2 : ℕ) (b b2 c c2 d d2 x x2 n n2 : ℤ) → a ≡ a2 → b ≡ b2 → c ≡ c2 → d ≡ d2 → x ≡ x2 → n ≡ n2
    → ◌≡◌ {A = Totals} (record { sums = record { documents = a; cash = b; credit = c; commission = d; tax = x }; net = n })
    (record { sums = record { documents = a2; cash = b2; credit = c2; commission = d2; tax = x2 }; net = n2 })
same_totals a a2 b b2 c c2 d d2 x x2 n n2 p q r s t u = rw (p, q, r, s, t, u) refl

totals_are : (s : Sums) (t : Totals) → has_totals s t ≡ true → t ≡ with_net s
unfolding has_totals is_same
totals_are s t h =
    let a = and_parts _ _ h in
    let b = and_parts _ _ a.0 in
    let c = and_parts _ _ b.0 in
    let d = and_parts _ _ c.0 in
    let e = and_parts _ _ d.0 in
    same_totals _ _ _ _ _ _ _ _ _ _ _ _ (eqb-true _ _ e.0) ((Decides-int_eq _ _).0 e.1) ((Decides-int_eq _ _).0 d.1) ((Decides-int_eq _ _).0 c.1) ((Decides-int_eq _ _).0 b.1) ((Decides-int_eq _ _).0 a.1)

same_code : (c d : DocumentCode) → is_code c d ≡ true → c ≡ d
same_code Tktt Tktt h = refl
same_code Rfnd Rfnd h = refl
same_code Canx Canx h = refl
same_code Adma Adma h = refl
same_code Acma Acma h = refl
same_code _ _ h = absurd (false≢true h)

next_is : (o : Option DocumentCode) (c : DocumentCode) → is_next o c ≡ true → o ≡ Some c
next_is None c h = absurd cc
next_is (Some d) c h = ap Some (same_code d c h)

none_is : (o : Option DocumentCode) → is_none o ≡ true → o ≡ None
none_is None h = refl
none_is (Some c) h = absurd cc

-- ---- each record

period_taken : (h : Heading) (period : ℕ) (days : Days) (at : Standing) → step (standing_of (headed h)) (record_is.PeriodHeader period) ≡ Some at → Taken (headed h) (period_header period days)
unfolding step
period_taken h period days at e =
    let k = eqb-true _ _ (test_of _ _ _ e) in
    same_record _ _ _ (ap (λ (x : ℕ). period_header x days) k) (_, heads h days)

office_taken : (f : File) (agent period : ℕ) (currency : List ℕ) (at : Standing) → IsSoundDraft (between f) → step (standing_of (between f)) (record_is.OfficeHeader (record { agent = agent; period = period; currency = currency })) ≡ Some at
    → Taken (between f) (office_header agent period currency)
unfolding step
office_taken f agent period currency at sound e =
    let a = and_parts _ _ (test_of _ _ _ e) in
    let b = and_parts _ _ a.0 in
    let period_is : period ≡ f.heading.period = eqb-true _ _ b.1 in
    let currency_is : currency ≡ f.heading.currency = (bytes_eq-Decides currency f.heading.currency).0 a.1 in
    same_record _ _ (office_header agent f.heading.period f.heading.currency) (rw (period_is, currency_is) refl) (opened f agent, opens f agent sound b.0)

first_taken : (f : File) (agent n airline : ℕ) (at : Standing) → IsSoundDraft (opened f agent) → step (standing_of (opened f agent)) (record_is.TransactionHeader (record { transaction = n; airline = airline })) ≡ Some at
    → Taken (opened f agent) (transaction_header n airline)
unfolding step
first_taken f agent n airline at sound e =
    let a = and_parts _ _ (test_of _ _ _ e) in
    let number_is : n ≡ number f [] = eqb-true _ _ a.0 ∙ sym (number_none f) in
    let airline_is : airline ≡ f.heading.airline = eqb-true _ _ a.1 in
    same_record _ _ (transaction_header (number f []) f.heading.airline) (rw (number_is, airline_is) refl) (begun f agent [], begins_first f agent sound)

behind_whole : (f : File) (agent : ℕ) (items : List Item) (d : Document) (body : Body) (n airline : ℕ) → IsInItem f agent items d (whole body) → n ≡ number f items + 1 → airline ≡ f.heading.airline
    → Taken (in_item f agent items d (whole body)) (transaction_header n airline)
behind_whole f agent items d body n airline sound number_is airline_is =
    let it = item_with d body in
    same_record _ _ (transaction_header (number f (items ++ it ∷ [])) f.heading.airline) (rw (number_is, airline_is, number_more f items it) refl) (_, begins_next f agent items d body sound)

transaction_taken : (f : File) (agent : ℕ) (items : List Item) (d : Document) (g : PartialItem) (n airline : ℕ) (at : Standing) → IsInItem f agent items d g
    → step (standing_of (in_item f agent items d g)) (record_is.TransactionHeader (record { transaction = n; airline = airline })) ≡ Some at
    → Taken (in_item f agent items d g) (transaction_header n airline)
unfolding step
transaction_taken f agent items d g n airline at sound e =
    let a = and_parts _ _ (test_of _ _ _ e) in
    let b = and_parts _ _ a.0 in
    let w = whole_body g b.0 in
    let P : PartialItem → Type 0 = λ x. IsInItem f agent items d x → Taken (in_item f agent items d x) (transaction_header n airline) in
    subst P (sym w.1) (λ s. behind_whole f agent items d w.0 n airline s (eqb-true _ _ b.1) (eqb-true _ _ a.1)) sound

document_taken : (f : File) (agent : ℕ) (items : List Item) (n agent2 : ℕ) (c : DocumentCode) (d : Document) (at : Standing) → IsOpen f agent items
    → step (standing_of (begun f agent items)) (record_is.Document (record { transaction = n; agent = agent2; code = c; number = d.number })) ≡ Some at
    → Taken (begun f agent items) (document n agent2 c d)
unfolding step
document_taken f agent items n agent2 c d at sound e =
    let a = and_parts _ _ (test_of _ _ _ e) in
    let b = and_parts _ _ a.0 in
    let number_is : n ≡ number f items = eqb-true _ _ b.0 in
    let agent_is : agent2 ≡ agent = eqb-true _ _ b.1 in
    same_record _ _ (document (number f items) agent c d) (rw (number_is, agent_is) refl) (_, documents f agent items c d sound a.1)

part_taken : (f : File) (agent : ℕ) (items : List Item) (d : Document) (g : PartialItem) (n : ℕ) (x : Part) (at : Standing) → IsInItem f agent items d g
    → step (standing_of (in_item f agent items d g)) (record_is.PartOf (record { transaction = n; part = judged_part x })) ≡ Some at
    → Taken (in_item f agent items d g) (part n x)
unfolding step
part_taken f agent items d g n x at sound e =
    let a = and_parts _ _ (test_of _ _ _ e) in
    let number_is : n ≡ number f items = eqb-true _ _ a.1 in
    let h = next_part f.heading.form f.heading.airline g x a.0 in
    same_record _ _ (part (number f items) x) (rw number_is refl) (_, parts f agent items d g h.0 x sound h.1)

totals_whole : (f : File) (agent : ℕ) (items : List Item) (d : Document) (body : Body) (agent2 : ℕ) (c : DocumentCode) (t : Totals) → IsInItem f agent items d (whole body)
    → is_next (next_code (office_with items d (whole body)).codes (InDocument (progress_of (whole body)))) c ≡ true → agent2 ≡ agent → has_totals (sums_at (office_with items d (whole body)).codes c) t ≡ true
    → Taken (in_item f agent items d (whole body)) (code_totals agent2 c t)
totals_whole f agent items d body agent2 c t sound next agent_is has =
    let it = item_with d body in
    let items2 = items ++ it ∷ [] in
    let codes : (office_with items d (whole body)).codes ≡ codes_of items2 = ap (λ (w : OfficeSums). w.codes) (office_whole items d body) in
    let found : find (has_code items2) all_codes ≡ Some c = sym (found_codes items2 all_codes) ∙ next_is _ c (rw (codes, is_whole body) at next) in
    let totals_is : t ≡ with_net (code_sums c items2) = totals_are _ t (rw (codes, sums_at_codes items2 c) at has) in
    same_record _ _ (code_totals agent c (with_net (code_sums c items2))) (rw (agent_is, totals_is) refl) (_, totals_first f agent items d body c sound found)

no_code : (f : File) (items : List Item) (d : Document) (g : PartialItem) (c : DocumentCode) → is_next (next_code (office_with items d g).codes (InDocument (progress_of g))) c ≡ true → (b : Bool) → is_complete_progress (progress_of g) ≡ b → b ≡ true
no_code f items d g c next true e = refl
no_code f items d g c next false e = let k = rw e at next in absurd cc

code_taken : (f : File) (agent : ℕ) (items : List Item) (d : Document) (g : PartialItem) (agent2 : ℕ) (c : DocumentCode) (t : Totals) (at : Standing) → IsInItem f agent items d g
    → step (standing_of (in_item f agent items d g)) (record_is.CodeTotals (record { agent = agent2; code = c; totals = t })) ≡ Some at
    → Taken (in_item f agent items d g) (code_totals agent2 c t)
unfolding step
code_taken f agent items d g agent2 c t at sound e =
    let a = and_parts _ _ (test_of _ _ _ e) in
    let b = and_parts _ _ a.0 in
    let complete = no_code f items d g c b.0 (is_complete_progress (progress_of g)) refl in
    let w = whole_body g complete in
    let P : PartialItem → Type 0 = λ x. IsInItem f agent items d x → is_next (next_code (office_with items d x).codes (InDocument (progress_of x))) c ≡ true → has_totals (sums_at (office_with items d x).codes c) t ≡ true → Taken (in_item f agent items d x) (code_totals agent2 c t) in
    subst P (sym w.1) (λ s next has. totals_whole f agent items d w.0 agent2 c t s next (eqb-true _ _ b.1) has) sound b.0 a.1

code_taken_next : (f : File) (agent : ℕ) (items : List Item) (done : List DocumentCode) (before : DocumentCode) (agent2 : ℕ) (c : DocumentCode) (t : Totals) (at : Standing) → IsTotalling f agent items done before
    → step (standing_of (totalled f agent items done before)) (record_is.CodeTotals (record { agent = agent2; code = c; totals = t })) ≡ Some at
    → Taken (totalled f agent items done before) (code_totals agent2 c t)
unfolding step
code_taken_next f agent items done before agent2 c t at sound e =
    let a = and_parts _ _ (test_of _ _ _ e) in
    let b = and_parts _ _ a.0 in
    let found : find (has_code items) (later_codes before) ≡ Some c = sym (found_codes items (later_codes before)) ∙ next_is _ c b.0 in
    let agent_is : agent2 ≡ agent = eqb-true _ _ b.1 in
    let totals_is : t ≡ with_net (code_sums c items) = totals_are _ t (rw (sums_at_codes items c) at a.1) in
    same_record _ _ (code_totals agent c (with_net (code_sums c items))) (rw (agent_is, totals_is) refl) (_, totals_next f agent items done before c sound found)

office_totals_taken : (f : File) (agent : ℕ) (items : List Item) (done : List DocumentCode) (c : DocumentCode) (agent2 : ℕ) (t : Totals) (at : Standing) → IsTotalling f agent items done c
    → step (standing_of (totalled f agent items done c)) (record_is.OfficeTotals (record { agent = agent2; totals = t })) ≡ Some at
    → Taken (totalled f agent items done c) (office_totals agent2 t)
unfolding step
office_totals_taken f agent items done c agent2 t at sound e =
    let a = and_parts _ _ (test_of _ _ _ e) in
    let b = and_parts _ _ a.0 in
    let none : find (has_code items) (later_codes c) ≡ None = sym (found_codes items (later_codes c)) ∙ none_is _ b.0 in
    let agent_is : agent2 ≡ agent = eqb-true _ _ b.1 in
    let totals_is : t ≡ with_net (items_sums items) = totals_are _ t a.1 in
    same_record _ _ (office_totals agent (with_net (items_sums items))) (rw (agent_is, totals_is) refl) (_, totals f agent items done c sound none)

period_totals_taken : (f : File) (period offices : ℕ) (t : Totals) (at : Standing) → IsSoundDraft (between f) → step (standing_of (between f)) (record_is.PeriodTotals (record { period = period; offices = offices; totals = t })) ≡ Some at
    → Taken (between f) (period_totals period offices t)
unfolding step
period_totals_taken f period offices t at sound e =
    let a = and_parts _ _ (test_of _ _ _ e) in
    let b = and_parts _ _ a.0 in
    let period_is : period ≡ f.heading.period = eqb-true _ _ b.0 in
    let offices_are : offices ≡ length f.offices = eqb-true _ _ b.1 in
    let totals_is : t ≡ with_net (file_sums f.offices) = totals_are _ t a.1 in
    same_record _ _ (period_totals f.heading.period (length f.offices) (with_net (file_sums f.offices))) (rw (period_is, offices_are, totals_is) refl) (_, closes f sound)

file_totals_taken : (f : File) (airline records : ℕ) (t : Totals) (at : Standing) → IsSoundDraft (closed f) → step (standing_of (closed f)) (record_is.FileTotals (record { airline = airline; records = records; totals = t })) ≡ Some at
    → Taken (closed f) (file_totals airline records t)
unfolding step
file_totals_taken f airline records t at sound e =
    let a = and_parts _ _ (test_of _ _ _ e) in
    let b = and_parts _ _ a.0 in
    let airline_is : airline ≡ f.heading.airline = eqb-true _ _ b.0 in
    let records_are : records ≡ length (all_but_last f) + 1 = eqb-true _ _ b.1 in
    let totals_is : t ≡ with_net (file_sums f.offices) = totals_are _ t a.1 in
    same_record _ _ (file_totals f.heading.airline (length (all_but_last f) + 1) (with_net (file_sums f.offices))) (rw (airline_is, records_are, totals_is) refl) (_, ends f sound)

-- a record that the ones before allow
pub taken : (d : Draft) (r : Record) (at : Standing) → IsSoundDraft d → step (standing_of d) (judged r) ≡ Some at → Taken d r
unfolding step
taken nothing (file_header h) at sound e = (headed h, begins h)
taken (headed h) (period_header period days) at sound e = period_taken h period days at e
taken (between f) (office_header agent period currency) at sound e = office_taken f agent period currency at sound e
taken (between f) (period_totals period offices t) at sound e = period_totals_taken f period offices t at sound e
taken (opened f agent) (transaction_header n airline) at sound e = first_taken f agent n airline at sound e
taken (begun f agent items) (document n agent2 c d) at sound e = document_taken f agent items n agent2 c d at sound e
taken (in_item f agent items d g) (transaction_header n airline) at sound e = transaction_taken f agent items d g n airline at sound e
taken (in_item f agent items d g) (part n x) at sound e = part_taken f agent items d g n x at sound e
taken (in_item f agent items d g) (code_totals agent2 c t) at sound e = code_taken f agent items d g agent2 c t at sound e
taken (totalled f agent items done before) (code_totals agent2 c t) at sound e = code_taken_next f agent items done before agent2 c t at sound e
taken (totalled f agent items done before) (office_totals agent2 t) at sound e = office_totals_taken f agent items done before agent2 t at sound e
taken (closed f) (file_totals airline records t) at sound e = file_totals_taken f airline records t at sound e
taken (ended f) (file_header h) at sound e = absurd (none-some at e)
taken _ _ at sound e = absurd (none-some at e)
