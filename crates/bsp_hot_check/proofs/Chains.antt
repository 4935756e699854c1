-- Records that make one draft of another: those of a whole file, and from each draft to some end.
use Rattle.std.proofs.Common.{◌≡◌, ◌<◌, ℕ, ◌+◌, ℤ, pos, Bool, true, false, List, [], ◌∷◌, ◌++◌, length, map, filter, Option, Some, None, refl, sym, ap, subst, ◌∙◌, arith, inl, inr, append_assoc, append-nil, add-zero}
use Rattle.std.specs.List.{find}
use Rattle.std.proofs.lemmas.Bool.{cases_Bool, lt-ltb}
use Rattle.bsp_hot_records.specs.declared.code.DocumentCode.{DocumentCode}
use Rattle.bsp_hot_records.specs.declared.code.DocumentCode.TheVariants.{Tktt, Rfnd, Canx, Adma, Acma}
use Rattle.bsp_hot_records.specs.declared.form.FileForm.{FileForm}
use Rattle.bsp_hot_records.specs.declared.form.FileForm.TheVariants.{One, Two}
use Rattle.bsp_hot_check.specs.declared.model.DocumentKey.{DocumentKey}
use Rattle.bsp_hot_records.specs.declared.totals.Sums.{Sums}
use Rattle.bsp_hot_records.specs.Records.{Days, Heading, Document, Amounts, Commission, CommissionTax, Related, Part, Record, related, exchange, period_header, transaction_header, document, part, office_totals, period_totals, file_totals}
use Rattle.bsp_hot_records.specs.Sums.{add, with_net, all_codes}
use Rattle.bsp_hot_check.specs.Hot.{Forms, cash_only, credit_only, cash_and_credit, Charges, commission_only, commission_and_tax, RelatedDocuments, one, two, Body, sale, exchanged, refund, cancellation, debit_memo, credit_memo, Item, Office, File, code_of_body, charges_parts, forms_parts, related_parts, parts_of, form_of_charges, AreOwn, is_before, IsAfter, AreItems, IsBody, IsBehind, AreOffices, IsFile, document_sums, items_sums, code_sums, file_sums, item_records, items_records, has_code, closing_records, office_records, offices_records, headers, all_but_last, records_of}
use Rattle.bsp_hot_check.specs.Standings.{later_codes, is_key_after, is_agent_after}
use Rattle.bsp_hot_check.proofs.SumLemmas.{code_sums_more}
use Rattle.bsp_hot_check.proofs.PartialItems.{PartialItem, ticket, ticket_amounts, ticket_commission, ticket_charged, ticket_related, ticket_paid, refunding, refund_amounts, refund_commission, refund_charged, refund_related, debit, debit_amounts, credited, credited_amounts, whole, first, item_with, item_is_with, IsNextPart, next_ticket_amounts, next_ticket_commission_only, next_ticket_commission, next_ticket_tax, next_ticket_related, next_ticket_second, next_sale_cash, next_sale_credit, next_sale_both, next_paid_cash, next_paid_credit, next_paid_both, next_exchange, next_paid_exchange, next_refund_amounts, next_refund_commission_only, next_refund_commission, next_refund_tax, next_refund_related, next_refund_cash, next_refund_credit, next_refund_both, next_debit_amounts, next_debit_cash, next_credited_amounts, next_credited_cash}
use Rattle.bsp_hot_check.proofs.Drafts.{Draft, nothing, headed, between, opened, begun, in_item, totalled, closed, ended, count_items, number, code_records, key_of, latest_key, last_agent, IsOpen, IsInItem, IsTotalling, IsSoundDraft, Next}
use Rattle.bsp_hot_check.proofs.Steps.{begins, no_offices, heads, opens, begins_first, begins_next, number_more, last_snoc, documents, parts}
use Rattle.bsp_hot_check.proofs.Closing.{is_code_refl, count_snoc, last_agent_snoc, AreInOrder, later_in_order, found_all, totals_first, totals_next, with_office, totals, closes, ends}

-- these records, one after the other, make the other draft
abbrev pub Chain : Draft → List Record → Draft → Type 0
Chain d [] e = d ≡ e
Chain d (r ∷ records) e = (m : Draft) × Next d r m × Chain m records e

one_link : (d : Draft) (r : Record) (e : Draft) → Next d r e → Chain d (r ∷ []) e
one_link d r e n = (e, n, refl)

joined : (d m e : Draft) (xs ys : List Record) → Chain d xs m → Chain m ys e → Chain d (xs ++ ys) e
joined d m e [] ys p q = subst (λ (x : Draft). Chain x ys e) (sym p) q
joined d m e (r ∷ xs) ys p q = (p.0, p.1, joined p.0 m e xs ys p.2 q)

-- what sound drafts make is sound
pub chain_sound : (d e : Draft) (records : List Record) → Chain d records e → IsSoundDraft d → IsSoundDraft e
chain_sound d e [] c is = subst IsSoundDraft c is
chain_sound d e (r ∷ records) c is = chain_sound c.0 e records c.2 c.1.sound

-- ---- the records of an item

abbrev PartsLead : FileForm → ℕ → PartialItem → List Part → PartialItem → Type 0
PartsLead form airline g [] h = g ≡ h
PartsLead form airline g (x ∷ xs) h = (m : PartialItem) × IsNextPart form airline g x m × PartsLead form airline m xs h

-- the charges of a ticket, and what follows them
ticket_charges : (form : FileForm) (airline : ℕ) (a : Amounts) (c : Charges) (more : List Part) (h : PartialItem) → form_of_charges c ≡ form → PartsLead form airline (ticket_charged a c) more h → PartsLead form airline (ticket_amounts a) (charges_parts c ++ more) h
ticket_charges form airline a (commission_only c) more h is lead = (_, next_ticket_commission_only form airline a c is, lead)
ticket_charges form airline a (commission_and_tax c t) more h is lead = (_, next_ticket_commission form airline a c is, (_, next_ticket_tax form airline a c t, lead))

refund_charges : (form : FileForm) (airline : ℕ) (a : Amounts) (c : Charges) (more : List Part) (h : PartialItem) → form_of_charges c ≡ form → PartsLead form airline (refund_charged a c) more h → PartsLead form airline (refund_amounts a) (charges_parts c ++ more) h
refund_charges form airline a (commission_only c) more h is lead = (_, next_refund_commission_only form airline a c is, lead)
refund_charges form airline a (commission_and_tax c t) more h is lead = (_, next_refund_commission form airline a c is, (_, next_refund_tax form airline a c t, lead))

-- the forms of payment of a sale
sale_forms : (form : FileForm) (airline : ℕ) (a : Amounts) (c : Charges) (forms : Forms) → PartsLead form airline (ticket_charged a c) (forms_parts forms) (whole (sale a c forms))
sale_forms form airline a c (cash_only paid) = (_, next_sale_cash form airline a c paid, refl)
sale_forms form airline a c (credit_only card) = (_, next_sale_credit form airline a c card, refl)
sale_forms form airline a c (cash_and_credit paid card) = (_, next_sale_cash form airline a c paid, (_, next_sale_both form airline a c paid card, refl))

-- the forms of an exchange
abbrev exchange_parts : Option Forms → ℤ → List Part
exchange_parts None ex = exchange ex ∷ []
exchange_parts (Some forms) ex = forms_parts forms ++ exchange ex ∷ []

exchange_leads : (form : FileForm) (airline : ℕ) (a : Amounts) (c : Charges) (r : RelatedDocuments) (forms : Option Forms) (ex : ℤ) → PartsLead form airline (ticket_related a c r) (exchange_parts forms ex) (whole (exchanged a c r forms ex))
exchange_leads form airline a c r None ex = (_, next_exchange form airline a c r ex, refl)
exchange_leads form airline a c r (Some (cash_only paid)) ex = (_, next_paid_cash form airline a c r paid, (_, next_paid_exchange form airline a c r (cash_only paid) ex, refl))
exchange_leads form airline a c r (Some (credit_only card)) ex = (_, next_paid_credit form airline a c r card, (_, next_paid_exchange form airline a c r (credit_only card) ex, refl))
exchange_leads form airline a c r (Some (cash_and_credit paid card)) ex =
    (_, next_paid_cash form airline a c r paid, (_, next_paid_both form airline a c r paid card, (_, next_paid_exchange form airline a c r (cash_and_credit paid card) ex, refl)))

-- the records of an exchange behind its charges
exchange_walk : (form : FileForm) (airline : ℕ) (a : Amounts) (c : Charges) (r : RelatedDocuments) (forms : Option Forms) (ex : ℤ) → AreOwn airline r → PartsLead form airline (ticket_charged a c) (related_parts r ++ exchange_parts forms ex) (whole (exchanged a c r forms ex))
exchange_walk form airline a c (one r) forms ex is = (_, next_ticket_related form airline a c r is, exchange_leads form airline a c (one r) forms ex)
exchange_walk form airline a c (two r s) forms ex is =
    (_, next_ticket_related form airline a c r is.0, (_, next_ticket_second form airline a c r s is.1 is.2, exchange_leads form airline a c (two r s) forms ex))

-- the forms of payment of a refund
refund_forms : (form : FileForm) (airline : ℕ) (a : Amounts) (c : Charges) (r : Related) (forms : Forms) → PartsLead form airline (refund_related a c r) (forms_parts forms) (whole (refund a c r forms))
refund_forms form airline a c r (cash_only paid) = (_, next_refund_cash form airline a c r paid, refl)
refund_forms form airline a c r (credit_only card) = (_, next_refund_credit form airline a c r card, refl)
refund_forms form airline a c r (cash_and_credit paid card) = (_, next_refund_cash form airline a c r paid, (_, next_refund_both form airline a c r paid card, refl))

parts_lead : (form : FileForm) (airline : ℕ) (body : Body) → IsBody form airline body → PartsLead form airline (first (code_of_body body)) (parts_of body) (whole body)
parts_lead form airline (sale a c forms) is =
    (_, next_ticket_amounts form airline a, ticket_charges form airline a c (forms_parts forms) (whole (sale a c forms)) is (sale_forms form airline a c forms))
parts_lead form airline (exchanged a c r None ex) is =
    let more = related_parts r ++ exchange_parts None ex in
    (_, next_ticket_amounts form airline a, ticket_charges form airline a c more (whole (exchanged a c r None ex)) is.0 (exchange_walk form airline a c r None ex is.1))
parts_lead form airline (exchanged a c r (Some forms) ex) is =
    let more = related_parts r ++ exchange_parts (Some forms) ex in
    (_, next_ticket_amounts form airline a, ticket_charges form airline a c more (whole (exchanged a c r (Some forms) ex)) is.0 (exchange_walk form airline a c r (Some forms) ex is.1))
parts_lead form airline (refund a c r forms) is =
    let body = refund a c r forms in
    let paid : PartsLead form airline (refund_charged a c) (related r ∷ forms_parts forms) (whole body) = (_, next_refund_related form airline a c r is.1, refund_forms form airline a c r forms) in
    (_, next_refund_amounts form airline a, refund_charges form airline a c (related r ∷ forms_parts forms) (whole body) is.0 paid)
parts_lead form airline cancellation is = refl
parts_lead form airline (debit_memo a paid) is = (_, next_debit_amounts form airline a is, (_, next_debit_cash form airline a paid, refl))
parts_lead form airline (credit_memo a paid) is = (_, next_credited_amounts form airline a is, (_, next_credited_cash form airline a paid, refl))

-- an item that next with the records is sound
parts_sound : (f : File) (agent : ℕ) (items : List Item) (d : Document) (g h : PartialItem) (xs : List Part) → IsInItem f agent items d g → PartsLead f.heading.form f.heading.airline g xs h → IsInItem f agent items d h
parts_sound f agent items d g h [] is e = subst (λ (x : PartialItem). IsInItem f agent items d x) e is
parts_sound f agent items d g h (x ∷ xs) is all = parts_sound f agent items d all.0 h xs (parts f agent items d g all.0 x is all.1).sound all.2

parts_chain : (f : File) (agent : ℕ) (items : List Item) (d : Document) (g h : PartialItem) (xs : List Part) → IsInItem f agent items d g → PartsLead f.heading.form f.heading.airline g xs h
    → Chain (in_item f agent items d g) (map (part (number f items)) xs) (in_item f agent items d h)
parts_chain f agent items d g h [] is e = ap (in_item f agent items d) e
parts_chain f agent items d g h (x ∷ xs) is all =
    let n = parts f agent items d g all.0 x is all.1 in
    (in_item f agent items d all.0, n, parts_chain f agent items d all.0 h xs n.sound all.2)

-- the records of an item behind its BKT06
item_chain : (f : File) (agent : ℕ) (items : List Item) (d : Document) (body : Body) → IsOpen f agent items → is_key_after (latest_key items) (key_of (item_with d body)) ≡ true → IsBody f.heading.form f.heading.airline body
    → Chain (begun f agent items) (document (number f items) agent (code_of_body body) d ∷ map (part (number f items)) (parts_of body)) (in_item f agent items d (whole body))
item_chain f agent items d body is_open after sound =
    let c = code_of_body body in
    let n = documents f agent items c d is_open after in
    (in_item f agent items d (first c), n, parts_chain f agent items d (first c) (whole body) (parts_of body) n.sound (parts_lead f.heading.form f.heading.airline body sound))

item_sound : (f : File) (agent : ℕ) (items : List Item) (d : Document) (body : Body) → IsOpen f agent items → is_key_after (latest_key items) (key_of (item_with d body)) ≡ true → IsBody f.heading.form f.heading.airline body → IsInItem f agent items d (whole body)
item_sound f agent items d body is_open after sound =
    let c = code_of_body body in
    let n = documents f agent items c d is_open after in
    parts_sound f agent items d (first c) (whole body) (parts_of body) n.sound (parts_lead f.heading.form f.heading.airline body sound)

-- ---- items

-- the records of further items lead to a draft of all of them
pub record Items (f : File) (agent : ℕ) (d : Draft) (records : List Record) (all : List Item) : Type 0 where
  pub before : List Item
  pub document_is : Document
  pub body : Body
  pub sound : IsInItem f agent before document_is (whole body)
  pub all_are : before ++ item_with document_is body ∷ [] ≡ all
  pub chain : Chain d records (in_item f agent before document_is (whole body))

after_last : (done : List Item) (last next : Item) → IsAfter (Some last) next → is_key_after (latest_key (done ++ last ∷ [])) (key_of next) ≡ true
after_last done last next after = rw (last_snoc None done last) after

-- items behind one
abbrev ItemsBehind : File → ℕ → List Item → Document → Body → List Item → Type 0
ItemsBehind f agent done d body items =
    Items f agent (in_item f agent done d (whole body)) (items_records f.heading.airline agent (number f (done ++ item_with d body ∷ [])) items) ((done ++ item_with d body ∷ []) ++ items)

-- one more of them, where further ones lead on from it
one_item : (items : List Item) (f : File) (agent : ℕ) (done : List Item) (d0 : Document) (body0 : Body) (d : Document) (body : Body) → IsInItem f agent done d0 (whole body0) → IsAfter (Some (item_with d0 body0)) (item_with d body) → IsBody f.heading.form f.heading.airline body
    → (IsInItem f agent (done ++ item_with d0 body0 ∷ []) d (whole body) → ItemsBehind f agent (done ++ item_with d0 body0 ∷ []) d body items) → ItemsBehind f agent done d0 body0 (item_with d body ∷ items)
one_item items f agent done d0 body0 d body is after sound further_items =
    let done2 = done ++ item_with d0 body0 ∷ [] in
    let it = item_with d body in
    let airline = f.heading.airline in
    let header = begins_next f agent done d0 body0 is in
    let key = after_last done (item_with d0 body0) it after in
    let chain = item_chain f agent done2 d body header.sound key sound in
    let rest = further_items (item_sound f agent done2 d body header.sound key sound) in
    let first_part : Chain (in_item f agent done d0 (whole body0)) (item_records airline agent (number f done2) it) (in_item f agent done2 d (whole body)) = (begun f agent done2, header, chain) in
    let numbers : Chain (in_item f agent done2 d (whole body)) (items_records airline agent (number f done2 + 1) items) (in_item f agent rest.before rest.document_is (whole rest.body)) = rw (← number_more f done2 it) rest.chain in
    record {
      before = rest.before;
      document_is = rest.document_is;
      body = rest.body;
      sound = rest.sound;
      all_are = rest.all_are ∙ append_assoc done2 (it ∷ []) items;
      chain =
          joined (in_item f agent done d0 (whole body0)) (in_item f agent done2 d (whole body)) (in_item f agent rest.before rest.document_is (whole rest.body))
          (item_records airline agent (number f done2) it) (items_records airline agent (number f done2 + 1) items) first_part numbers;
    }

items_chain : (items : List Item) (f : File) (agent : ℕ) (done : List Item) (d : Document) (body : Body) → IsInItem f agent done d (whole body) → AreItems f.heading.form f.heading.airline (Some (item_with d body)) items → ItemsBehind f agent done d body items
items_chain [] f agent done d body is are = record {
  before = done;
  document_is = d;
  body = body;
  sound = is;
  all_are = sym (append-nil (done ++ item_with d body ∷ []));
  chain = refl;
}
items_chain (it ∷ items) f agent done d body is are =
    let h = are.1 in
    let P : Item → Type 0 = λ x. IsAfter (Some (item_with d body)) x → AreItems f.heading.form f.heading.airline (Some x) items → ItemsBehind f agent done d body (x ∷ items) in
    subst P (sym (item_is_with f.heading.form f.heading.airline it h))
    (λ after more. one_item items f agent done d body it.document_is h.body is after h.sound (λ sound. items_chain items f agent (done ++ item_with d body ∷ []) it.document_is h.body sound more)) are.0 are.2

-- all items of an office
abbrev AllItems : File → ℕ → List Item → Type 0
AllItems f agent items = Items f agent (opened f agent) (items_records f.heading.airline agent (1 + count_items f.offices) items) items

first_items : (f : File) (agent : ℕ) (d : Document) (body : Body) (items : List Item) → IsOpen f agent [] → IsBody f.heading.form f.heading.airline body → AreItems f.heading.form f.heading.airline (Some (item_with d body)) items → AllItems f agent (item_with d body ∷ items)
first_items f agent d body items is body_is are =
    let it = item_with d body in
    let airline = f.heading.airline in
    let n = 1 + count_items f.offices in
    let header = begins_first f agent is in
    let chain = item_chain f agent [] d body header.sound refl body_is in
    let sound = item_sound f agent [] d body header.sound refl body_is in
    let rest = items_chain items f agent [] d body sound are in
    let first_part : Chain (opened f agent) (item_records airline agent (number f []) it) (in_item f agent [] d (whole body)) = (begun f agent [], header, chain) in
    let all : Chain (opened f agent) (item_records airline agent (number f []) it ++ items_records airline agent (number f (it ∷ [])) items) (in_item f agent rest.before rest.document_is (whole rest.body)) =
    joined (opened f agent) (in_item f agent [] d (whole body)) (in_item f agent rest.before rest.document_is (whole rest.body)) (item_records airline agent (number f []) it)
    (items_records airline agent (number f (it ∷ [])) items) first_part rest.chain in
    let at_first : number f [] ≡ n = add-zero n in
    let at_next : number f (it ∷ []) ≡ n + 1 = omega arith in
    let P : ℕ → ℕ → Type 0 = λ i j. Chain (opened f agent) (item_records airline agent i it ++ items_records airline agent j items) (in_item f agent rest.before rest.document_is (whole rest.body)) in
    record {
      before = rest.before;
      document_is = rest.document_is;
      body = rest.body;
      sound = rest.sound;
      all_are = rest.all_are;
      chain = subst (λ (i : ℕ). P i (n + 1)) at_first (subst (λ (j : ℕ). P (number f []) j) at_next all);
    }

all_items_chain : (f : File) (agent : ℕ) (items : List Item) → IsOpen f agent [] → 0 < length items → AreItems f.heading.form f.heading.airline None items → AllItems f agent items
all_items_chain f agent [] is some are = absurd (omega arith)
all_items_chain f agent (it ∷ items) is some are =
    let h = are.1 in
    let P : Item → Type 0 = λ x. AreItems f.heading.form f.heading.airline (Some x) items → AllItems f agent (x ∷ items) in
    subst P (sym (item_is_with f.heading.form f.heading.airline it h)) (λ more. first_items f agent it.document_is h.body items is h.sound more) are.2

-- ---- the totals of an office

found_some : (p : DocumentCode → Bool) (c : DocumentCode) → p c ≡ true → (d : DocumentCode) × (find p all_codes ≡ Some d)
found_some p c h =
    elim (cases_Bool (p Tktt)) [
      | inl a ↦ (Tktt, rw a refl)
      | inr a ↦ elim (cases_Bool (p Rfnd)) [
        | inl b ↦ (Rfnd, rw (a, b) refl)
        | inr b ↦ elim (cases_Bool (p Canx)) [
          | inl e ↦ (Canx, rw (a, b, e) refl)
          | inr e ↦ elim (cases_Bool (p Adma)) [
            | inl g ↦ (Adma, rw (a, b, e, g) refl)
            | inr g ↦ elim (cases_Bool (p Acma)) [
              | inl k ↦ (Acma, rw (a, b, e, g, k) refl)
              | inr k ↦ absurd (none_of p c a b e g k h)
            ]
          ]
        ]
      ]
    ]
  where
    none_of : (p : DocumentCode → Bool) (c : DocumentCode) → p Tktt ≡ false → p Rfnd ≡ false → p Canx ≡ false → p Adma ≡ false → p Acma ≡ false → p c ≡ true → ⊥
    none_of p Tktt a b e g k h = let x : false ≡ true = sym a ∙ h in absurd cc
    none_of p Rfnd a b e g k h = let x : false ≡ true = sym b ∙ h in absurd cc
    none_of p Canx a b e g k h = let x : false ≡ true = sym e ∙ h in absurd cc
    none_of p Adma a b e g k h = let x : false ≡ true = sym g ∙ h in absurd cc
    none_of p Acma a b e g k h = let x : false ≡ true = sym k ∙ h in absurd cc

one_counted : (s : Sums) (xs : List Part) → 0 < (add s (document_sums xs)).documents
unfolding add
one_counted s xs = omega arith

-- the code of the last item has an item
last_has : (items : List Item) (it : Item) → has_code (items ++ it ∷ []) it.code ≡ true
last_has items it =
    let c = it.code in
    let more = code_sums_more c items it (is_code_refl c) in
    lt-ltb 0 _ (subst (λ (s : Sums). 0 < s.documents) (sym more) (one_counted (code_sums c items) it.parts))

-- the rest of the codes, and BOT94
rest_of_totals : (xs : List DocumentCode) (f : File) (agent : ℕ) (items : List Item) (done : List DocumentCode) (c : DocumentCode) → AreInOrder xs → find (has_code items) (later_codes c) ≡ find (has_code items) xs → IsTotalling f agent items done c
    → Chain (totalled f agent items done c) (code_records agent items (filter (has_code items) xs) ++ office_totals agent (with_net (items_sums items)) ∷ []) (between (with_office f agent items))
rest_of_totals [] f agent items done c order e is = one_link _ _ _ (totals f agent items done c is e)
rest_of_totals (x ∷ xs) f agent items done c order e is =
    elim (cases_Bool (has_code items x)) [
      | inl h ↦
          let found : find (has_code items) (later_codes c) ≡ Some x = e ∙ rw h refl in
          let n = totals_next f agent items done c x is found in
          let same_rest : find (has_code items) (later_codes x) ≡ find (has_code items) xs = ap (find (has_code items)) (sym order.0) in
          rw h (totalled f agent items (done ++ x ∷ []) x, n, rest_of_totals xs f agent items (done ++ x ∷ []) x order.1 same_rest n.sound)
      | inr h ↦
          let same_rest : find (has_code items) (later_codes c) ≡ find (has_code items) xs = e ∙ rw h refl in
          rw h (rest_of_totals xs f agent items done c order.1 same_rest is)
    ]

closing_chain : (f : File) (agent : ℕ) (items : List Item) (d : Document) (body : Body) → IsInItem f agent items d (whole body)
    → Chain (in_item f agent items d (whole body)) (closing_records agent (items ++ item_with d body ∷ [])) (between (with_office f agent (items ++ item_with d body ∷ [])))
closing_chain f agent items d body is =
    let it = item_with d body in
    let items2 = items ++ it ∷ [] in
    let some = found_some (has_code items2) it.code (last_has items it) in
    let c = some.0 in
    let n = totals_first f agent items d body c is some.1 in
    let rest = rest_of_totals (later_codes c) f agent items2 (c ∷ []) c (later_in_order c) refl n.sound in
    rw (found_all (has_code items2) c some.1) (totalled f agent items2 (c ∷ []) c, n, rest)

-- ---- offices

is_after : (before : Option ℕ) (agent : ℕ) → IsBehind before agent → is_agent_after before agent ≡ true
is_after None agent h = refl
is_after (Some x) agent h = lt-ltb x agent h

office_chain : (f : File) (agent : ℕ) (items : List Item) → IsFile f → is_agent_after (last_agent None f.offices) agent ≡ true → 0 < length items → AreItems f.heading.form f.heading.airline None items
    → Chain (between f) (office_records f.heading (1 + count_items f.offices) (record { agent = agent; items = items })) (between (with_office f agent items))
office_chain f agent items file after some are =
    let header = opens f agent file after in
    let all = all_items_chain f agent items header.sound some are in
    let last : Chain (in_item f agent all.before all.document_is (whole all.body)) (closing_records agent items) (between (with_office f agent items)) =
    subst (λ (xs : List Item). Chain (in_item f agent all.before all.document_is (whole all.body)) (closing_records agent xs) (between (with_office f agent xs))) all.all_are (closing_chain f agent all.before all.document_is all.body all.sound) in
    let n = 1 + count_items f.offices in
    (opened f agent, header, joined (opened f agent) (in_item f agent all.before all.document_is (whole all.body)) (between (with_office f agent items)) (items_records f.heading.airline agent n items) (closing_records agent items) all.chain last)

abbrev with_offices : File → List Office → File
with_offices f offices = record { heading = f.heading; days = f.days; offices = offices }

offices_chain : (offices : List Office) (f : File) → IsFile f → AreOffices f.heading.form f.heading.airline (last_agent None f.offices) offices
    → Chain (between f) (offices_records f.heading (1 + count_items f.offices) offices) (between (with_offices f (f.offices ++ offices)))
offices_chain [] f file are = ap (λ (xs : List Office). between (with_offices f xs)) (sym (append-nil f.offices))
offices_chain (o ∷ offices) f file are =
    let first_office = office_chain f o.agent o.items file (is_after (last_agent None f.offices) o.agent are.0) are.1 are.2 in
    let f2 = with_office f o.agent o.items in
    let file2 : IsFile f2 = chain_sound (between f) (between f2) (office_records f.heading (1 + count_items f.offices) o) first_office file in
    let later : AreOffices f.heading.form f.heading.airline (last_agent None f2.offices) offices = rw (last_agent_snoc None f.offices o) are.3 in
    let n : 1 + count_items f2.offices ≡ 1 + count_items f.offices + length o.items = omega (arith, count_snoc f.offices o) in
    let rest : Chain (between f2) (offices_records f.heading (1 + count_items f.offices + length o.items) offices) (between (with_offices f (f.offices ++ o ∷ offices))) =
    subst (λ (k : ℕ). Chain (between f2) (offices_records f.heading k offices) (between (with_offices f (f.offices ++ o ∷ offices)))) n
    (subst (λ (xs : List Office). Chain (between f2) (offices_records f.heading (1 + count_items f2.offices) offices) (between (with_offices f xs))) (append_assoc f.offices (o ∷ []) offices) (offices_chain offices f2 file2 later)) in
    joined (between f) (between f2) (between (with_offices f (f.offices ++ o ∷ offices))) (office_records f.heading (1 + count_items f.offices) o)
    (offices_records f.heading (1 + count_items f.offices + length o.items) offices) first_office rest

-- ---- a file

-- BCT95 and BFT99
abbrev end_records : File → List Record
end_records f =
    period_totals f.heading.period (length f.offices) (with_net (file_sums f.offices))
    ∷ file_totals f.heading.airline (length (all_but_last f) + 1) (with_net (file_sums f.offices))
    ∷ []

end_chain : (f : File) → IsFile f → Chain (between f) (end_records f) (ended f)
end_chain f file = (closed f, closes f file, (ended f, ends f file, refl))

-- the records of a file make it
pub file_chain : (f : File) → IsFile f → Chain nothing (records_of f) (ended f)
file_chain f file =
    let h = f.heading in
    let none = no_offices h f.days in
    let first_two : Chain nothing (headers f) (between none) = (headed h, begins h, (between none, heads h f.days, refl)) in
    let offices : Chain (between none) (offices_records h 1 f.offices) (between f) = offices_chain f.offices none tt file in
    let middle = joined nothing (between none) (between f) (headers f) (offices_records h 1 f.offices) first_two offices in
    let last = period_totals h.period (length f.offices) (with_net (file_sums f.offices)) in
    let very_last = file_totals h.airline (length (all_but_last f) + 1) (with_net (file_sums f.offices)) in
    let all = joined nothing (between f) (ended f) (headers f ++ offices_records h 1 f.offices) (last ∷ very_last ∷ []) middle (end_chain f file) in
    let regroup : (headers f ++ offices_records h 1 f.offices) ++ last ∷ very_last ∷ [] ≡ records_of f =
    append_assoc (headers f) (offices_records h 1 f.offices) (last ∷ very_last ∷ [])
    ∙ ap (λ (xs : List Record). headers f ++ xs) (sym (append_assoc (offices_records h 1 f.offices) (last ∷ []) (very_last ∷ [])))
    ∙ sym (append_assoc (headers f) (offices_records h 1 f.offices ++ last ∷ []) (very_last ∷ [])) in
    subst (λ (xs : List Record). Chain nothing xs (ended f)) regroup all

-- ---- from each draft to an end

-- a file whose end the draft reaches
pub record Reaches (d : Draft) : Type 0 where
  pub file : File
  pub sound : IsFile file
  pub more : List Record
  pub chain : Chain d more (ended file)

further : (d m : Draft) (xs : List Record) → Chain d xs m → Reaches m → Reaches d
further d m xs c r = record {
  file = r.file;
  sound = r.sound;
  more = xs ++ r.more;
  chain = joined d m (ended r.file) xs r.more c r.chain;
}

between_reaches : (f : File) → IsFile f → Reaches (between f)
between_reaches f file = record { file = f; sound = file; more = end_records f; chain = end_chain f file }

whole_reaches : (f : File) (agent : ℕ) (items : List Item) (d : Document) (body : Body) → IsInItem f agent items d (whole body) → Reaches (in_item f agent items d (whole body))
whole_reaches f agent items d body is =
    let c = closing_chain f agent items d body is in
    let items2 = items ++ item_with d body ∷ [] in
    let from = in_item f agent items d (whole body) in
    let file = chain_sound from (between (with_office f agent items2)) (closing_records agent items2) c is in
    further from (between (with_office f agent items2)) (closing_records agent items2) c (between_reaches (with_office f agent items2) file)

abbrev free : Amounts
free = record { fare = pos 0; taxes = [] }

abbrev unpaid : Commission
unpaid = record { rate = 0; amount = pos 0 }

abbrev no_tax : CommissionTax
no_tax = record { hundredths = 0; amount = pos 0 }

abbrev no_charges : FileForm → Charges
no_charges One = commission_only unpaid
no_charges Two = commission_and_tax unpaid no_tax

form_of_none : (form : FileForm) → form_of_charges (no_charges form) ≡ form
form_of_none One = refl
form_of_none Two = refl

abbrev own : ℕ → Related
own airline = record { airline = airline; number = []; check_digit = [] }

-- an item that stands so can be finished
record Finish (form : FileForm) (airline : ℕ) (g : PartialItem) : Type 0 where
  body : Body
  more : List Part
  all : PartsLead form airline g more (whole body)

begin_with : (form : FileForm) (airline : ℕ) (body : Body) → IsBody form airline body → Finish form airline (first (code_of_body body))
begin_with form airline body is = record { body = body; more = parts_of body; all = parts_lead form airline body is }

then : (form : FileForm) (airline : ℕ) (g h : PartialItem) (x : Part) → IsNextPart form airline g x h → Finish form airline h → Finish form airline g
then form airline g h x next f = record { body = f.body; more = x ∷ f.more; all = (h, next, f.all) }

done_with : (form : FileForm) (airline : ℕ) (body : Body) → Finish form airline (whole body)
done_with form airline body = record { body = body; more = []; all = refl }

finish_ticket : (form : FileForm) (airline : ℕ) (a : Amounts) (c : Charges) → Finish form airline (ticket_charged a c)
finish_ticket form airline a c = then form airline _ _ _ (next_sale_cash form airline a c (pos 0)) (done_with form airline (sale a c (cash_only (pos 0))))

finish_refund_related : (form : FileForm) (airline : ℕ) (a : Amounts) (c : Charges) (r : Related) → Finish form airline (refund_related a c r)
finish_refund_related form airline a c r = then form airline _ _ _ (next_refund_cash form airline a c r (pos 0)) (done_with form airline (refund a c r (cash_only (pos 0))))

finish_refund : (form : FileForm) (airline : ℕ) (a : Amounts) (c : Charges) → Finish form airline (refund_charged a c)
finish_refund form airline a c = then form airline _ _ _ (next_refund_related form airline a c (own airline) refl) (finish_refund_related form airline a c (own airline))

-- the charges come next
charge_ticket : (form : FileForm) (airline : ℕ) (a : Amounts) → Finish form airline (ticket_amounts a)
charge_ticket form airline a =
    let end = finish_ticket form airline a (no_charges form) in
    record {
      body = end.body;
      more = charges_parts (no_charges form) ++ end.more;
      all = ticket_charges form airline a (no_charges form) end.more (whole end.body) (form_of_none form) end.all;
    }

charge_refund : (form : FileForm) (airline : ℕ) (a : Amounts) → Finish form airline (refund_amounts a)
charge_refund form airline a =
    let end = finish_refund form airline a (no_charges form) in
    record {
      body = end.body;
      more = charges_parts (no_charges form) ++ end.more;
      all = refund_charges form airline a (no_charges form) end.more (whole end.body) (form_of_none form) end.all;
    }

finished : (form : FileForm) (airline : ℕ) (g : PartialItem) → Finish form airline g
finished form airline ticket = begin_with form airline (sale free (no_charges form) (cash_only (pos 0))) (form_of_none form)
finished form airline (ticket_amounts a) = charge_ticket form airline a
finished form airline (ticket_commission a c) = then form airline _ _ _ (next_ticket_tax form airline a c no_tax) (finish_ticket form airline a (commission_and_tax c no_tax))
finished form airline (ticket_charged a c) = finish_ticket form airline a c
finished form airline (ticket_related a c r) = then form airline _ _ _ (next_exchange form airline a c r (pos 0)) (done_with form airline (exchanged a c r None (pos 0)))
finished form airline (ticket_paid a c r forms) = then form airline _ _ _ (next_paid_exchange form airline a c r forms (pos 0)) (done_with form airline (exchanged a c r (Some forms) (pos 0)))
finished form airline refunding = begin_with form airline (refund free (no_charges form) (own airline) (cash_only (pos 0))) (form_of_none form, refl)
finished form airline (refund_amounts a) = charge_refund form airline a
finished form airline (refund_commission a c) = then form airline _ _ _ (next_refund_tax form airline a c no_tax) (finish_refund form airline a (commission_and_tax c no_tax))
finished form airline (refund_charged a c) = finish_refund form airline a c
finished form airline (refund_related a c r) = finish_refund_related form airline a c r
finished form airline debit = begin_with form airline (debit_memo free (pos 0)) refl
finished form airline (debit_amounts a) = then form airline _ _ _ (next_debit_cash form airline a (pos 0)) (done_with form airline (debit_memo a (pos 0)))
finished form airline credited = begin_with form airline (credit_memo free (pos 0)) refl
finished form airline (credited_amounts a) = then form airline _ _ _ (next_credited_cash form airline a (pos 0)) (done_with form airline (credit_memo a (pos 0)))
finished form airline (whole body) = done_with form airline body

in_item_reaches : (f : File) (agent : ℕ) (items : List Item) (d : Document) (g : PartialItem) → IsInItem f agent items d g → Reaches (in_item f agent items d g)
in_item_reaches f agent items d g is =
    let end = finished f.heading.form f.heading.airline g in
    let c = parts_chain f agent items d g (whole end.body) end.more is end.all in
    let sound = parts_sound f agent items d g (whole end.body) end.more is end.all in
    further (in_item f agent items d g) (in_item f agent items d (whole end.body)) (map (part (number f items)) end.more) c (whole_reaches f agent items d end.body sound)

-- a memo that comes behind any document
abbrev next_number : Option DocumentKey → ℕ
next_number None = 0
next_number (Some k) = k.number + 1

later_memo : (k : Option DocumentKey) → is_key_after k (record { code = Acma; number = next_number k }) ≡ true
later_memo None = refl
later_memo (Some k) = memo_after k.code k.number
  where
    memo_after : (c : DocumentCode) (n : ℕ) → is_before c n Acma (n + 1) ≡ true
    memo_after Tktt n = refl
    memo_after Rfnd n = refl
    memo_after Canx n = refl
    memo_after Adma n = refl
    memo_after Acma n = lt-ltb n (n + 1) (omega arith)

begun_reaches : (f : File) (agent : ℕ) (items : List Item) → IsOpen f agent items → Reaches (begun f agent items)
begun_reaches f agent items is =
    let d : Document = record { issued = []; number = next_number (latest_key items); check_digit = []; name = [] } in
    let n = documents f agent items Acma d is (later_memo (latest_key items)) in
    further (begun f agent items) (in_item f agent items d (first Acma)) (document (number f items) agent Acma d ∷ []) (one_link _ _ _ n) (in_item_reaches f agent items d (first Acma) n.sound)

abbrev no_days : Days
no_days = record { first = []; last = []; remittance = [] }

-- each sound draft reaches an end
pub reaches : (d : Draft) → IsSoundDraft d → Reaches d
reaches nothing is =
    let h : Heading = record { airline = 0; period = 0; remittance = []; currency = []; form = One } in
    record { file = no_offices h no_days; sound = tt; more = records_of (no_offices h no_days); chain = file_chain (no_offices h no_days) tt }
reaches (headed h) is =
    let n = heads h no_days in
    further (headed h) (between (no_offices h no_days)) (period_header h.period no_days ∷ []) (one_link _ _ _ n) (between_reaches (no_offices h no_days) tt)
reaches (between f) is = between_reaches f is
reaches (opened f agent) is =
    let n = begins_first f agent is in
    further (opened f agent) (begun f agent []) (transaction_header (number f []) f.heading.airline ∷ []) (one_link _ _ _ n) (begun_reaches f agent [] n.sound)
reaches (begun f agent items) is = begun_reaches f agent items is
reaches (in_item f agent items d g) is = in_item_reaches f agent items d g is
reaches (totalled f agent items done c) is =
    let rest = rest_of_totals (later_codes c) f agent items done c (later_in_order c) refl is in
    let records = code_records agent items (filter (has_code items) (later_codes c)) ++ office_totals agent (with_net (items_sums items)) ∷ [] in
    let from = totalled f agent items done c in
    let file = chain_sound from (between (with_office f agent items)) records rest is in
    further from (between (with_office f agent items)) records rest (between_reaches (with_office f agent items) file)
reaches (closed f) is = record { file = f; sound = is; more = file_totals f.heading.airline (length (all_but_last f) + 1) (with_net (file_sums f.offices)) ∷ []; chain = (ended f, ends f is, refl) }
reaches (ended f) is = record { file = f; sound = is; more = []; chain = refl }
