-- An item as far as its records stand.
use Rattle.std.proofs.Common.{◌≡◌, ◌<◌, ◌==◌, Option, ℕ, ℤ, Bool, true, false, not, List, [], ◌∷◌, ◌++◌, Some, None, refl, sym, ap, append_assoc, eqb-true}
use Rattle.std.specs.Prelude.{nat_lt}
use Rattle.std.proofs.lemmas.Bool.{eq-eqb, and_from, and_parts, lt-ltb, ltb-true, false≢true}
use Rattle.bsp_hot_records.specs.declared.code.DocumentCode.{DocumentCode}
use Rattle.bsp_hot_records.specs.declared.code.DocumentCode.TheVariants.{Tktt, Rfnd, Canx, Adma, Acma}
use Rattle.bsp_hot_records.specs.declared.form.FileForm.{FileForm}
use Rattle.bsp_hot_records.specs.declared.form.FileForm.TheVariants.{One, Two}
use Rattle.bsp_hot_check.specs.declared.model.Stage.{Stage}
use Rattle.bsp_hot_check.specs.declared.model.Stage.TheVariants as stage
use Rattle.bsp_hot_check.specs.declared.model.Progress.{Progress}
use Rattle.bsp_hot_records.specs.Records.{Document, Amounts, Commission, CommissionTax, Related, CardPayment, Part, amounts, commission, commission_tax, related, cash, credit, exchange, is_blank, number_in}
use Rattle.bsp_hot_check.specs.Hot.{Forms, cash_only, credit_only, cash_and_credit, Charges, commission_only, commission_and_tax, RelatedDocuments, one, two, Body, sale, exchanged, refund, cancellation, debit_memo, credit_memo, Item, code_of_body, charges_parts, forms_parts, related_parts, parts_of, form_of_charges, AreOwn, IsBody, IsItem}
use Rattle.bsp_hot_records.specs.Judged.{judged_part}
use Rattle.bsp_hot_check.specs.Standings.{is_complete, is_complete_progress, takes, progress_behind}

-- an item that is whole, or what stands of one: of its charges the commission alone where the tax comes next, or both
pub data PartialItem : Type 0 where
  ticket : PartialItem
  ticket_amounts : Amounts → PartialItem
  ticket_commission : Amounts → Commission → PartialItem
  ticket_charged : Amounts → Charges → PartialItem
  ticket_related : Amounts → Charges → RelatedDocuments → PartialItem
  ticket_paid : Amounts → Charges → RelatedDocuments → Forms → PartialItem
  refunding : PartialItem
  refund_amounts : Amounts → PartialItem
  refund_commission : Amounts → Commission → PartialItem
  refund_charged : Amounts → Charges → PartialItem
  refund_related : Amounts → Charges → Related → PartialItem
  debit : PartialItem
  debit_amounts : Amounts → PartialItem
  credited : PartialItem
  credited_amounts : Amounts → PartialItem
  whole : Body → PartialItem

abbrev pub first : DocumentCode → PartialItem
first Tktt = ticket
first Rfnd = refunding
first Canx = whole cancellation
first Adma = debit
first Acma = credited

abbrev pub parts_so_far : PartialItem → List Part
parts_so_far ticket = []
parts_so_far (ticket_amounts a) = amounts a ∷ []
parts_so_far (ticket_commission a c) = amounts a ∷ commission c ∷ []
parts_so_far (ticket_charged a c) = amounts a ∷ charges_parts c
parts_so_far (ticket_related a c r) = amounts a ∷ (charges_parts c ++ related_parts r)
parts_so_far (ticket_paid a c r forms) = amounts a ∷ (charges_parts c ++ (related_parts r ++ forms_parts forms))
parts_so_far refunding = []
parts_so_far (refund_amounts a) = amounts a ∷ []
parts_so_far (refund_commission a c) = amounts a ∷ commission c ∷ []
parts_so_far (refund_charged a c) = amounts a ∷ charges_parts c
parts_so_far (refund_related a c r) = amounts a ∷ (charges_parts c ++ related r ∷ [])
parts_so_far debit = []
parts_so_far (debit_amounts a) = amounts a ∷ []
parts_so_far credited = []
parts_so_far (credited_amounts a) = amounts a ∷ []
parts_so_far (whole body) = parts_of body

abbrev forms_stage : Forms → Stage
forms_stage (cash_only paid) = stage.Cash
forms_stage (credit_only card) = stage.Credit
forms_stage (cash_and_credit paid card) = stage.Credit

abbrev stage_of_body : Body → Stage
stage_of_body (sale a c forms) = forms_stage forms
stage_of_body (exchanged a c r forms ex) = stage.Exchange
stage_of_body (refund a c r forms) = forms_stage forms
stage_of_body cancellation = stage.Document
stage_of_body (debit_memo a paid) = stage.Cash
stage_of_body (credit_memo a paid) = stage.Cash

abbrev has_related : Body → Bool
has_related (sale a c forms) = false
has_related (exchanged a c r forms ex) = true
has_related (refund a c r forms) = true
has_related cancellation = false
has_related (debit_memo a paid) = false
has_related (credit_memo a paid) = false

abbrev progress : DocumentCode → Stage → Bool → Progress
progress code stage has = record { code = code; stage = stage; related = has; only = None }

-- behind a BKS45
abbrev related_progress : DocumentCode → Option ℕ → Progress
related_progress code only = record { code = code; stage = stage.Related; related = true; only = only }

-- the number of a BKS45 that is alone
abbrev only_of : RelatedDocuments → Option ℕ
only_of (one r) = Some (number_in r.number)
only_of (two r s) = None

abbrev pub progress_of : PartialItem → Progress
progress_of ticket = progress Tktt stage.Document false
progress_of (ticket_amounts a) = progress Tktt stage.Amounts false
progress_of (ticket_commission a c) = progress Tktt stage.Commission false
progress_of (ticket_charged a c) = progress Tktt stage.Charged false
progress_of (ticket_related a c r) = related_progress Tktt (only_of r)
progress_of (ticket_paid a c r forms) = progress Tktt (forms_stage forms) true
progress_of refunding = progress Rfnd stage.Document false
progress_of (refund_amounts a) = progress Rfnd stage.Amounts false
progress_of (refund_commission a c) = progress Rfnd stage.Commission false
progress_of (refund_charged a c) = progress Rfnd stage.Charged false
progress_of (refund_related a c r) = related_progress Rfnd (Some (number_in r.number))
progress_of debit = progress Adma stage.Document false
progress_of (debit_amounts a) = progress Adma stage.Amounts false
progress_of credited = progress Acma stage.Document false
progress_of (credited_amounts a) = progress Acma stage.Amounts false
progress_of (whole body) = progress (code_of_body body) (stage_of_body body) (has_related body)

abbrev pub code_of : PartialItem → DocumentCode
code_of g = (progress_of g).code

-- a commission has its tax in form 2 alone, a related document is the airline's own, and a memo has no taxes
abbrev pub IsSound : FileForm → ℕ → PartialItem → Type 0
IsSound form airline (ticket_commission a c) = Two ≡ form
IsSound form airline (ticket_charged a c) = form_of_charges c ≡ form
IsSound form airline (ticket_related a c r) = (form_of_charges c ≡ form) × AreOwn airline r
IsSound form airline (ticket_paid a c r forms) = (form_of_charges c ≡ form) × AreOwn airline r
IsSound form airline (refund_commission a c) = Two ≡ form
IsSound form airline (refund_charged a c) = form_of_charges c ≡ form
IsSound form airline (refund_related a c r) = (form_of_charges c ≡ form) × (r.airline ≡ airline)
IsSound form airline (debit_amounts a) = is_blank a.taxes ≡ true
IsSound form airline (credited_amounts a) = is_blank a.taxes ≡ true
IsSound form airline (whole body) = IsBody form airline body
IsSound form airline _ = Unit {0}

-- with this record the item stands so
pub record IsNextPart (form : FileForm) (airline : ℕ) (g : PartialItem) (x : Part) (h : PartialItem) : Type 0 where
  pub taken : takes airline (progress_of g) (judged_part x) ≡ true
  pub code_is : code_of h ≡ code_of g
  pub parts_are : parts_so_far h ≡ parts_so_far g ++ x ∷ []
  pub progress_is : progress_of h ≡ progress_behind form (progress_of g) (judged_part x)
  pub sound : IsSound form airline g → IsSound form airline h

plain : (form : FileForm) (airline : ℕ) (g : PartialItem) (x : Part) (h : PartialItem) → takes airline (progress_of g) (judged_part x) ≡ true → code_of h ≡ code_of g → parts_so_far h ≡ parts_so_far g ++ x ∷ []
    → progress_of h ≡ progress_behind form (progress_of g) (judged_part x) → (IsSound form airline g → IsSound form airline h) → IsNextPart form airline g x h
plain form airline g x h taken code parts at sound = record { taken = taken; code_is = code; parts_are = parts; progress_is = at; sound = sound }

untaxed : (a : Amounts) → is_blank a.taxes ≡ true → not (not (is_blank a.taxes)) ≡ true
untaxed a h = rw h refl

taxed : (b : Bool) → not (not b) ≡ true → b ≡ true
taxed true h = refl
taxed false h = h

-- amounts, charges and records behind them, with one record more
behind_charges : (a : Amounts) (c : Charges) (xs : List Part) (x : Part) → amounts a ∷ (charges_parts c ++ (xs ++ x ∷ [])) ≡ amounts a ∷ ((charges_parts c ++ xs) ++ x ∷ [])
behind_charges a c xs x = ap (λ (ys : List Part). amounts a ∷ ys) (sym (append_assoc (charges_parts c) xs (x ∷ [])))

-- ---- each record of each item

pub next_ticket_amounts : (form : FileForm) (airline : ℕ) (a : Amounts) → IsNextPart form airline ticket (amounts a) (ticket_amounts a)
next_ticket_amounts form airline a = plain form airline ticket (amounts a) (ticket_amounts a) refl refl refl refl (λ s. tt)

pub next_ticket_commission_only : (form : FileForm) (airline : ℕ) (a : Amounts) (c : Commission) → One ≡ form → IsNextPart form airline (ticket_amounts a) (commission c) (ticket_charged a (commission_only c))
next_ticket_commission_only One airline a c is = plain One airline (ticket_amounts a) (commission c) (ticket_charged a (commission_only c)) refl refl refl refl (λ s. refl)
next_ticket_commission_only Two airline a c is = absurd cc

pub next_ticket_commission : (form : FileForm) (airline : ℕ) (a : Amounts) (c : Commission) → Two ≡ form → IsNextPart form airline (ticket_amounts a) (commission c) (ticket_commission a c)
next_ticket_commission One airline a c is = absurd cc
next_ticket_commission Two airline a c is = plain Two airline (ticket_amounts a) (commission c) (ticket_commission a c) refl refl refl refl (λ s. refl)

pub next_ticket_tax : (form : FileForm) (airline : ℕ) (a : Amounts) (c : Commission) (t : CommissionTax) → IsNextPart form airline (ticket_commission a c) (commission_tax t) (ticket_charged a (commission_and_tax c t))
next_ticket_tax form airline a c t = plain form airline (ticket_commission a c) (commission_tax t) (ticket_charged a (commission_and_tax c t)) refl refl refl refl (λ s. s)

pub next_ticket_related : (form : FileForm) (airline : ℕ) (a : Amounts) (c : Charges) (r : Related) → r.airline ≡ airline → IsNextPart form airline (ticket_charged a c) (related r) (ticket_related a c (one r))
next_ticket_related form airline a c r own = plain form airline (ticket_charged a c) (related r) (ticket_related a c (one r)) (eq-eqb r.airline airline own) refl refl refl (λ s. (s, own))

pub next_ticket_second : (form : FileForm) (airline : ℕ) (a : Amounts) (c : Charges) (r s : Related) → s.airline ≡ airline → number_in r.number < number_in s.number → IsNextPart form airline (ticket_related a c (one r)) (related s) (ticket_related a c (two r s))
next_ticket_second form airline a c r s own rises =
    plain form airline (ticket_related a c (one r)) (related s) (ticket_related a c (two r s)) (and_from _ _ (lt-ltb (number_in r.number) (number_in s.number) rises) (eq-eqb s.airline airline own)) refl (behind_charges a c (related r ∷ []) (related s)) refl
    (λ first. (first.0, (first.1, own, rises)))

pub next_sale_cash : (form : FileForm) (airline : ℕ) (a : Amounts) (c : Charges) (paid : ℤ) → IsNextPart form airline (ticket_charged a c) (cash paid) (whole (sale a c (cash_only paid)))
next_sale_cash form airline a c paid = plain form airline (ticket_charged a c) (cash paid) (whole (sale a c (cash_only paid))) refl refl refl refl (λ s. s)

pub next_sale_credit : (form : FileForm) (airline : ℕ) (a : Amounts) (c : Charges) (card : CardPayment) → IsNextPart form airline (ticket_charged a c) (credit card) (whole (sale a c (credit_only card)))
next_sale_credit form airline a c card = plain form airline (ticket_charged a c) (credit card) (whole (sale a c (credit_only card))) refl refl refl refl (λ s. s)

pub next_sale_both : (form : FileForm) (airline : ℕ) (a : Amounts) (c : Charges) (paid : ℤ) (card : CardPayment) → IsNextPart form airline (whole (sale a c (cash_only paid))) (credit card) (whole (sale a c (cash_and_credit paid card)))
next_sale_both form airline a c paid card = plain form airline (whole (sale a c (cash_only paid))) (credit card) (whole (sale a c (cash_and_credit paid card))) refl refl (behind_charges a c (cash paid ∷ []) (credit card)) refl (λ s. s)

pub next_paid_cash : (form : FileForm) (airline : ℕ) (a : Amounts) (c : Charges) (r : RelatedDocuments) (paid : ℤ) → IsNextPart form airline (ticket_related a c r) (cash paid) (ticket_paid a c r (cash_only paid))
next_paid_cash form airline a c r paid = plain form airline (ticket_related a c r) (cash paid) (ticket_paid a c r (cash_only paid)) refl refl (behind_charges a c (related_parts r) (cash paid)) refl (λ s. s)

pub next_paid_credit : (form : FileForm) (airline : ℕ) (a : Amounts) (c : Charges) (r : RelatedDocuments) (card : CardPayment) → IsNextPart form airline (ticket_related a c r) (credit card) (ticket_paid a c r (credit_only card))
next_paid_credit form airline a c r card = plain form airline (ticket_related a c r) (credit card) (ticket_paid a c r (credit_only card)) refl refl (behind_charges a c (related_parts r) (credit card)) refl (λ s. s)

-- behind charges and related documents, with one record more
behind_related : (a : Amounts) (c : Charges) (r : RelatedDocuments) (xs : List Part) (x : Part) → amounts a ∷ (charges_parts c ++ (related_parts r ++ (xs ++ x ∷ []))) ≡ amounts a ∷ ((charges_parts c ++ (related_parts r ++ xs)) ++ x ∷ [])
behind_related a c (one r) xs x = behind_charges a c (related r ∷ xs) x
behind_related a c (two r s) xs x = behind_charges a c (related r ∷ related s ∷ xs) x

pub next_paid_both : (form : FileForm) (airline : ℕ) (a : Amounts) (c : Charges) (r : RelatedDocuments) (paid : ℤ) (card : CardPayment) → IsNextPart form airline (ticket_paid a c r (cash_only paid)) (credit card) (ticket_paid a c r (cash_and_credit paid card))
next_paid_both form airline a c r paid card =
    plain form airline (ticket_paid a c r (cash_only paid)) (credit card) (ticket_paid a c r (cash_and_credit paid card)) refl refl (behind_related a c r (cash paid ∷ []) (credit card)) refl (λ s. s)

pub next_exchange : (form : FileForm) (airline : ℕ) (a : Amounts) (c : Charges) (r : RelatedDocuments) (ex : ℤ) → IsNextPart form airline (ticket_related a c r) (exchange ex) (whole (exchanged a c r None ex))
next_exchange form airline a c r ex = plain form airline (ticket_related a c r) (exchange ex) (whole (exchanged a c r None ex)) refl refl (behind_charges a c (related_parts r) (exchange ex)) refl (λ s. s)

pub next_paid_exchange : (form : FileForm) (airline : ℕ) (a : Amounts) (c : Charges) (r : RelatedDocuments) (forms : Forms) (ex : ℤ) → IsNextPart form airline (ticket_paid a c r forms) (exchange ex) (whole (exchanged a c r (Some forms) ex))
next_paid_exchange form airline a c r (cash_only paid) ex =
    plain form airline (ticket_paid a c r (cash_only paid)) (exchange ex) (whole (exchanged a c r (Some (cash_only paid)) ex)) refl refl (behind_related a c r (forms_parts (cash_only paid)) (exchange ex)) refl (λ s. s)
next_paid_exchange form airline a c r (credit_only card) ex =
    plain form airline (ticket_paid a c r (credit_only card)) (exchange ex) (whole (exchanged a c r (Some (credit_only card)) ex)) refl refl (behind_related a c r (forms_parts (credit_only card)) (exchange ex)) refl (λ s. s)
next_paid_exchange form airline a c r (cash_and_credit paid card) ex =
    plain form airline (ticket_paid a c r (cash_and_credit paid card)) (exchange ex) (whole (exchanged a c r (Some (cash_and_credit paid card)) ex)) refl refl (behind_related a c r (forms_parts (cash_and_credit paid card)) (exchange ex)) refl (λ s. s)

pub next_refund_amounts : (form : FileForm) (airline : ℕ) (a : Amounts) → IsNextPart form airline refunding (amounts a) (refund_amounts a)
next_refund_amounts form airline a = plain form airline refunding (amounts a) (refund_amounts a) refl refl refl refl (λ s. tt)

pub next_refund_commission_only : (form : FileForm) (airline : ℕ) (a : Amounts) (c : Commission) → One ≡ form → IsNextPart form airline (refund_amounts a) (commission c) (refund_charged a (commission_only c))
next_refund_commission_only One airline a c is = plain One airline (refund_amounts a) (commission c) (refund_charged a (commission_only c)) refl refl refl refl (λ s. refl)
next_refund_commission_only Two airline a c is = absurd cc

pub next_refund_commission : (form : FileForm) (airline : ℕ) (a : Amounts) (c : Commission) → Two ≡ form → IsNextPart form airline (refund_amounts a) (commission c) (refund_commission a c)
next_refund_commission One airline a c is = absurd cc
next_refund_commission Two airline a c is = plain Two airline (refund_amounts a) (commission c) (refund_commission a c) refl refl refl refl (λ s. refl)

pub next_refund_tax : (form : FileForm) (airline : ℕ) (a : Amounts) (c : Commission) (t : CommissionTax) → IsNextPart form airline (refund_commission a c) (commission_tax t) (refund_charged a (commission_and_tax c t))
next_refund_tax form airline a c t = plain form airline (refund_commission a c) (commission_tax t) (refund_charged a (commission_and_tax c t)) refl refl refl refl (λ s. s)

pub next_refund_related : (form : FileForm) (airline : ℕ) (a : Amounts) (c : Charges) (r : Related) → r.airline ≡ airline → IsNextPart form airline (refund_charged a c) (related r) (refund_related a c r)
next_refund_related form airline a c r own = plain form airline (refund_charged a c) (related r) (refund_related a c r) (eq-eqb r.airline airline own) refl refl refl (λ s. (s, own))

pub next_refund_cash : (form : FileForm) (airline : ℕ) (a : Amounts) (c : Charges) (r : Related) (paid : ℤ) → IsNextPart form airline (refund_related a c r) (cash paid) (whole (refund a c r (cash_only paid)))
next_refund_cash form airline a c r paid = plain form airline (refund_related a c r) (cash paid) (whole (refund a c r (cash_only paid))) refl refl (behind_charges a c (related r ∷ []) (cash paid)) refl (λ s. s)

pub next_refund_credit : (form : FileForm) (airline : ℕ) (a : Amounts) (c : Charges) (r : Related) (card : CardPayment) → IsNextPart form airline (refund_related a c r) (credit card) (whole (refund a c r (credit_only card)))
next_refund_credit form airline a c r card = plain form airline (refund_related a c r) (credit card) (whole (refund a c r (credit_only card))) refl refl (behind_charges a c (related r ∷ []) (credit card)) refl (λ s. s)

pub next_refund_both : (form : FileForm) (airline : ℕ) (a : Amounts) (c : Charges) (r : Related) (paid : ℤ) (card : CardPayment) → IsNextPart form airline (whole (refund a c r (cash_only paid))) (credit card) (whole (refund a c r (cash_and_credit paid card)))
next_refund_both form airline a c r paid card =
    plain form airline (whole (refund a c r (cash_only paid))) (credit card) (whole (refund a c r (cash_and_credit paid card))) refl refl (behind_charges a c (related r ∷ cash paid ∷ []) (credit card)) refl (λ s. s)

pub next_debit_amounts : (form : FileForm) (airline : ℕ) (a : Amounts) → is_blank a.taxes ≡ true → IsNextPart form airline debit (amounts a) (debit_amounts a)
next_debit_amounts form airline a none = plain form airline debit (amounts a) (debit_amounts a) (untaxed a none) refl refl refl (λ s. none)

pub next_debit_cash : (form : FileForm) (airline : ℕ) (a : Amounts) (paid : ℤ) → IsNextPart form airline (debit_amounts a) (cash paid) (whole (debit_memo a paid))
next_debit_cash form airline a paid = plain form airline (debit_amounts a) (cash paid) (whole (debit_memo a paid)) refl refl refl refl (λ s. s)

pub next_credited_amounts : (form : FileForm) (airline : ℕ) (a : Amounts) → is_blank a.taxes ≡ true → IsNextPart form airline credited (amounts a) (credited_amounts a)
next_credited_amounts form airline a none = plain form airline credited (amounts a) (credited_amounts a) (untaxed a none) refl refl refl (λ s. none)

pub next_credited_cash : (form : FileForm) (airline : ℕ) (a : Amounts) (paid : ℤ) → IsNextPart form airline (credited_amounts a) (cash paid) (whole (credit_memo a paid))
next_credited_cash form airline a paid = plain form airline (credited_amounts a) (cash paid) (whole (credit_memo a paid)) refl refl refl refl (λ s. s)

-- ---- a record that an item takes

abbrev NextPart : FileForm → ℕ → PartialItem → Part → Type 0
NextPart form airline g x = (h : PartialItem) × IsNextPart form airline g x h

ticket_next : (form : FileForm) (airline : ℕ) (a : Amounts) (c : Commission) → NextPart form airline (ticket_amounts a) (commission c)
ticket_next One airline a c = (ticket_charged a (commission_only c), next_ticket_commission_only One airline a c refl)
ticket_next Two airline a c = (ticket_commission a c, next_ticket_commission Two airline a c refl)

refund_next : (form : FileForm) (airline : ℕ) (a : Amounts) (c : Commission) → NextPart form airline (refund_amounts a) (commission c)
refund_next One airline a c = (refund_charged a (commission_only c), next_refund_commission_only One airline a c refl)
refund_next Two airline a c = (refund_commission a c, next_refund_commission Two airline a c refl)

pub next_part : (form : FileForm) (airline : ℕ) (g : PartialItem) (x : Part) → takes airline (progress_of g) (judged_part x) ≡ true → NextPart form airline g x
next_part form airline ticket (amounts a) h = (ticket_amounts a, next_ticket_amounts form airline a)
next_part form airline (ticket_amounts a) (commission c) h = ticket_next form airline a c
next_part form airline (ticket_commission a c) (commission_tax t) h = (ticket_charged a (commission_and_tax c t), next_ticket_tax form airline a c t)
next_part form airline (ticket_charged a c) (related r) h = (ticket_related a c (one r), next_ticket_related form airline a c r (eqb-true r.airline airline h))
next_part form airline (ticket_related a c (one r)) (related s) h =
    let parts = and_parts (nat_lt (number_in r.number) (number_in s.number)) (s.airline == airline) h in
    (ticket_related a c (two r s), next_ticket_second form airline a c r s (eqb-true s.airline airline parts.1) (ltb-true (number_in r.number) (number_in s.number) parts.0))
next_part form airline (ticket_related a c (two r s)) (related x) h = absurd (false≢true h)
next_part form airline (ticket_charged a c) (cash paid) h = (whole (sale a c (cash_only paid)), next_sale_cash form airline a c paid)
next_part form airline (ticket_charged a c) (credit card) h = (whole (sale a c (credit_only card)), next_sale_credit form airline a c card)
next_part form airline (ticket_related a c r) (cash paid) h = (ticket_paid a c r (cash_only paid), next_paid_cash form airline a c r paid)
next_part form airline (ticket_related a c r) (credit card) h = (ticket_paid a c r (credit_only card), next_paid_credit form airline a c r card)
next_part form airline (ticket_related a c r) (exchange ex) h = (whole (exchanged a c r None ex), next_exchange form airline a c r ex)
next_part form airline (ticket_paid a c r (cash_only paid)) (credit card) h = (ticket_paid a c r (cash_and_credit paid card), next_paid_both form airline a c r paid card)
next_part form airline (ticket_paid a c r forms) (exchange ex) h = (whole (exchanged a c r (Some forms) ex), next_paid_exchange form airline a c r forms ex)
next_part form airline refunding (amounts a) h = (refund_amounts a, next_refund_amounts form airline a)
next_part form airline (refund_amounts a) (commission c) h = refund_next form airline a c
next_part form airline (refund_commission a c) (commission_tax t) h = (refund_charged a (commission_and_tax c t), next_refund_tax form airline a c t)
next_part form airline (refund_charged a c) (related r) h = (refund_related a c r, next_refund_related form airline a c r (eqb-true r.airline airline h))
next_part form airline (refund_related a c r) (cash paid) h = (whole (refund a c r (cash_only paid)), next_refund_cash form airline a c r paid)
next_part form airline (refund_related a c r) (credit card) h = (whole (refund a c r (credit_only card)), next_refund_credit form airline a c r card)
next_part form airline debit (amounts a) h = (debit_amounts a, next_debit_amounts form airline a (taxed (is_blank a.taxes) h))
next_part form airline (debit_amounts a) (cash paid) h = (whole (debit_memo a paid), next_debit_cash form airline a paid)
next_part form airline credited (amounts a) h = (credited_amounts a, next_credited_amounts form airline a (taxed (is_blank a.taxes) h))
next_part form airline (credited_amounts a) (cash paid) h = (whole (credit_memo a paid), next_credited_cash form airline a paid)
next_part form airline (whole (sale a c (cash_only paid))) (credit card) h = (whole (sale a c (cash_and_credit paid card)), next_sale_both form airline a c paid card)
next_part form airline (whole (refund a c r (cash_only paid))) (credit card) h = (whole (refund a c r (cash_and_credit paid card)), next_refund_both form airline a c r paid card)
next_part form airline (whole (sale a c (credit_only card))) (amounts b) h = absurd (false≢true h)
next_part form airline (whole (sale a c (cash_and_credit paid card))) (amounts b) h = absurd (false≢true h)
next_part form airline (whole (exchanged a c r forms ex)) (amounts b) h = absurd (false≢true h)
next_part form airline (whole (refund a c r (credit_only card))) (amounts b) h = absurd (false≢true h)
next_part form airline (whole (refund a c r (cash_and_credit paid card))) (amounts b) h = absurd (false≢true h)
next_part form airline (whole cancellation) (amounts b) h = absurd (false≢true h)
next_part form airline (whole (debit_memo a paid)) (amounts b) h = absurd (false≢true h)
next_part form airline (whole (credit_memo a paid)) (amounts b) h = absurd (false≢true h)
next_part form airline _ _ h = absurd (false≢true h)

-- ---- whole items

-- the item of a document with this behind it
abbrev pub item_with : Document → Body → Item
item_with d body = record { code = code_of_body body; document_is = d; parts = parts_of body }

pub is_item : (form : FileForm) (airline : ℕ) (d : Document) (body : Body) → IsBody form airline body → IsItem form airline (item_with d body)
is_item form airline d body sound = record { body = body; code = refl; parts = refl; sound = sound }

-- each item is one of these
pub item_is_with : (form : FileForm) (airline : ℕ) (it : Item) (h : IsItem form airline it) → it ≡ item_with it.document_is h.body
item_is_with form airline it h = rw (← h.code, ← h.parts) refl

complete_forms : (forms : Forms) → is_complete Tktt (forms_stage forms) false ≡ true
complete_forms (cash_only paid) = refl
complete_forms (credit_only card) = refl
complete_forms (cash_and_credit paid card) = refl

complete_refund : (forms : Forms) → is_complete Rfnd (forms_stage forms) true ≡ true
complete_refund (cash_only paid) = refl
complete_refund (credit_only card) = refl
complete_refund (cash_and_credit paid card) = refl

pub is_whole : (body : Body) → is_complete_progress (progress_of (whole body)) ≡ true
is_whole (sale a c forms) = complete_forms forms
is_whole (exchanged a c r forms ex) = refl
is_whole (refund a c r forms) = complete_refund forms
is_whole cancellation = refl
is_whole (debit_memo a paid) = refl
is_whole (credit_memo a paid) = refl

pub whole_body : (g : PartialItem) → is_complete_progress (progress_of g) ≡ true → (body : Body) × (g ≡ whole body)
whole_body (whole body) h = (body, refl)
whole_body (ticket_paid a c r (cash_only paid)) h = absurd (false≢true h)
whole_body (ticket_paid a c r (credit_only card)) h = absurd (false≢true h)
whole_body (ticket_paid a c r (cash_and_credit paid card)) h = absurd (false≢true h)
whole_body _ h = absurd (false≢true h)

pub first_code : (c : DocumentCode) → code_of (first c) ≡ c
first_code Tktt = refl
first_code Rfnd = refl
first_code Canx = refl
first_code Adma = refl
first_code Acma = refl

pub first_parts : (c : DocumentCode) → parts_so_far (first c) ≡ []
first_parts Tktt = refl
first_parts Rfnd = refl
first_parts Canx = refl
first_parts Adma = refl
first_parts Acma = refl

pub first_progress : (c : DocumentCode) → progress_of (first c) ≡ progress c stage.Document false
first_progress Tktt = refl
first_progress Rfnd = refl
first_progress Canx = refl
first_progress Adma = refl
first_progress Acma = refl

pub first_sound : (form : FileForm) (airline : ℕ) (c : DocumentCode) → IsSound form airline (first c)
first_sound form airline Tktt = tt
first_sound form airline Rfnd = tt
first_sound form airline Canx = tt
first_sound form airline Adma = tt
first_sound form airline Acma = tt
