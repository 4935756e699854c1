-- Two transactions have the same content exactly where they are equal.
use Rattle.std.proofs.Common.{◌≡◌, ◌≢◌, ◌∙◌, ℕ, Bool, true, false, List, [], ◌∷◌, Option, Some, None, Decides, refl, sym, ap}
use Rattle.std.specs.Cmp.Lexicographic.{pointwise}
use Rattle.std.specs.Ordering.{int_eq}
use Rattle.std.proofs.lemmas.Bool.{false≢true}
use Rattle.std.proofs.lemmas.Bool.Decides.{Decides-and, Decides-eqb, Decides-int_eq, Decides-like}
use Rattle.std.proofs.lemmas.List.Elements.{All-cons, All-nil, Contains-append_left, Contains-append_right, Contains-push}
use Rattle.std.proofs.lemmas.Slice.Eq.{bytes_eq-Decides, slice_eq-Decides}
use Rattle.bsp_fields.specs.CivilDay.{CivilDay}
use Rattle.bsp_calendar.specs.DayOrder.{same_day}
use Rattle.bsp_ret_records.specs.declared.codes.TransactionCode.{TransactionCode}
use Rattle.bsp_ret_records.specs.declared.codes.TransactionCode.TheVariants.{Tktt, Rfnd, Canx}
use Rattle.bsp_ret_records.specs.declared.transactions.ReportedDocument.{ReportedDocument}
use Rattle.bsp_ret_records.specs.declared.transactions.Tax.{Tax}
use Rattle.bsp_ret_records.specs.declared.transactions.Amounts.{Amounts}
use Rattle.bsp_ret_records.specs.declared.transactions.CardPayment.{CardPayment}
use Rattle.bsp_ret_records.specs.declared.transactions.Transaction.{Transaction}
use Rattle.bsp_rules.specs.declared.rows.Item.{Item}
use Rattle.bsp_rules.specs.Rows.{IsHeld, held_period}
use Rattle.bsp_rules.specs.SameContent.{same_amounts, same_card, same_code, same_content, same_document, same_option, same_tax}

code_decides : (a b : TransactionCode) → Decides (same_code a b) (a ≡ b)
code_decides Tktt Tktt = (λ _. refl, λ _. refl)
code_decides Rfnd Rfnd = (λ _. refl, λ _. refl)
code_decides Canx Canx = (λ _. refl, λ _. refl)
code_decides Tktt Rfnd = (λ h. absurd (false≢true h), λ e. absurd (cc))
code_decides Tktt Canx = (λ h. absurd (false≢true h), λ e. absurd (cc))
code_decides Rfnd Tktt = (λ h. absurd (false≢true h), λ e. absurd (cc))
code_decides Rfnd Canx = (λ h. absurd (false≢true h), λ e. absurd (cc))
code_decides Canx Tktt = (λ h. absurd (false≢true h), λ e. absurd (cc))
code_decides Canx Rfnd = (λ h. absurd (false≢true h), λ e. absurd (cc))

option_decides : {A : Type 0} (same : A → A → Bool) → ((a b : A) → Decides (same a b) (a ≡ b)) → (x y : Option A) → Decides (same_option same x y) (x ≡ y)
option_decides same decides None None = (λ _. refl, λ _. refl)
option_decides same decides (Some a) (Some b) = (λ h. ap Some ((decides a b).0 h), λ e. let inside : a ≡ b = cc in (decides a b).1 inside)
option_decides same decides None (Some b) = (λ h. absurd (false≢true h), λ e. absurd (cc))
option_decides same decides (Some a) None = (λ h. absurd (false≢true h), λ e. absurd (cc))

list_decides : {A : Type 0} (same : A → A → Bool) → ((a b : A) → Decides (same a b) (a ≡ b)) → (xs ys : List A) → Decides (pointwise same xs ys) (xs ≡ ys)
list_decides same decides xs ys = slice_eq-Decides {E = same} decides xs ys (pointwise same xs ys) refl

day_decides : (a b : CivilDay) → Decides (same_day a b) (a ≡ b)
day_decides a b =
    Decides-like _ (λ e i. record { year = e.0 i; month = e.1.0 i; day = e.1.1 i }) (λ e. (ap (λ d. d.year) e, (ap (λ d. d.month) e, ap (λ d. d.day) e)))
    (Decides-and _ _ (Decides-eqb a.year b.year) (Decides-and _ _ (Decides-eqb a.month b.month) (Decides-eqb a.day b.day)))

document_decides : (a b : ReportedDocument) → Decides (same_document a b) (a ≡ b)
document_decides a b =
    Decides-like _ (λ e i. record { airline = e.0 i; number = e.1.0 i; check_digit = e.1.1 i }) (λ e. (ap (λ d. d.airline) e, (ap (λ d. d.number) e, ap (λ d. d.check_digit) e)))
    (Decides-and _ _ (Decides-eqb a.airline b.airline) (Decides-and _ _ (bytes_eq-Decides a.number b.number) (Decides-eqb a.check_digit b.check_digit)))

tax_decides : (a b : Tax) → Decides (same_tax a b) (a ≡ b)
tax_decides a b =
    Decides-like _ (λ e i. record { code = e.0 i; amount = e.1 i }) (λ e. (ap (λ t. t.code) e, ap (λ t. t.amount) e))
    (Decides-and _ _ (bytes_eq-Decides a.code b.code) (Decides-int_eq a.amount b.amount))

card_decides : (a b : CardPayment) → Decides (same_card a b) (a ≡ b)
card_decides a b =
    Decides-like _ (λ e i. record { amount = e.0 i; vendor = e.1 i }) (λ e. (ap (λ t. t.amount) e, ap (λ t. t.vendor) e))
    (Decides-and _ _ (Decides-int_eq a.amount b.amount) (bytes_eq-Decides a.vendor b.vendor))

amounts_decides : (a b : Amounts) → Decides (same_amounts a b) (a ≡ b)
amounts_decides a b =
    Decides-like _ (λ e i. record { fare = e.0 i; taxes = e.1.0 i; rate = e.1.1.0 i; commission = e.1.1.1 i })
    (λ e. (ap (λ t. t.fare) e, (ap (λ t. t.taxes) e, (ap (λ t. t.rate) e, ap (λ t. t.commission) e))))
    (Decides-and _ _ (Decides-int_eq a.fare b.fare)
    (Decides-and _ _ (list_decides (same_option same_tax) (option_decides same_tax tax_decides) a.taxes b.taxes)
    (Decides-and _ _ (Decides-eqb a.rate b.rate) (Decides-int_eq a.commission b.commission))))

pub content_decides : (a b : Transaction) → Decides (same_content a b) (a ≡ b)
content_decides a b =
    Decides-like _
    (λ e i. record {
      code = e.0 i;
      agent = e.1.0 i;
      document = e.1.1.0 i;
      issued = e.1.1.1.0 i;
      passenger = e.1.1.1.1.0 i;
      related = e.1.1.1.1.1.0 i;
      amounts = e.1.1.1.1.1.1.0 i;
      cash = e.1.1.1.1.1.1.1.0 i;
      credit = e.1.1.1.1.1.1.1.1.0 i;
      exchange = e.1.1.1.1.1.1.1.1.1 i;
    })
    (λ e. (ap (λ t. t.code) e, (ap (λ t. t.agent) e, (ap (λ t. t.document) e, (ap (λ t. t.issued) e, (ap (λ t. t.passenger) e, (ap (λ t. t.related) e, (ap (λ t. t.amounts) e, (ap (λ t. t.cash) e, (ap (λ t. t.credit) e, ap (λ t. t.exchange) e))))))))))
    (Decides-and _ _ (code_decides a.code b.code)
    (Decides-and _ _ (bytes_eq-Decides a.agent b.agent)
    (Decides-and _ _ (document_decides a.document b.document)
    (Decides-and _ _ (day_decides a.issued b.issued)
    (Decides-and _ _ (bytes_eq-Decides a.passenger b.passenger)
    (Decides-and _ _ (list_decides (same_option same_document) (option_decides same_document document_decides) a.related b.related)
    (Decides-and _ _ (option_decides same_amounts amounts_decides a.amounts b.amounts)
    (Decides-and _ _ (option_decides int_eq Decides-int_eq a.cash b.cash)
    (Decides-and _ _ (option_decides same_card card_decides a.credit b.credit)
    (option_decides int_eq Decides-int_eq a.exchange b.exchange))))))))))

-- ---- the item that is found

held_step : (t : Transaction) (i : Item) (items : List Item) → IsHeld t items (held_period t items) → (b : Bool) → same_content i.transaction t ≡ b → IsHeld t (i ∷ items) (held_period t (i ∷ items))
held_step t i items rest true e =
    rw e (i, Contains-append_left (i ∷ []) items i (Contains-push [] i), (content_decides i.transaction t).0 e, refl)
held_step t i items rest false e = rw e (passed (held_period t items) rest) where
  differs : i.transaction ≢ t
  differs same = false≢true (sym e ∙ (content_decides i.transaction t).1 same)

  passed : (found : Option ℕ) → IsHeld t items found → IsHeld t (i ∷ items) found
  passed None all = All-cons (λ j. j.transaction ≢ t) i items differs all
  passed (Some period) one = (one.0, Contains-append_right (i ∷ []) items one.0 one.1, one.2, one.3)

pub held_is : (t : Transaction) (items : List Item) → IsHeld t items (held_period t items)
held_is t [] = All-nil (λ j. j.transaction ≢ t)
held_is t (i ∷ items) = held_step t i items (held_is t items) (same_content i.transaction t) refl
