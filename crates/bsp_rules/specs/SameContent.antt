-- When two transactions have the same content: every field that a group of records gives, amounts as values.
use Rattle.std.specs.Prelude.{◌==◌, ◌&&◌, Bool, true, false, Option, Some, None}
use Rattle.std.specs.Cmp.Lexicographic.{pointwise}
use Rattle.std.specs.Ordering.{int_eq}
use Rattle.std.specs.Str.{bytes_eq}
use Rattle.bsp_calendar.specs.DayOrder.{same_day}
use Rattle.bsp_ret_records.specs.declared.codes.TransactionCode.{TransactionCode}
use Rattle.bsp_ret_records.specs.declared.codes.TransactionCode.TheVariants.{Tktt, Rfnd, Canx}
use Rattle.bsp_ret_records.specs.declared.transactions.ReportedDocument.{ReportedDocument}
use Rattle.bsp_ret_records.specs.declared.transactions.Tax.{Tax}
use Rattle.bsp_ret_records.specs.declared.transactions.Amounts.{Amounts}
use Rattle.bsp_ret_records.specs.declared.transactions.CardPayment.{CardPayment}
use Rattle.bsp_ret_records.specs.declared.transactions.Transaction.{Transaction}

abbrev pub same_code : TransactionCode → TransactionCode → Bool
same_code Tktt Tktt = true
same_code Rfnd Rfnd = true
same_code Canx Canx = true
same_code Tktt Rfnd = false
same_code Tktt Canx = false
same_code Rfnd Tktt = false
same_code Rfnd Canx = false
same_code Canx Tktt = false
same_code Canx Rfnd = false

-- both have none, or both have one and the two are the same
abbrev pub same_option : {A : Type 0} → (A → A → Bool) → Option A → Option A → Bool
same_option same None None = true
same_option same (Some x) (Some y) = same x y
same_option same None (Some y) = false
same_option same (Some x) None = false

abbrev pub same_document : ReportedDocument → ReportedDocument → Bool
same_document a b = (a.airline == b.airline) && (bytes_eq a.number b.number && (a.check_digit == b.check_digit))

abbrev pub same_tax : Tax → Tax → Bool
same_tax a b = bytes_eq a.code b.code && int_eq a.amount b.amount

abbrev pub same_amounts : Amounts → Amounts → Bool
same_amounts a b =
    int_eq a.fare b.fare && (pointwise (same_option same_tax) a.taxes b.taxes && ((a.rate == b.rate) && int_eq a.commission b.commission))

abbrev pub same_card : CardPayment → CardPayment → Bool
same_card a b = int_eq a.amount b.amount && bytes_eq a.vendor b.vendor

abbrev pub same_content : Transaction → Transaction → Bool
same_content a b =
    same_code a.code b.code
    && (bytes_eq a.agent b.agent
    && (same_document a.document b.document
    && (same_day a.issued b.issued
    && (bytes_eq a.passenger b.passenger
    && (pointwise (same_option same_document) a.related b.related
    && (same_option same_amounts a.amounts b.amounts
    && (same_option int_eq a.cash b.cash
    && (same_option same_card a.credit b.credit
    && same_option int_eq a.exchange b.exchange))))))))
