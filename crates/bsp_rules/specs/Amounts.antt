-- The amounts of a transaction: their sums, and whether they are right by themselves and by the published rate.
use Rattle.std.specs.Prelude.{ℕ, ℤ, pos, ◌+ℤ◌, ◌-ℤ◌, nat_le, int_le, Bool, false, ◌&&◌, ◌||◌, not, List, map, fold, Option, Some, None, is_some}
use Rattle.std.specs.List.{list_all}
use Rattle.std.specs.Ordering.{int_eq}
use Rattle.bsp_ret_records.specs.Values.{none_or}
use Rattle.bsp_ret_records.specs.declared.codes.TransactionCode.{TransactionCode}
use Rattle.bsp_ret_records.specs.declared.codes.TransactionCode.TheVariants.{Tktt, Rfnd, Canx}
use Rattle.bsp_ret_records.specs.declared.transactions.Tax.{Tax}
use Rattle.bsp_ret_records.specs.declared.transactions.Amounts.{Amounts}
use Rattle.bsp_ret_records.specs.declared.transactions.CardPayment.{CardPayment}
use Rattle.bsp_ret_records.specs.declared.transactions.Transaction.{Transaction}
use Rattle.bsp_rules.specs.declared.rows.Item.{Item}
use Rattle.bsp_rules.specs.Commission.{is_commission}
use Rattle.bsp_rules.specs.SameContent.{same_code}

-- ---- sums

abbrev pub sum_of : List ℤ → ℤ
sum_of amounts = fold ◌+ℤ◌ (pos 0) amounts

abbrev pub amount_or_zero : Option ℤ → ℤ
amount_or_zero None = pos 0
amount_or_zero (Some amount) = amount

abbrev pub tax_amount : Option Tax → ℤ
tax_amount None = pos 0
tax_amount (Some tax) = tax.amount

abbrev pub card_amount : Option CardPayment → ℤ
card_amount None = pos 0
card_amount (Some payment) = payment.amount

-- fare and taxes
abbrev pub gross : Amounts → ℤ
gross a = a.fare +ℤ sum_of (map tax_amount a.taxes)

-- the forms of payment
abbrev pub paid : Transaction → ℤ
paid t = (amount_or_zero t.cash +ℤ card_amount t.credit) +ℤ amount_or_zero t.exchange

-- the commission, and 0 where there are no amounts
abbrev pub commission_amount : Option Amounts → ℤ
commission_amount None = pos 0
commission_amount (Some a) = a.commission

-- what the agent owes for an item: cash less commission less the tax on it of a TKTT or an RFND, and nothing of a CANX
abbrev pub net_of : Item → ℤ
net_of i = by_code i.transaction.code ((amount_or_zero i.transaction.cash -ℤ commission_amount i.transaction.amounts) -ℤ i.tax) where
  by_code : TransactionCode → ℤ → ℤ
  by_code Tktt net = net
  by_code Rfnd net = net
  by_code Canx net = pos 0

-- ---- by the transaction and the published rate alone

-- an amount of an RFND is 0 or less, and any other is 0 or more
abbrev pub has_sign : TransactionCode → ℤ → Bool
has_sign Tktt amount = int_le (pos 0) amount
has_sign Rfnd amount = int_le amount (pos 0)
has_sign Canx amount = int_le (pos 0) amount

-- fare, commission, taxes and forms have the sign
unfoldable pub have_sign : Transaction → Amounts → Bool
have_sign t a =
    has_sign t.code a.fare && has_sign t.code a.commission
    && list_all (none_or (λ tax. has_sign t.code tax.amount)) a.taxes
    && none_or (has_sign t.code) t.cash
    && none_or (λ payment. has_sign t.code payment.amount) t.credit
    && none_or (has_sign t.code) t.exchange

-- fare and taxes are what is paid
unfoldable pub is_balanced : Transaction → Amounts → Bool
is_balanced t a = int_eq (gross a) (paid t)

-- a sale claims no more than the published rate, and its commission is the rate's on the fare; the commission of an exchange is judged against its tickets
unfoldable pub has_published_commission : Transaction → Amounts → ℕ → Bool
has_published_commission t a published =
    nat_le a.rate published && (is_some t.exchange || is_commission a.rate a.fare a.commission)

-- of a TKTT: no amounts, or an amount below 0, or out of balance, or a rate or a commission that the published rate does not give; of an RFND: no amounts, or an amount above 0, or out of balance
abbrev pub are_wrong : Transaction → Option Amounts → ℕ → Bool
are_wrong t None published = not (same_code t.code Canx)
are_wrong t (Some a) published = by_code t.code where
  by_code : TransactionCode → Bool
  by_code Tktt = not (have_sign t a && (is_balanced t a && has_published_commission t a published))
  by_code Rfnd = not (have_sign t a && is_balanced t a)
  by_code Canx = false

unfoldable pub has_wrong_amounts : Transaction → ℕ → Bool
has_wrong_amounts t published = are_wrong t t.amounts published
