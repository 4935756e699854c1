-- When values make a group.
use Rattle.std.specs.Prelude.{ℕ, nat_le, nat_lt, Bool, true, false, ◌&&◌, ◌||◌, not, List, [], ◌∷◌, Option, Some, None, is_some, is_none, if◌then◌else◌, slice_index_or}
use Rattle.std.specs.List.{list_all}
use Rattle.std.specs.Str.{all_ascii_digits}
use Rattle.bsp_fields.specs.Columns.{is_letter_or_digit, is_printable}
use Rattle.bsp_fields.specs.Taxes.{tax_code}
use Rattle.bsp_ret_records.specs.declared.codes.TransactionCode.{TransactionCode}
use Rattle.bsp_ret_records.specs.declared.codes.TransactionCode.TheVariants.{Tktt, Rfnd, Canx}
use Rattle.bsp_ret_records.specs.declared.transactions.ReportedDocument.{ReportedDocument}
use Rattle.bsp_ret_records.specs.declared.transactions.Tax.{Tax}
use Rattle.bsp_ret_records.specs.declared.transactions.Amounts.{Amounts}
use Rattle.bsp_ret_records.specs.declared.transactions.CardPayment.{CardPayment}
use Rattle.bsp_ret_records.specs.declared.transactions.Transaction.{Transaction}
use Rattle.bsp_ret_records.specs.Values.{none_or, is_before}
use Rattle.bsp_ret.specs.Content.{HasContent}

-- some lines are a group with these values
abbrev pub MakesGroup : Transaction → Type 0
MakesGroup t = (lines : List (List ℕ)) × HasContent 1 lines t

-- ---- the test of the values

unfoldable pub is_document : ReportedDocument → Bool
is_document d = all_ascii_digits d.number && nat_le d.check_digit 9

-- in two places: nothing, a document, or in an exchange two, of which the second comes behind the first
unfoldable pub are_related : Bool → List (Option ReportedDocument) → Bool
are_related exchange [] = false
are_related exchange (first ∷ []) = false
are_related exchange (None ∷ second ∷ []) = is_none second
are_related exchange (Some d ∷ None ∷ []) = is_document d
are_related exchange (Some d ∷ Some e ∷ []) = exchange && is_document d && is_document e && is_before d e
are_related exchange (first ∷ second ∷ third ∷ others) = false

-- used places come first, with codes of letters and digits that rise by bytes
abbrev pub are_taxes : ℕ → List (Option Tax) → Bool
are_taxes before [] = true
are_taxes before (None ∷ taxes) = list_all is_none taxes
are_taxes before (Some tax ∷ taxes) =
    list_all is_letter_or_digit tax.code && nat_lt before (tax_code tax.code) && are_taxes (tax_code tax.code) taxes

unfoldable pub are_amounts : Amounts → Bool
are_amounts a = are_taxes 0 a.taxes && nat_le a.rate 10000

unfoldable pub is_card : CardPayment → Bool
is_card p = list_all is_letter_or_digit p.vendor

-- what stands beside record 2, by its code: a TKTT has related documents exactly where it has an exchange, an RFND has a related document and no exchange, a CANX has nothing
unfoldable pub has_parts : TransactionCode → Bool → Bool → Bool → Bool → Bool → Bool
has_parts Tktt related amounts cash credit exchange =
    amounts && (cash || credit || exchange) && (if exchange then related else not related)
has_parts Rfnd related amounts cash credit exchange = related && amounts && (cash || credit) && not exchange
has_parts Canx related amounts cash credit exchange = not (related || amounts || cash || credit || exchange)

-- the document of record 3, and that of a second one
abbrev pub related_of : Transaction → Option ReportedDocument
related_of t = slice_index_or t.related 0 None

abbrev pub second_of : Transaction → Option ReportedDocument
second_of t = slice_index_or t.related 1 None

unfoldable pub is_group_values : Transaction → Bool
is_group_values t =
    all_ascii_digits t.agent && is_document t.document && list_all is_printable t.passenger
    && are_related (is_some t.exchange) t.related && none_or are_amounts t.amounts && none_or is_card t.credit
    && has_parts t.code (is_some (related_of t)) (is_some t.amounts) (is_some t.cash) (is_some t.credit) (is_some t.exchange)
