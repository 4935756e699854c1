-- The records behind BKS24 in a file of either form.
use Rattle.std.proofs.Common.{◌≡◌, ℤ, List, [], ◌∷◌, ◌++◌, Option, None, Some, refl, ap, ◌∙◌}
use Rattle.std.specs.List.{filter}
use Rattle.std.proofs.lemmas.List.Elements.{filter-append}
use Rattle.bsp_ret.specs.ReportedDocument.{ReportedDocument}
use Rattle.bsp_ret.specs.Amounts.{Amounts}
use Rattle.bsp_ret.specs.CardPayment.{CardPayment}
use Rattle.bsp_ret.specs.Transaction.{Transaction}
use Rattle.bsp_rules.specs.declared.rows.Item.{Item as Row}
use Rattle.bsp_memos.specs.declared.fields.MemoFields.{MemoFields}
use Rattle.bsp_hot_check.specs.FileForm.{FileForm}
use Rattle.bsp_hot_check.specs.FileForm.TheVariants.{One, Two}
use Rattle.bsp_hot_check.specs.Records.{Part}
use Rattle.bsp_hot.specs.Rows.{amounts_parts, tax_parts, related_parts, all_related_parts, cash_parts, credit_parts, exchange_parts, payment_parts, sold_parts, memo_item, is_untaxed, parts_in, item_in}

abbrev kept : List Part → List Part
kept parts = filter is_untaxed parts

amounts_kept : (a : Option Amounts) → kept (amounts_parts a) ≡ amounts_parts a
amounts_kept None = refl
amounts_kept (Some a) = refl

related_kept : (places : List (Option ReportedDocument)) → kept (all_related_parts places) ≡ all_related_parts places
related_kept [] = refl
related_kept (None ∷ places) = related_kept places
related_kept (Some d ∷ places) = ap (λ (parts : List Part). related_parts (Some d) ++ parts) (related_kept places)

payments_kept : (paid : Option ℤ) (card : Option CardPayment) (ex : Option ℤ) → kept (cash_parts paid ++ (credit_parts card ++ exchange_parts ex)) ≡ cash_parts paid ++ (credit_parts card ++ exchange_parts ex)
payments_kept None None None = refl
payments_kept None None (Some ex) = refl
payments_kept None (Some card) None = refl
payments_kept None (Some card) (Some ex) = refl
payments_kept (Some paid) None None = refl
payments_kept (Some paid) None (Some ex) = refl
payments_kept (Some paid) (Some card) None = refl
payments_kept (Some paid) (Some card) (Some ex) = refl

-- the related documents and the forms of payment
behind_kept : (t : Transaction) → kept (all_related_parts t.related ++ payment_parts t) ≡ all_related_parts t.related ++ payment_parts t
behind_kept t =
    filter-append is_untaxed (all_related_parts t.related) (payment_parts t)
    ∙ ap (λ (parts : List Part). parts ++ kept (payment_parts t)) (related_kept t.related)
    ∙ ap (λ (parts : List Part). all_related_parts t.related ++ parts) (payments_kept t.cash t.credit t.exchange)

-- of a TKTT or an RFND all but BKS42 are in both forms
pub sold_in : (form : FileForm) (i : Row) → parts_in form (sold_parts i) ≡ amounts_parts i.transaction.amounts ++ (parts_in form (tax_parts i) ++ (all_related_parts i.transaction.related ++ payment_parts i.transaction))
sold_in Two i = refl
sold_in One i =
    let t = i.transaction in
    let behind = all_related_parts t.related ++ payment_parts t in
    filter-append is_untaxed (amounts_parts t.amounts) (tax_parts i ++ behind)
    ∙ ap (λ (parts : List Part). parts ++ kept behind) (amounts_kept t.amounts)
    ∙ ap (λ (parts : List Part). amounts_parts t.amounts ++ parts) (behind_kept t)

-- a CANX and a memo are the same in both forms
pub none_in : (form : FileForm) → parts_in form [] ≡ []
none_in One = refl
none_in Two = refl

pub memo_in : (form : FileForm) (m : MemoFields) → item_in form (memo_item m) ≡ memo_item m
memo_in One m = refl
memo_in Two m = refl
