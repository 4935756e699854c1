-- Lines have one content.
use Rattle.std.proofs.Common.{◌≡◌, ℕ, List, [], ◌∷◌, refl, sym, ap, ◌∙◌, subst, Option, None, Some, Ok, ℤ, Result}
use Rattle.bsp_fields.specs.CivilDay.{CivilDay}
use Rattle.bsp_ret_records.specs.declared.codes.TransactionCode.{TransactionCode}
use Rattle.bsp_ret_records.specs.declared.transactions.ReportedDocument.{ReportedDocument}
use Rattle.bsp_ret_records.specs.declared.transactions.Tax.{Tax}
use Rattle.bsp_ret_records.specs.declared.transactions.Amounts.{Amounts}
use Rattle.bsp_ret_records.specs.declared.transactions.CardPayment.{CardPayment}
use Rattle.bsp_ret_records.specs.declared.transactions.Transaction.{Transaction}
use Rattle.bsp_fields.specs.Taxes.{tax_places}
use Rattle.bsp_ret_records.specs.Records.{document, related_document}
use Rattle.bsp_ret.specs.Ret.{Group, HasBody}
use Rattle.bsp_ret.specs.Content.{InBoth, HasRelatedValues, IsContent, HasContent}
use Rattle.bsp_ret_records.specs.Values.{IsDocument, IsRelated, IsTax, AreTaxes, AreAmounts, IsPayment, IsCardPayment}
use Rattle.bsp_ret_records.proofs.ReadLemmas.{no_tax}
use Rattle.bsp_ret.proofs.BodyLemmas.{BodyFacts, body_facts}
use Rattle.bsp_ret.proofs.SameGroup.{same_group}

-- one reading has one value
same_value : {A E : Type 0} (r : Result A E) (x y : A) → r ≡ Ok x → r ≡ Ok y → x ≡ y
same_value r x y first second = cc

same_some : {A : Type 0} (o : Option A) (x y : A) → o ≡ Some x → o ≡ Some y → x ≡ y
same_some o x y first second = cc

in_both : {A B : Type 0} (holds : A → B → Type 0) → ((x : A) (y z : B) → holds x y → holds x z → y ≡ z) → (o : Option A) (p q : Option B) → InBoth holds o p → InBoth holds o q → p ≡ q
in_both holds one None None None first second = refl
in_both holds one (Some x) (Some y) (Some z) first second = ap Some (one x y z first second)
in_both holds one None (Some y) q first second = absurd first
in_both holds one None None (Some z) first second = absurd second
in_both holds one (Some x) None q first second = absurd first
in_both holds one (Some x) (Some y) None first second = absurd second

-- ---- documents

document_from : ℕ → List ℕ → ℕ → ReportedDocument
document_from airline number check = record { airline = airline; number = number; check_digit = check }

document_is : (d : ReportedDocument) → d ≡ document_from d.airline d.number d.check_digit
unfolding document_from
document_is d = refl

same_document : (text : List ℕ) (d e : ReportedDocument) → IsDocument text d → IsDocument text e → d ≡ e
same_document text d e first second =
    let airline : d.airline ≡ e.airline = same_value _ d.airline e.airline first.airline second.airline in
    let number : d.number ≡ e.number = first.number ∙ sym second.number in
    let check : d.check_digit ≡ e.check_digit = sym first.check_digit ∙ second.check_digit in
    let parts : document_from d.airline d.number d.check_digit ≡ document_from e.airline e.number e.check_digit = rw (airline, number, check) refl in
    document_is d ∙ parts ∙ sym (document_is e)

same_related : (line second : Option (List ℕ)) (places others : List (Option ReportedDocument)) → HasRelatedValues line second places → HasRelatedValues line second others → places ≡ others
same_related line second [] others has other = absurd has
same_related line second (d ∷ []) others has other = absurd has
same_related line second (d ∷ e ∷ f ∷ ds) others has other = absurd has
same_related line second (d ∷ e ∷ []) [] has other = absurd other
same_related line second (d ∷ e ∷ []) (f ∷ []) has other = absurd other
same_related line second (d ∷ e ∷ []) (f ∷ g ∷ h ∷ fs) has other = absurd other
same_related line second (d ∷ e ∷ []) (f ∷ g ∷ []) has other =
    let same : (o : Option (List ℕ)) (x y : Option ReportedDocument) → InBoth IsRelated o x → InBoth IsRelated o y → x ≡ y = in_both IsRelated (λ line. same_document (related_document line)) in
    rw (same line d f has.0 other.0, same second e g has.1 other.1) refl

-- ---- taxes and amounts

tax_from : List ℕ → ℤ → Tax
tax_from code amount = record { code = code; amount = amount }

tax_is : (tax : Tax) → tax ≡ tax_from tax.code tax.amount
unfolding tax_from
tax_is tax = refl

same_tax : (place : List ℕ) (x y : Option Tax) → IsTax place x → IsTax place y → x ≡ y
same_tax place None None first second = refl
same_tax place (Some x) (Some y) first second =
    let code : x.code ≡ y.code = first.0 ∙ sym second.0 in
    let amount : x.amount ≡ y.amount = same_value _ x.amount y.amount first.1 second.1 in
    let parts : tax_from x.code x.amount ≡ tax_from y.code y.amount = rw (code, amount) refl in
    ap Some (tax_is x ∙ parts ∙ sym (tax_is y))
same_tax place None (Some y) first second = absurd (no_tax place y first second)
same_tax place (Some x) None first second = absurd (no_tax place x second first)

same_taxes : (places : List (List ℕ)) (xs ys : List (Option Tax)) → AreTaxes places xs → AreTaxes places ys → xs ≡ ys
same_taxes [] [] [] first second = refl
same_taxes (place ∷ places) (x ∷ xs) (y ∷ ys) first second =
    rw (same_tax place x y first.0 second.0, same_taxes places xs ys first.1 second.1) refl
same_taxes [] (x ∷ xs) ys first second = absurd first
same_taxes [] [] (y ∷ ys) first second = absurd second
same_taxes (place ∷ places) [] ys first second = absurd first
same_taxes (place ∷ places) (x ∷ xs) [] first second = absurd second

amounts_from : ℤ → List (Option Tax) → ℕ → ℤ → Amounts
amounts_from fare taxes rate commission = record { fare = fare; taxes = taxes; rate = rate; commission = commission }

amounts_is : (a : Amounts) → a ≡ amounts_from a.fare a.taxes a.rate a.commission
unfolding amounts_from
amounts_is a = refl

same_amounts : (line : List ℕ) (a b : Amounts) → AreAmounts line a → AreAmounts line b → a ≡ b
same_amounts line a b first second =
    let fare : a.fare ≡ b.fare = same_value _ a.fare b.fare first.fare second.fare in
    let taxes : a.taxes ≡ b.taxes = same_taxes (tax_places line) a.taxes b.taxes first.taxes second.taxes in
    let rate : a.rate ≡ b.rate = sym first.rate ∙ second.rate in
    let commission : a.commission ≡ b.commission = same_value _ a.commission b.commission first.commission second.commission in
    let parts : amounts_from a.fare a.taxes a.rate a.commission ≡ amounts_from b.fare b.taxes b.rate b.commission = rw (fare, taxes, rate, commission) refl in
    amounts_is a ∙ parts ∙ sym (amounts_is b)

-- ---- forms

same_payment : (line : List ℕ) (a b : ℤ) → IsPayment line a → IsPayment line b → a ≡ b
same_payment line a b first second = same_value _ a b first second

card_from : ℤ → List ℕ → CardPayment
card_from amount vendor = record { amount = amount; vendor = vendor }

card_is : (p : CardPayment) → p ≡ card_from p.amount p.vendor
unfolding card_from
card_is p = refl

same_card : (line : List ℕ) (p q : CardPayment) → IsCardPayment line p → IsCardPayment line q → p ≡ q
same_card line p q first second =
    let amount : p.amount ≡ q.amount = same_value _ p.amount q.amount first.amount second.amount in
    let vendor : p.vendor ≡ q.vendor = first.vendor ∙ sym second.vendor in
    let parts : card_from p.amount p.vendor ≡ card_from q.amount q.vendor = rw (amount, vendor) refl in
    card_is p ∙ parts ∙ sym (card_is q)

-- ---- the whole content

values_from : TransactionCode → List ℕ → ReportedDocument → CivilDay → List ℕ → List (Option ReportedDocument) → Option Amounts → Option ℤ → Option CardPayment → Option ℤ → Transaction
values_from code agent document issued passenger related amounts cash credit exchange = record {
  code = code;
  agent = agent;
  document = document;
  issued = issued;
  passenger = passenger;
  related = related;
  amounts = amounts;
  cash = cash;
  credit = credit;
  exchange = exchange;
}

values_are : (t : Transaction) → t ≡ values_from t.code t.agent t.document t.issued t.passenger t.related t.amounts t.cash t.credit t.exchange
unfolding values_from
values_are t = refl

same_content : (g : Group) (t u : Transaction) → IsContent g t → IsContent g u → t ≡ u
same_content g t u first second =
    let code : t.code ≡ u.code = same_some _ t.code u.code first.code second.code in
    let agent : t.agent ≡ u.agent = first.agent ∙ sym second.agent in
    let document_is : t.document ≡ u.document = same_document (document g.sale) t.document u.document first.document second.document in
    let issued : t.issued ≡ u.issued = same_value _ t.issued u.issued first.issued second.issued in
    let passenger : t.passenger ≡ u.passenger = first.passenger ∙ sym second.passenger in
    let related : t.related ≡ u.related = same_related g.related g.second t.related u.related first.related second.related in
    let amounts : t.amounts ≡ u.amounts = in_both AreAmounts same_amounts g.amounts t.amounts u.amounts first.amounts second.amounts in
    let cash : t.cash ≡ u.cash = in_both IsPayment same_payment g.cash t.cash u.cash first.cash second.cash in
    let credit : t.credit ≡ u.credit = in_both IsCardPayment same_card g.credit t.credit u.credit first.credit second.credit in
    let exchange : t.exchange ≡ u.exchange = in_both IsPayment same_payment g.exchange t.exchange u.exchange first.exchange second.exchange in
    let parts : values_from t.code t.agent t.document t.issued t.passenger t.related t.amounts t.cash t.credit t.exchange ≡ values_from u.code u.agent u.document u.issued u.passenger u.related u.amounts u.cash u.credit u.exchange = rw (code, agent, document_is, issued, passenger, related, amounts, cash, credit, exchange) refl in
    values_are t ∙ parts ∙ sym (values_are u)

pub has_body_facts : (n : ℕ) (lines : List (List ℕ)) (t : Transaction) (has : HasContent n lines t) → BodyFacts n has.is.group
has_body_facts n lines t has =
    let Body : Option TransactionCode → Type 0 = λ o. HasBody n has.is.group o in
    body_facts n has.is.group t.code (subst Body has.content.code has.is.body)

-- lines are the group of one transaction's values at most
pub one_content : (n : ℕ) (lines : List (List ℕ)) (t u : Transaction) → HasContent n lines t → HasContent n lines u → t ≡ u
one_content n lines t u first second =
    let same = same_group n first.is.group second.is.group (has_body_facts n lines t first) (has_body_facts n lines u second) (sym first.is.lines_are ∙ second.is.lines_are) in
    let P : Group → Type 0 = λ g. IsContent g t in
    same_content second.is.group t u (subst P same first.content) second.content
