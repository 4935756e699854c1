-- The lines that are written for a transaction's values are a group with these values.
use Rattle.std.proofs.Common.{◌≡◌, ℕ, ◌<◌, ◌^◌, ◌&&◌, ◌||◌, not, Bool, true, false, List, [], ◌∷◌, length, refl, sym, ◌∙◌, subst, arith, inl, inr, Option, None, Some, is_some, ℤ}
use Rattle.std.specs.Prelude.{IfSome, IsSome, slice_index_or, if◌then◌else◌}
use Rattle.std.specs.List.{list_all}
use Rattle.std.specs.Option.{option_map, IsSomeAnd}
use Rattle.std.specs.Str.{all_ascii_digits}
use Rattle.std.proofs.lemmas.Bool.{and_parts, or_cases, or_parts, not-true}
use Rattle.bsp_ret_records.specs.declared.codes.TransactionCode.{TransactionCode}
use Rattle.bsp_ret_records.specs.declared.codes.TransactionCode.TheVariants.{Tktt, Rfnd, Canx}
use Rattle.bsp_ret_records.specs.declared.codes.FormOfPayment.TheVariants.{Cash, Credit, Exchange}
use Rattle.bsp_ret_records.specs.declared.transactions.ReportedDocument.{ReportedDocument}
use Rattle.bsp_ret_records.specs.declared.transactions.Amounts.{Amounts}
use Rattle.bsp_ret_records.specs.declared.transactions.CardPayment.{CardPayment}
use Rattle.bsp_ret_records.specs.declared.transactions.Transaction.{Transaction}
use Rattle.bsp_fields.specs.Columns.{is_printable}
use Rattle.bsp_ret_records.specs.Records.{related_fits, amounts_fit}
use Rattle.bsp_ret.specs.Ret.{IsRecord, IsForm, IsPaid, AreRelated, HasBody}
use Rattle.bsp_ret.specs.Content.{InBoth, HasRelatedValues, HasContent}
use Rattle.bsp_ret_records.specs.Values.{IsRelated, AreAmounts, IsPayment, IsCardPayment, none_or, is_before}
use Rattle.bsp_ret_writer.specs.GroupValues.{is_document, are_related, are_amounts, is_card, has_parts, related_of, second_of, is_group_values}
use Rattle.bsp_ret_writer.specs.Writing.{related_line, amounts_line, cash_line, credit_line, exchange_line, group_of, group_lines}
use Rattle.bsp_ret_writer.proofs.FormLemmas.{form_line-stands, form_line-reads, form_line-vendor, cash_fields, credit_fields, exchange_fields}
use Rattle.bsp_ret_writer.proofs.DocumentLemmas.{related_line-stands, related_line-reads, related_line-rises}
use Rattle.bsp_ret_writer.proofs.SaleLemmas.{SaleFits, sale_line-columns, sale_line-stands, sale_line-code, sale_line-document, sale_line-issued}
use Rattle.bsp_ret_writer.proofs.AmountLemmas.{amounts_line-stands, amounts_line-reads}
use Rattle.bsp_ret_writer.specs.Stored.{InEach, IsStored, IsStoredAmount, IsStoredAmounts, IsStoredCard, IsStoredDocument}

-- ---- what the test of the values says

-- nothing, a document, or in an exchange two, of which the second comes behind the first
abbrev pub AreOrdered : Bool → Option ReportedDocument → Option ReportedDocument → Type 0
AreOrdered exchange first None = Unit {0}
AreOrdered exchange (Some d) (Some e) = (exchange ≡ true) × (is_before d e ≡ true)
AreOrdered exchange None (Some e) = ⊥

-- two places
pub record PlacesFacts (exchange : Bool) (places : List (Option ReportedDocument)) : Type 0 where
  pub two : places ≡ slice_index_or places 0 None ∷ slice_index_or places 1 None ∷ []
  pub first : none_or is_document (slice_index_or places 0 None) ≡ true
  pub second : none_or is_document (slice_index_or places 1 None) ≡ true
  pub ordered : AreOrdered exchange (slice_index_or places 0 None) (slice_index_or places 1 None)

places_facts : (exchange : Bool) (places : List (Option ReportedDocument)) → length places ≡ 2 → are_related exchange places ≡ true → PlacesFacts exchange places
unfolding are_related
places_facts exchange [] wide fit = absurd (omega (arith, wide))
places_facts exchange (first ∷ []) wide fit = absurd (omega (arith, wide))
places_facts exchange (None ∷ None ∷ []) wide fit = record { two = refl; first = refl; second = refl; ordered = tt }
places_facts exchange (None ∷ Some e ∷ []) wide fit = absurd (cc fit)
places_facts exchange (Some d ∷ None ∷ []) wide fit = record { two = refl; first = fit; second = refl; ordered = tt }
places_facts exchange (Some d ∷ Some e ∷ []) wide fit =
    let third = and_parts (exchange && is_document d && is_document e) (is_before d e) fit in
    let second = and_parts (exchange && is_document d) (is_document e) third.0 in
    let first = and_parts exchange (is_document d) second.0 in
    record { two = refl; first = first.1; second = second.1; ordered = (first.0, third.1) }
places_facts exchange (first ∷ second ∷ third ∷ places) wide fit = absurd (omega (arith, wide))

pub record Facts (t : Transaction) : Type 0 where
  pub sale : SaleFits t
  pub related : PlacesFacts (is_some t.exchange) t.related
  pub amounts : none_or are_amounts t.amounts ≡ true
  pub credit : none_or is_card t.credit ≡ true
  pub parts : has_parts t.code (is_some (related_of t)) (is_some t.amounts) (is_some t.cash) (is_some t.credit) (is_some t.exchange) ≡ true

pub facts_from : (t : Transaction) → length t.related ≡ 2 → is_group_values t ≡ true → Facts t
unfolding is_group_values
facts_from t two fits =
    let agent = all_ascii_digits t.agent in
    let document = is_document t.document in
    let passenger = list_all is_printable t.passenger in
    let related = are_related (is_some t.exchange) t.related in
    let amounts = none_or are_amounts t.amounts in
    let credit = none_or is_card t.credit in
    let parts = has_parts t.code (is_some (related_of t)) (is_some t.amounts) (is_some t.cash) (is_some t.credit) (is_some t.exchange) in
    let sixth = and_parts (agent && document && passenger && related && amounts && credit) parts fits in
    let fifth = and_parts (agent && document && passenger && related && amounts) credit sixth.0 in
    let fourth = and_parts (agent && document && passenger && related) amounts fifth.0 in
    let third = and_parts (agent && document && passenger) related fourth.0 in
    let second = and_parts (agent && document) passenger third.0 in
    let first = and_parts agent document second.0 in
    record {
      sale = record { agent = first.0; document = first.1; passenger = second.1 };
      related = places_facts (is_some t.exchange) t.related two third.1;
      amounts = fourth.1;
      credit = fifth.1;
      parts = sixth.1;
    }

stored_first : (places : List (Option ReportedDocument)) → InEach IsStoredDocument places → IfSome (slice_index_or places 0 None) IsStoredDocument
stored_first [] stored = tt
stored_first (first ∷ others) stored = stored.0

stored_second : (places : List (Option ReportedDocument)) → InEach IsStoredDocument places → IfSome (slice_index_or places 1 None) IsStoredDocument
stored_second [] stored = tt
stored_second (first ∷ []) stored = tt
stored_second (first ∷ second ∷ others) stored = stored.1.0

-- ---- each record that is written

related_stand : (n : ℕ) (exchange : Bool) (first second : Option ReportedDocument) → n < 10 ^ 6 → IfSome first IsStoredDocument → IfSome second IsStoredDocument → none_or is_document first ≡ true → none_or is_document second ≡ true → AreOrdered exchange first second
    → AreRelated n (option_map (related_line n) first) (option_map (related_line n) second)
related_stand n exchange None None few stored also_stored fits also_fits ordered = tt
related_stand n exchange (Some d) None few stored also_stored fits also_fits ordered = related_line-stands n d stored fits few
related_stand n exchange (Some d) (Some e) few stored also_stored fits also_fits ordered =
    (related_line-stands n d stored fits few, related_line-stands n e also_stored also_fits few, related_line-rises n d e stored also_stored fits also_fits ordered.1)
related_stand n exchange None (Some e) few stored also_stored fits also_fits ordered = absurd ordered

all_related_stand : (n : ℕ) (t : Transaction) → n < 10 ^ 6 → IsStored t → PlacesFacts (is_some t.exchange) t.related → AreRelated n (group_of n t).related (group_of n t).second
all_related_stand n t few stored facts =
    related_stand n (is_some t.exchange) (related_of t) (second_of t) few (stored_first t.related stored.related) (stored_second t.related stored.related) facts.first facts.second facts.ordered

related_reads : (n : ℕ) (o : Option ReportedDocument) → IfSome o IsStoredDocument → none_or is_document o ≡ true → InBoth IsRelated (option_map (related_line n) o) o
related_reads n None stored fits = tt
related_reads n (Some d) stored fits = related_line-reads n d stored fits

amounts_stand : (n : ℕ) (o : Option Amounts) → n < 10 ^ 6 → IfSome o IsStoredAmounts → none_or are_amounts o ≡ true → IsSome o → IsSomeAnd (option_map (amounts_line n) o) (IsRecord 53 n amounts_fit)
amounts_stand n None few stored fits some = absurd (cc some)
amounts_stand n (Some a) few stored fits some = amounts_line-stands n a stored fits few

amounts_read : (n : ℕ) (o : Option Amounts) → IfSome o IsStoredAmounts → none_or are_amounts o ≡ true → InBoth AreAmounts (option_map (amounts_line n) o) o
amounts_read n None stored fits = tt
amounts_read n (Some a) stored fits = amounts_line-reads n a stored fits

cash_stands : (n : ℕ) (o : Option ℤ) → n < 10 ^ 6 → IfSome o IsStoredAmount → IfSome (option_map (cash_line n) o) (IsForm n Cash)
cash_stands n None few stored = tt
cash_stands n (Some amount) few stored = form_line-stands n Cash _ amount _ cash_fields few stored.size

cash_reads : (n : ℕ) (o : Option ℤ) → IfSome o IsStoredAmount → InBoth IsPayment (option_map (cash_line n) o) o
cash_reads n None stored = tt
cash_reads n (Some amount) stored = form_line-reads n Cash _ amount _ cash_fields stored.size

credit_stands : (n : ℕ) (o : Option CardPayment) → n < 10 ^ 6 → IfSome o IsStoredCard → none_or is_card o ≡ true → IfSome (option_map (credit_line n) o) (IsForm n Credit)
unfolding is_card
credit_stands n None few stored fits = tt
credit_stands n (Some p) few stored fits =
    form_line-stands n Credit _ p.amount p.vendor (credit_fields p.vendor stored.vendor fits) few stored.amount.size

credit_reads : (n : ℕ) (o : Option CardPayment) → IfSome o IsStoredCard → none_or is_card o ≡ true → InBoth IsCardPayment (option_map (credit_line n) o) o
unfolding is_card
credit_reads n None stored fits = tt
credit_reads n (Some p) stored fits =
    let fields = credit_fields p.vendor stored.vendor fits in
    record {
      amount = form_line-reads n Credit _ p.amount p.vendor fields stored.amount.size;
      vendor = form_line-vendor n Credit _ p.amount p.vendor fields;
    }

exchange_stands : (n : ℕ) (o : Option ℤ) → n < 10 ^ 6 → IfSome o IsStoredAmount → IfSome (option_map (exchange_line n) o) (IsForm n Exchange)
exchange_stands n None few stored = tt
exchange_stands n (Some amount) few stored = form_line-stands n Exchange _ amount _ exchange_fields few stored.size

exchange_reads : (n : ℕ) (o : Option ℤ) → IfSome o IsStoredAmount → InBoth IsPayment (option_map (exchange_line n) o) o
exchange_reads n None stored = tt
exchange_reads n (Some amount) stored = form_line-reads n Exchange _ amount _ exchange_fields stored.size

-- ---- the body, by the code

is_some-map : {A B : Type 0} (f : A → B) (o : Option A) → is_some (option_map f o) ≡ is_some o
is_some-map f None = refl
is_some-map f (Some x) = refl

none-map : {A B : Type 0} (f : A → B) (o : Option A) → is_some o ≡ false → option_map f o ≡ None
none-map f None h = refl
none-map f (Some x) h = absurd (cc h)

paid : (n : ℕ) (t : Transaction) → n < 10 ^ 6 → IsStored t → Facts t → is_some t.amounts ≡ true → (is_some t.cash || is_some t.credit || is_some t.exchange) ≡ true → IsPaid n (group_of n t)
paid n t few stored facts amounts some = record {
  amounts = amounts_stand n t.amounts few stored.amounts facts.amounts amounts;
  cash = cash_stands n t.cash few stored.cash;
  credit = credit_stands n t.credit few stored.credit facts.credit;
  exchange = exchange_stands n t.exchange few stored.exchange;
  some =
      elim (or_cases (is_some t.cash || is_some t.credit) (is_some t.exchange) some) [
        | inl front ↦ (elim (or_cases (is_some t.cash) (is_some t.credit) front) [
          | inl cash ↦ inl (is_some-map (cash_line n) t.cash ∙ cash)
          | inr credit ↦ inr (inl (is_some-map (credit_line n) t.credit ∙ credit))
        ])
        | inr exchange ↦ inr (inr (is_some-map (exchange_line n) t.exchange ∙ exchange))
      ];
}

same_from : (related exchange : Bool) → (if exchange then related else not related) ≡ true → related ≡ exchange
same_from related true same = same
same_from related false same = not-true related same

some_related : (n : ℕ) (related second : Option (List ℕ)) → AreRelated n related second → is_some related ≡ true → IsSomeAnd related (IsRecord 51 n related_fits)
some_related n None second are some = absurd (cc some)
some_related n (Some line) None are some = are
some_related n (Some line) (Some second) are some = are.0

-- without an exchange there is no second document
no_second : (exchange : Bool) (first second : Option ReportedDocument) → AreOrdered exchange first second → exchange ≡ false → is_some second ≡ false
no_second exchange first None ordered none = refl
no_second exchange (Some d) (Some e) ordered none = absurd (cc (ordered.0, none))
no_second exchange None (Some e) ordered none = absurd ordered

body : (n : ℕ) (t : Transaction) (code : TransactionCode) → n < 10 ^ 6 → IsStored t → Facts t → has_parts code (is_some (related_of t)) (is_some t.amounts) (is_some t.cash) (is_some t.credit) (is_some t.exchange) ≡ true → HasBody n (group_of n t) (Some code)
unfolding has_parts
body n t Tktt few stored facts parts =
    let forms = is_some t.cash || is_some t.credit || is_some t.exchange in
    let matches = if is_some t.exchange then is_some (related_of t) else not (is_some (related_of t)) in
    let both = and_parts (is_some t.amounts && forms) matches parts in
    let front = and_parts (is_some t.amounts) forms both.0 in
    let same = is_some-map (related_line n) (related_of t) ∙ same_from (is_some (related_of t)) (is_some t.exchange) both.1 ∙ sym (is_some-map (exchange_line n) t.exchange) in
    (all_related_stand n t few stored facts.related, same, paid n t few stored facts front.0 front.1)
body n t Rfnd few stored facts parts =
    let related = is_some (related_of t) in
    let forms = is_some t.cash || is_some t.credit in
    let third = and_parts (related && is_some t.amounts && forms) (not (is_some t.exchange)) parts in
    let second = and_parts (related && is_some t.amounts) forms third.0 in
    let first = and_parts related (is_some t.amounts) second.0 in
    let some : (forms || is_some t.exchange) ≡ true = rw second.1 refl in
    let none = not-true (is_some t.exchange) third.1 in (
      some_related n (group_of n t).related (group_of n t).second (all_related_stand n t few stored facts.related) (is_some-map (related_line n) (related_of t) ∙ first.0),
      none-map (related_line n) (second_of t) (no_second (is_some t.exchange) (related_of t) (second_of t) facts.related.ordered none),
      none-map (exchange_line n) t.exchange none,
      paid n t few stored facts first.1 some,
    )
body n t Canx few stored facts parts =
    let related = is_some (related_of t) in
    let all = related || is_some t.amounts || is_some t.cash || is_some t.credit || is_some t.exchange in
    let fourth = or_parts (related || is_some t.amounts || is_some t.cash || is_some t.credit) (is_some t.exchange) (not-true all parts) in
    let third = or_parts (related || is_some t.amounts || is_some t.cash) (is_some t.credit) fourth.0 in
    let second = or_parts (related || is_some t.amounts) (is_some t.cash) third.0 in
    let first = or_parts related (is_some t.amounts) second.0 in (
      none-map (related_line n) (related_of t) first.0,
      none-map (related_line n) (second_of t) (no_second (is_some t.exchange) (related_of t) (second_of t) facts.related.ordered fourth.1),
      none-map (amounts_line n) t.amounts first.1,
      rw (none-map (cash_line n) t.cash second.1, none-map (credit_line n) t.credit third.1, none-map (exchange_line n) t.exchange fourth.1) refl,
    )

-- ---- the group

-- values that make a group are the content of the lines that are written for them
pub written_group : (n : ℕ) (t : Transaction) → IsStored t → is_group_values t ≡ true → n < 10 ^ 6 → HasContent n (group_lines n t) t
written_group n t stored fits few =
    let facts = facts_from t stored.places fits in
    let code = sale_line-code n t stored facts.sale in
    let c = sale_line-columns n t stored facts.sale in
    let Body : Option TransactionCode → Type 0 = λ o. HasBody n (group_of n t) o in
    let Related : List (Option ReportedDocument) → Type 0 = λ places. HasRelatedValues (group_of n t).related (group_of n t).second places in
    let first = related_reads n (related_of t) (stored_first t.related stored.related) facts.related.first in
    let second = related_reads n (second_of t) (stored_second t.related stored.related) facts.related.second in
    record {
      is = record {
        group = group_of n t;
        lines_are = refl;
        sale = sale_line-stands n t stored facts.sale few;
        body = subst Body (sym code) (body n t t.code few stored facts facts.parts);
      };
      content = record {
        code = code;
        agent = sym c.agent_at;
        document = sale_line-document n t stored facts.sale;
        issued = sale_line-issued n t stored facts.sale;
        passenger = sym c.passenger_at;
        related = subst Related (sym facts.related.two) (first, second);
        amounts = amounts_read n t.amounts stored.amounts facts.amounts;
        cash = cash_reads n t.cash stored.cash;
        credit = credit_reads n t.credit stored.credit facts.credit;
        exchange = exchange_reads n t.exchange stored.exchange;
      };
    }
