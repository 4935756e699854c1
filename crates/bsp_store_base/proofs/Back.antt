-- What is read back of the rows of an item is the item.
use Rattle.bsp_store_base.proofs.Std.{[], ◌%◌, ◌&&◌, ◌/◌, ◌<◌, ◌==◌, ◌^◌, ◌∙◌, ◌∷◌, ◌≡◌, ◌≤◌, all_ascii_digits, and_parts, ap, arith, eqb-true, false, IfSome, leb-true, length, List, list_any, nat_le, None, not, not-false, Ok, Option, or_parts, slice_index_or, Some, subst, sym, true, ℕ}
use Rattle.bsp_fields.specs.Codes.{agent_reading, check_digit_of, code_reading, document_reading}
use Rattle.bsp_fields.specs.Decimal.{number_of, fixed_digits}
use Rattle.bsp_fields.specs.declared.fault.FieldFault.TheVariants.{Width, NotDigit, CheckDigit}
use Rattle.bsp_fields.proofs.CodeLemmas.{code_reading-fixed_digits}
use Rattle.bsp_fields.proofs.DocumentLemmas.{reads_without_fault}
use Rattle.bsp_fields.proofs.DecimalLemmas.{number_of-lt, fixed_digits-number_of}
use Rattle.bsp_fields.proofs.FirstFaultLemmas.{row_passed, value_told}
use Rattle.bsp_rows.specs.Values.{none_or}
use Rattle.bsp_rows.specs.Transaction.{Transaction}
use Rattle.bsp_store_base.specs.Entries.{Amounts, is_wrong_place, IsRight, Item, ItemKey, ReportedDocument}
use Rattle.bsp_ret_writer.specs.GroupValues.{are_taxes, are_amounts, second_of}
use Rattle.bsp_ret_writer.specs.Stored.{InEach, IsStoredAmounts, IsStoredDocument}
use Rattle.bsp_ret_writer.proofs.WrittenGroup.{facts_from}
use Rattle.bsp_store_base.proofs.Base.{IsItemEntry, IsTaxEntry, tax_with}
use Rattle.bsp_store_columns.specs.BareItems.{bare_of, IsBareItem, IsWholeItem, item_of}
use Rattle.bsp_store_columns.specs.Tickets.{IsCheckedDocument}

-- ---- codes

-- an agent's eight digits
spelled_agent : (text : List ℕ) (agent : ℕ) → agent_reading text ≡ Ok agent → fixed_digits 8 agent ≡ text
spelled_agent text agent reads =
    let n = number_of text in
    let wide = row_passed (not (length text == 8)) Width ((not (all_ascii_digits text), NotDigit) ∷ (not (n % 10 == check_digit_of (n / 10)), CheckDigit) ∷ []) n agent reads in
    let digit = row_passed (not (all_ascii_digits text)) NotDigit ((not (n % 10 == check_digit_of (n / 10)), CheckDigit) ∷ []) n agent wide.1 in
    let is : n ≡ agent = value_told n agent (row_passed (not (n % 10 == check_digit_of (n / 10))) CheckDigit [] n agent digit.1).1 in
    subst (λ m. fixed_digits 8 m ≡ text) is (fixed_digits-number_of 8 text (eqb-true _ _ (not-false _ wide.0)) (not-false _ digit.0))

-- a document's ten digits, of this number, with their check digit
record IsChecked (text : List ℕ) (check number : ℕ) : Type 0 where
  fits : number < 10 ^ 10
  spelled : fixed_digits 10 number ≡ text
  checked : check ≡ check_digit_of number

is_checked : (text : List ℕ) (check number : ℕ) → document_reading text check ≡ Ok number → IsChecked text check number
is_checked text check number reads =
    let n = number_of text in
    let wide = row_passed (not (length text == 10)) Width ((not (all_ascii_digits text), NotDigit) ∷ (not (check == check_digit_of n), CheckDigit) ∷ []) n number reads in
    let digit = row_passed (not (all_ascii_digits text)) NotDigit ((not (check == check_digit_of n), CheckDigit) ∷ []) n number wide.1 in
    let last = row_passed (not (check == check_digit_of n)) CheckDigit [] n number digit.1 in
    let is : n ≡ number = value_told n number last.1 in
    let ten : length text ≡ 10 = eqb-true _ _ (not-false _ wide.0) in
    let digits = not-false _ digit.0 in
    record {
      fits = subst (λ m. m < 10 ^ 10) is (number_of-lt text 10 digits (omega (arith, ten)));
      spelled = subst (λ m. fixed_digits 10 m ≡ text) is (fixed_digits-number_of 10 text ten digits);
      checked = eqb-true _ _ (not-false _ last.0) ∙ ap check_digit_of is;
    }

-- a document whose number has its check digit
pub document_checked : (d : ReportedDocument) → is_wrong_place (Some d) ≡ false → IsCheckedDocument d
document_checked d right =
    let n = number_of d.number in
    let is = is_checked d.number d.check_digit n (reads_without_fault d.number d.check_digit right) in
    record { number = n; reads = subst (λ t. code_reading 10 t ≡ Ok n) is.spelled (code_reading-fixed_digits 10 n is.fits); is_checked = is.checked }

-- the tax of an item that is formed
pub tax_formed : (e : ItemKey × Item) → IsItemEntry e → IsTaxEntry (e.0, tax_with e.1)
tax_formed e formed = (formed.agent, formed.number, formed.tax, formed.hundredths)

-- ---- what may be left out

rate_fits : (a : Amounts) → are_amounts a ≡ true → (are_taxes 0 a.taxes ≡ true) × (a.rate < 2 ^ 16)
unfolding are_amounts
rate_fits a fits =
    let parts = and_parts (are_taxes 0 a.taxes) (nat_le a.rate 10000) fits in
    let few : a.rate ≤ 10000 = leb-true a.rate 10000 parts.1 in
    (parts.0, omega (arith, few))

amounts_fit : (o : Option Amounts) → IfSome o IsStoredAmounts → none_or are_amounts o ≡ true → IfSome o (λ a. IsStoredAmounts a × (are_taxes 0 a.taxes ≡ true) × (a.rate < 2 ^ 16))
amounts_fit None stored fits = tt
amounts_fit (Some a) stored fits = let rate = rate_fits a fits in (stored, rate.0, rate.1)

checked_place : (places : List (Option ReportedDocument)) → list_any is_wrong_place places ≡ false → IfSome (slice_index_or places 0 None) IsCheckedDocument
checked_place [] right = tt
checked_place (None ∷ others) right = tt
checked_place (Some d ∷ others) right = document_checked d (or_parts (is_wrong_place (Some d)) (list_any is_wrong_place others) right).0

stored_place : (places : List (Option ReportedDocument)) → InEach IsStoredDocument places → IfSome (slice_index_or places 0 None) IsStoredDocument
stored_place [] stored = tt
stored_place (first ∷ others) stored = stored.0

-- ---- an entry

module _ (k : ItemKey) (i : Item) (formed : IsItemEntry (k, i)) (right : IsRight k i) where
  abbrev t : Transaction
  t = i.transaction

  agent_is : i.agent ≡ k.agent
  agent_is = ap (λ (key : ItemKey). key.agent) right.keyed

  number_is : number_of t.document.number ≡ k.number
  number_is = ap (λ (key : ItemKey). key.number) right.keyed

  pub bare_formed : IsBareItem (bare_of (k, i))
  bare_formed =
      let stored = formed.stored in (
        formed.agent,
        formed.number,
        stored.document.airline,
        stored.issued,
        formed.period,
        stored.passenger,
        amounts_fit t.amounts stored.amounts (facts_from t stored.places right.group).amounts,
        stored_place t.related stored.related,
        stored.cash,
        stored.credit,
        stored.exchange,
      )

  pub bare_whole : IsWholeItem (bare_of (k, i))
  bare_whole = checked_place t.related right.checked

  -- a right item is read back, with its tax and its second document
  pub item_back : item_of (bare_of (k, i)) (tax_with i) (second_of t) ≡ i
  item_back =
      let own = is_checked t.document.number t.document.check_digit _ right.numbered in
      let number : fixed_digits 10 k.number ≡ t.document.number = subst (λ n. fixed_digits 10 n ≡ t.document.number) number_is own.spelled in
      let check : check_digit_of k.number ≡ t.document.check_digit = ap check_digit_of (sym number_is) ∙ sym own.checked in
      let agent : fixed_digits 8 k.agent ≡ t.agent = ap (fixed_digits 8) (sym agent_is) ∙ spelled_agent t.agent i.agent right.bears in
      let two = sym (facts_from t formed.stored.places right.group).related.two in
      λ j. record i {
        agent = (sym agent_is) j;
        transaction = record t { agent = agent j; document = record { airline = t.document.airline; number = number j; check_digit = check j }; related = two j };
      }
