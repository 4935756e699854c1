use Rattle.std.proofs.Common.{◌≡◌, ℕ, Bool, true, false, List, length, Some, None, Result, Ok, Err, MatchResult, refl, sym, ap, subst, ◌∙◌, rules, tests}
use Rattle.std.specs.Array.{IsWholeChunk}
use Rattle.std.specs.Char.{is_ascii_uppercase}
use Rattle.std.specs.List.{list_all}
use Rattle.std.specs.Result.{result_ok}
use Rattle.std.proofs.lemmas.Iterator.{YieldsList-from_slice}
use Rattle.std.proofs.lemmas.Iterator.Search.{all_from_yields_List}
use Rattle.std.proofs.lemmas.Option.{none-some, same_Some}
use Rattle.bsp_calendar.specs.Letters.{are_letters, currency_reading}
use Rattle.bsp_calendar.proofs.currency.Currency.read.Goals as goal

-- an array that was made of a text
whole : {E : Type 0} (text letters : List ℕ) (made : Result (List ℕ) E) → MatchResult made (λ array. IsWholeChunk text array 3) (λ _. length text ≡ 3 → ⊥) → result_ok made ≡ Some letters → IsWholeChunk text letters 3
whole text letters (Ok array) h is = subst (λ (xs : List ℕ). IsWholeChunk text xs 3) (same_Some array letters is) h
whole text letters (Err e) h is = absurd (none-some letters is)

-- a text of three, by whether each of them is a letter
read : (text letters : List ℕ) (tested : Bool) → IsWholeChunk text letters 3 → tested ≡ list_all is_ascii_uppercase letters → are_letters text ≡ tested
read text letters tested h is = rw h.same at (sym is)

named : (text letters : List ℕ) → IsWholeChunk text letters 3 → are_letters text ≡ true → Some letters ≡ currency_reading text
named text letters h are = rw (h.long, are) (ap (λ (xs : List ℕ). Some xs) h.same)

unnamed : (text letters : List ℕ) → IsWholeChunk text letters 3 → are_letters text ≡ false → None ≡ currency_reading text
unnamed text letters h are = rw (h.long, are) refl

pub invariant_of-result : goal.invariant_of-result
invariant_of-result c =
    let letters = c.in_ok-letters.letters in
    let h = whole c.args.text.now letters c.try_from.result c.try_from.ensures.1 (sym c.ok.ensures.value ∙ c.in_ok-letters.was) in
    let tested = all_from_yields_List is_ascii_uppercase _ _ c.all.result c.all.ensures.ran (YieldsList-from_slice letters cc) (λ x b q k. search (rules, tests)) in
    (ap length h.same ∙ h.long, sym tested ∙ c.if-all.true)

pub returns-then-all : goal.returns-then-all
returns-then-all c =
    let letters = c.in_ok-letters.letters in
    let h = whole c.args.text.now letters c.try_from.result c.try_from.ensures.1 (sym c.ok.ensures.value ∙ c.in_ok-letters.was) in
    let tested = all_from_yields_List is_ascii_uppercase _ _ c.all.result c.all.ensures.ran (YieldsList-from_slice letters cc) (λ x b q k. search (rules, tests)) in
    named c.args.text.now letters h (read c.args.text.now letters c.all.result h tested ∙ c.if-all.true)

pub returns-else-all : goal.returns-else-all
returns-else-all c =
    let letters = c.in_ok-letters.letters in
    let h = whole c.args.text.now letters c.try_from.result c.try_from.ensures.1 (sym c.ok.ensures.value ∙ c.in_ok-letters.was) in
    let tested = all_from_yields_List is_ascii_uppercase _ _ c.all.result c.all.ensures.ran (YieldsList-from_slice letters cc) (λ x b q k. search (rules, tests)) in
    unnamed c.args.text.now letters h (read c.args.text.now letters c.all.result h tested ∙ c.if-all.false)
