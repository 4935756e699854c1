use Rattle.std.proofs.Common.{◌∙◌, ◌∷◌, ◌≡◌, ap, drop, List, None, Option, Some, suc, sym, take, ℕ}
use Rattle.std.specs.Prelude.{option_and_then, option_map}
use Rattle.bsp_rows.specs.Tax.{Tax}
use Rattle.bsp_store_columns.specs.TaxPlaces.{tax_in, taxes_in}
use Rattle.bsp_store_columns.proofs.tax_places.taxes_of.Goals as goal

abbrev with_first : ℕ → List ℕ → Option Tax → Option (List (Option Tax))
with_first n text tax = option_map (λ taxes. tax ∷ taxes) (taxes_in n (drop 13 text))

-- the first place cannot be read
stops : (n : ℕ) (text : List ℕ) → tax_in (take 13 text) ≡ None → taxes_in (suc n) text ≡ None
stops n text none = ap (option_and_then (with_first n text)) none

-- the first place is read, and then those behind it
goes_on : (n : ℕ) (text next : List ℕ) (tax : Option Tax) (rest : Option (List (Option Tax))) → tax_in (take 13 text) ≡ Some tax → next ≡ drop 13 text → taxes_in n next ≡ rest
    → taxes_in (suc n) text ≡ option_map (λ taxes. tax ∷ taxes) rest
goes_on n text next tax rest first is there = ap (option_and_then (with_first n text)) first ∙ ap (option_map (λ taxes. tax ∷ taxes)) (ap (taxes_in n) (sym is) ∙ there)

pub returns-in_err-first : goal.returns-in_err-first
returns-in_err-first c = c.from_residual.ensures ∙ sym (stops 5 c.args.text.now (sym c.first_tax.ensures ∙ c.in_err-first.was))

pub returns-in_err-second : goal.returns-in_err-second
returns-in_err-second c = c.from_residual-in_err-second.ensures ∙ sym (goes_on 5 c.args.text.now _ _ _ (sym c.first_tax.ensures ∙ c.in_ok-first.was) c.behind-text.ensures.value (stops 4 c.behind-text.result.now (sym c.first_tax-2.ensures ∙ c.in_err-second.was)))

pub returns-in_err-third : goal.returns-in_err-third
returns-in_err-third c = c.from_residual-in_err-third.ensures ∙ sym (goes_on 5 c.args.text.now _ _ _ (sym c.first_tax.ensures ∙ c.in_ok-first.was) c.behind-text.ensures.value (goes_on 4 c.behind-text.result.now _ _ _ (sym c.first_tax-2.ensures ∙ c.in_ok-second.was) c.behind-text-2.ensures.value (stops 3 c.behind-text-2.result.now (sym c.first_tax-3.ensures ∙ c.in_err-third.was))))

pub returns-in_err-fourth : goal.returns-in_err-fourth
returns-in_err-fourth c = c.from_residual-in_err-fourth.ensures ∙ sym (goes_on 5 c.args.text.now _ _ _ (sym c.first_tax.ensures ∙ c.in_ok-first.was) c.behind-text.ensures.value (goes_on 4 c.behind-text.result.now _ _ _ (sym c.first_tax-2.ensures ∙ c.in_ok-second.was) c.behind-text-2.ensures.value (goes_on 3 c.behind-text-2.result.now _ _ _ (sym c.first_tax-3.ensures ∙ c.in_ok-third.was) c.behind-text-3.ensures.value (stops 2 c.behind-text-3.result.now (sym c.first_tax-4.ensures ∙ c.in_err-fourth.was)))))

pub returns-in_err-fifth : goal.returns-in_err-fifth
returns-in_err-fifth c = c.from_residual-in_err-fifth.ensures ∙ sym (goes_on 5 c.args.text.now _ _ _ (sym c.first_tax.ensures ∙ c.in_ok-first.was) c.behind-text.ensures.value (goes_on 4 c.behind-text.result.now _ _ _ (sym c.first_tax-2.ensures ∙ c.in_ok-second.was) c.behind-text-2.ensures.value (goes_on 3 c.behind-text-2.result.now _ _ _ (sym c.first_tax-3.ensures ∙ c.in_ok-third.was) c.behind-text-3.ensures.value (goes_on 2 c.behind-text-3.result.now _ _ _ (sym c.first_tax-4.ensures ∙ c.in_ok-fourth.was) c.behind-text-4.ensures.value (stops 1 c.behind-text-4.result.now (sym c.first_tax-5.ensures ∙ c.in_err-fifth.was))))))

pub returns-in_err-sixth : goal.returns-in_err-sixth
returns-in_err-sixth c = c.from_residual-in_err-sixth.ensures ∙ sym (goes_on 5 c.args.text.now _ _ _ (sym c.first_tax.ensures ∙ c.in_ok-first.was) c.behind-text.ensures.value (goes_on 4 c.behind-text.result.now _ _ _ (sym c.first_tax-2.ensures ∙ c.in_ok-second.was) c.behind-text-2.ensures.value (goes_on 3 c.behind-text-2.result.now _ _ _ (sym c.first_tax-3.ensures ∙ c.in_ok-third.was) c.behind-text-3.ensures.value (goes_on 2 c.behind-text-3.result.now _ _ _ (sym c.first_tax-4.ensures ∙ c.in_ok-fourth.was) c.behind-text-4.ensures.value (goes_on 1 c.behind-text-4.result.now _ _ _ (sym c.first_tax-5.ensures ∙ c.in_ok-fifth.was) c.behind-text-5.ensures.value (stops 0 c.behind-text-5.result.now (sym c.first_tax-6.ensures ∙ c.in_err-sixth.was)))))))

pub returns : goal.returns
returns c = sym (goes_on 5 c.args.text.now _ _ _ (sym c.first_tax.ensures ∙ c.in_ok-first.was) c.behind-text.ensures.value (goes_on 4 c.behind-text.result.now _ _ _ (sym c.first_tax-2.ensures ∙ c.in_ok-second.was) c.behind-text-2.ensures.value (goes_on 3 c.behind-text-2.result.now _ _ _ (sym c.first_tax-3.ensures ∙ c.in_ok-third.was) c.behind-text-3.ensures.value (goes_on 2 c.behind-text-3.result.now _ _ _ (sym c.first_tax-4.ensures ∙ c.in_ok-fourth.was) c.behind-text-4.ensures.value (goes_on 1 c.behind-text-4.result.now _ _ _ (sym c.first_tax-5.ensures ∙ c.in_ok-fifth.was) c.behind-text-5.ensures.value (ap (option_and_then (with_first 0 c.behind-text-5.result.now)) (sym c.first_tax-6.ensures ∙ c.in_ok-sixth.was)))))))
