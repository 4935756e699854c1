use Rattle.std.proofs.Common.{◌∙◌, ap, length, map, sym}
use Rattle.std.proofs.lemmas.Bool.{false≢true}
use Rattle.std.proofs.lemmas.Option.{none-some, same_Some}
use Rattle.std.specs.List.{concat}
use Rattle.bsp_rows.specs.Writing.{tax_text}
use Rattle.bsp_store_columns.specs.TaxPlaces.{taxes_in}
use Rattle.bsp_store_columns.proofs.TaxPlaces.{six_places}
use Rattle.bsp_store_columns.proofs.tax_places.written_taxes.Goals as goal

pub returns-then-text-ne78-clause-back : goal.returns-then-text-ne78-clause-back
returns-then-text-ne78-clause-back c = λ taxes six stored fit is. absurd (c.if-text-ne78.true (ap length is ∙ (six_places taxes six stored fit).0))

pub returns-in_err-taxes-clause-back : goal.returns-in_err-taxes-clause-back
returns-in_err-taxes-clause-back c = λ taxes six stored fit is. absurd (none-some _ (sym c.in_err-taxes.was ∙ c.taxes_of.ensures ∙ ap (taxes_in 6) is ∙ (six_places taxes six stored fit).1))

pub returns-then-not-is_text_of-clause-back : goal.returns-then-not-is_text_of-clause-back
returns-then-not-is_text_of-clause-back c = λ taxes six stored fit is.
    let read = sym c.in_ok-taxes.was ∙ c.taxes_of.ensures ∙ ap (taxes_in 6) is ∙ (six_places taxes six stored fit).1 in
    let same = same_Some c.in_ok-taxes.taxes taxes read in
    absurd (false≢true (sym c.if-not-is_text_of.true ∙ c.is_text_of.ensures.1 (is ∙ ap (λ l. concat (map tax_text l)) (sym same))))

pub returns-clause-back : goal.returns-clause-back
returns-clause-back c = λ taxes six stored fit is. sym c.in_ok-taxes.was ∙ c.taxes_of.ensures ∙ ap (taxes_in 6) is ∙ (six_places taxes six stored fit).1
