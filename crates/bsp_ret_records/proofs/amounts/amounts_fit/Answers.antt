use Rattle.std.proofs.Common.{◌≡◌, ◌&&◌, refl, sym, ap, ◌∙◌}
use Rattle.std.specs.List.{list_all}
use Rattle.bsp_fields.specs.Columns.{columns, is_space}
use Rattle.bsp_fields.specs.Fields.{is_amount, spells_at_most}
use Rattle.bsp_ret_records.specs.Records.{fare, rate, commission, amounts_fit}
use Rattle.bsp_fields.proofs.TaxPlaces.{rest_fits, rest_fits-first}
use Rattle.bsp_ret_records.proofs.AmountTests.{asked, spared, amounts_fit-parts}
use Rattle.bsp_ret_records.proofs.amounts.amounts_fit.Goals as goal
use Rattle.bsp_ret_records.proofs.amounts.amounts_fit.Goals.{Joined-spells_at_most, then-is_amount, else-is_amount, then-taxes_fit, else-taxes_fit, then-spells_at_most, else-spells_at_most}

-- the record's fields are the first four, and spaces behind them
parts : (c : Joined-spells_at_most) → amounts_fit c.args.line.now ≡ (c.if-spells_at_most.value && list_all is_space (columns 113 136 c.args.line.now))
parts c =
    let line = c.args.line.now in
    let first : c.if-is_amount.value ≡ (is_amount (fare line) && rest_fits line 0 0) =
    elim c.if-is_amount.branch [
      | then-is_amount w ↦ asked _ _ _ _ w.if-is_amount.true (c.is_amount.ensures ∙ ap is_amount c.fare.ensures) (w.value-is ∙ w.taxes_fit.ensures ∙ sym (rest_fits-first line))
      | else-is_amount w ↦ spared _ _ _ _ w.if-is_amount.false (c.is_amount.ensures ∙ ap is_amount c.fare.ensures) w.value-is
    ] in
    let second : c.if-taxes_fit.value ≡ (c.if-is_amount.value && spells_at_most 10000 (rate line)) =
    elim c.if-taxes_fit.branch [
      | then-taxes_fit w ↦ asked _ _ _ _ w.if-taxes_fit.true refl (w.value-is ∙ w.spells_at_most.ensures ∙ ap (spells_at_most 10000) w.rate.ensures.columns)
      | else-taxes_fit w ↦ spared _ _ _ _ w.if-taxes_fit.false refl w.value-is
    ] in
    let third : c.if-spells_at_most.value ≡ (c.if-taxes_fit.value && is_amount (commission line)) =
    elim c.if-spells_at_most.branch [
      | then-spells_at_most w ↦ asked _ _ _ _ w.if-spells_at_most.true refl (w.value-is ∙ w.is_amount-then-spells_at_most.ensures ∙ ap is_amount w.commission.ensures)
      | else-spells_at_most w ↦ spared _ _ _ _ w.if-spells_at_most.false refl w.value-is
    ] in
    amounts_fit-parts line _ _ _ first second third

pub returns-then-is_amount-2 : goal.returns-then-is_amount-2
returns-then-is_amount-2 c =
    asked _ _ _ _ c.if-is_amount-2.true refl c.all_spaces.ensures ∙ sym (parts (goal.at.returns-then-is_amount-2 c).Joined-spells_at_most)

pub returns-else-is_amount-2 : goal.returns-else-is_amount-2
returns-else-is_amount-2 c =
    spared _ _ _ _ c.if-is_amount-2.false refl refl ∙ sym (parts (goal.at.returns-else-is_amount-2 c).Joined-spells_at_most)
