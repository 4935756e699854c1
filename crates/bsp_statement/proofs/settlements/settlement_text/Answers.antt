use Rattle.std.proofs.Common.{◌++◌, ◌∙◌, List, ℕ, ap, string_bytes}
use Rattle.std.specs.Prelude.{ℤ}
use Rattle.std.specs.Int.{w128}
use Rattle.std.proofs.lemmas.Int.{to_z-of_z}
use Rattle.bsp_statement.specs.Texts.{period_text, settlement_lines}
use Rattle.bsp_statement.proofs.PieceLemmas.{pieces2}
use Rattle.bsp_statement.proofs.settlements.settlement_text.Goals as goal

pub returns : goal.returns
returns c =
    let start = string_bytes c.in_ok-text.text in
    let line = string_bytes c.push_period.new.out in
    let of_period = period_text c.args.period.now.code c.args.period.now.remittance c.args.currency in
    let sides = settlement_lines c.args.agents.now c.args.airlines.now c.args.total in
    pieces2 start of_period sides line _ c.in_ok-push_period.ensures
    (c.in_ok-push_sides.ensures ∙ ap (λ (n : ℤ). line ++ settlement_lines c.args.agents.now c.args.airlines.now n) (to_z-of_z w128 c.args.total c.ranges.total))
    ∙ ap (λ (l : List ℕ). l ++ (of_period ++ sides)) c.in_ok-text.ensures.ok
