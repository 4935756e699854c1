use Rattle.std.proofs.Common.{◌++◌, ◌∙◌, List, ℕ, ap, refl, string_bytes}
use Rattle.std.specs.List.{flat_map}
use Rattle.bsp_fields.specs.Decimal.{fixed_digits}
use Rattle.bsp_statement.specs.declared.figures.Figures.{Figures}
use Rattle.bsp_statement.specs.Texts.{figures_line}
use Rattle.bsp_statement.proofs.PieceLemmas.{line_next, none_ahead}
use Rattle.bsp_statement.proofs.statements.push_airlines.Goals as goal

pub loop-airline-preserved : goal.loop-airline-preserved
loop-airline-preserved c =
    let line = λ (e : ℕ × Figures). figures_line c.args.taxed (fixed_digits 3 e.0) e.1 in
    let figures = c.in-Some.figures.now in
    let before = string_bytes c.loop-airline.out in
    line_next line (c.in-Some.airline.now, figures) c.loop-airline.airline-iterator c.next.new.self before (string_bytes c.push_figures.new.out) (string_bytes c.args.out.now ++ flat_map line c.args.sums.now.entries) c.in-Some.ensures.steps
    (c.in_ok-push_figures.ensures ∙ ap (λ (name : List ℕ). before ++ figures_line c.args.taxed name figures) (c.as_str.ensures.value ∙ c.in_ok-name.ensures.ok)) c.loop-airline.invariant

pub returns : goal.returns
returns c =
    let line = λ (e : ℕ × Figures). figures_line c.args.taxed (fixed_digits 3 e.0) e.1 in
    none_ahead (flat_map line) c.loop-airline.airline-iterator (string_bytes c.loop-airline.out) (string_bytes c.args.out.now ++ flat_map line c.args.sums.now.entries) refl c.in-None.ensures.steps.0 c.loop-airline.invariant
