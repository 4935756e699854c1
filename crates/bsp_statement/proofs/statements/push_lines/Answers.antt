use Rattle.std.proofs.Common.{◌≡◌, ◌∙◌, ap, ◌++◌, List, ℕ, string_bytes}
use Rattle.std.specs.Prelude.{codes}
use Rattle.std.specs.List.{flat_map}
use Rattle.std.proofs.lemmas.Result.{on_ok_weaker}
use Rattle.bsp_fields.specs.Decimal.{fixed_digits}
use Rattle.bsp_statement.specs.declared.figures.Figures.{Figures}
use Rattle.bsp_statement.specs.Postings.{of_airline}
use Rattle.bsp_statement.specs.Sums.{figures_of}
use Rattle.bsp_statement.specs.Texts.{airline_line, figures_line, heading}
use Rattle.bsp_statement.proofs.PieceLemmas.{flat_map_map, pieces3}
use Rattle.bsp_statement.proofs.statements.push_lines.Goals as goal

pub returns : goal.returns
returns c =
    let rows = c.args.postings.now in
    let grouped = c.in_ok-sums.ensures in
    let taxed = c.args.taxed in
    let line = λ (e : ℕ × Figures). figures_line taxed (fixed_digits 3 e.0) e.1 in
    let lines : flat_map line c.in_ok-sums.sums.entries ≡ flat_map (airline_line taxed rows) grouped.codes =
    ap (λ (es : List (ℕ × Figures)). flat_map line es) grouped.entries_are ∙ flat_map_map line (λ code. (code, figures_of (of_airline code rows))) grouped.codes in
    let before_lines = string_bytes c.push_heading.new.out in
    let before_total = string_bytes c.push_airlines.new.out in
    on_ok_weaker c.push_figures.result
    (λ last. (
      grouped.codes,
      grouped.are,
      pieces3 (string_bytes c.args.out.now) (heading taxed) (flat_map (airline_line taxed rows) grouped.codes) (figures_line taxed (codes "TOT") (figures_of rows)) before_lines before_total (string_bytes c.push_figures.new.out)
          c.in_ok-push_heading.ensures
          (c.in_ok-push_airlines.ensures ∙ ap (λ (ls : List ℕ). before_lines ++ ls) lines)
          (last ∙ ap (λ (f : Figures). before_total ++ figures_line taxed (codes "TOT") f) c.total.ensures),
    ))
    c.push_figures.ensures
