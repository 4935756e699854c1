use Rattle.std.proofs.Common.{ap, sym, ◌∙◌, subst}
use Rattle.std.specs.Char.{eq_ignore_ascii_case}
use Rattle.std.specs.Cmp.Lexicographic.{pointwise}
use Rattle.httparse.specs.Spans.{header_bytes}
use Rattle.bsp_routes.specs.Fields.{values}
use Rattle.bsp_routes.specs.Found.{IsFound}
use Rattle.bsp_routes.proofs.FieldLemmas.{named}
use Rattle.bsp_routes.proofs.fields.and_named.Goals as goal

pub returns-then-is_same : goal.returns-then-is_same
returns-then-is_same c =
    let text = c.args.text.now in
    let name = c.args.name.now in
    λ before is. subst (λ vs. IsFound text vs c.and.result) (sym (named before (header_bytes text c.args.header.now) name (sym (c.is_same.ensures ∙ ap (λ xs. pointwise eq_ignore_ascii_case xs name) c.of.ensures) ∙ c.if-is_same.true))) (c.and.ensures text (values name before) is c.requires.1)
