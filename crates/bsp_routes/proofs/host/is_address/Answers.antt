use Rattle.std.proofs.Common.{sym, ◌∙◌}
use Rattle.bsp_routes.proofs.HostLemmas.{known, by_grammar}
use Rattle.bsp_routes.proofs.host.is_address.Goals as goal

pub returns-clause-value : goal.returns-clause-value
returns-clause-value c = c.is_ok.ensures.value ∙ known c.args.text.now c.parse_ascii.result c.parse_ascii.ensures

pub returns-clause-grammar : goal.returns-clause-grammar
returns-clause-grammar c =
    let both = by_grammar c.args.text.now c.parse_ascii.result c.parse_ascii.ensures in
    (λ is. both.0 (sym c.is_ok.ensures.value ∙ is), λ is. c.is_ok.ensures.value ∙ both.1 is)
