use Rattle.std.proofs.Common.{arith, ap, ◌∙◌, codes, inr}
use Rattle.bsp_routes.specs.Judging.{is_method}
use Rattle.bsp_routes.proofs.HeadLemmas.{is_head, judged}
use Rattle.bsp_routes.proofs.read.take_spans.Goals as goal

pub returns-in-Ok-clause-token : goal.returns-in-Ok-clause-token
returns-in-Ok-clause-token c = c.the_one.ensures.within c.args.text.now _ c.of-fields.ensures.tokens

pub returns-in-Err-clause-err : goal.returns-in-Err-clause-err
returns-in-Err-clause-err c =
    let text = c.args.text.now in
    let head = c.args.head.now in
    let headers = c.args.headers.now in
    let at = c.requires.complete in
    let few = c.requires.few in
    inr (
      at.0,
      is_head text headers head at.0 at.1 c.requires.len c.requires.short (omega (arith, few)),
      judged text headers head at.0 at.1 _ _ c.of-method.ensures (c.in-Err.ensures _ c.of-fields.ensures),
      c.is_method.ensures ∙ ap (is_method (codes "HEAD")) (c.of-method.ensures ∙ at.1.method),
    )
