use Rattle.std.proofs.Common.{◌∙◌}
use Rattle.bsp_routes.proofs.ValueLemmas.{one_taken, two_taken}
use Rattle.bsp_routes.proofs.values.first_two.Goals as goal

pub returns-in_default-next : goal.returns-in_default-next
returns-in_default-next c = λ texts.
    let x = c.in-Some.ensures.steps in
    let h = one_taken _ c.iter-values.result c.next.new.self x.0 c.in-Some.first.now c.iter-values.ensures.value x.1 x.3 c.in_default-next.ensures.steps texts in
    (c.as_bytes.ensures.value ∙ h.0, h.1)

pub returns : goal.returns
returns c = λ texts.
    let x = c.in-Some.ensures.steps in
    let y = c.in-Some-next.ensures.steps in
    let h = two_taken _ c.iter-values.result c.next.new.self c.next-2.new.self x.0 y.0 c.in-Some.first.now c.in-Some-next.second.now c.iter-values.ensures.value x.1 x.3 y.1 y.3 texts in
    (c.as_bytes-2.ensures.value ∙ h.0, c.as_bytes-3.ensures.value ∙ h.1)
