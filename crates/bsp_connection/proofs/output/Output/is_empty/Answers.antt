use Rattle.std.proofs.Common.{◌<◌, length, subst, arith}
use Rattle.bsp_connection.specs.Outputs.{HasOutput, Put}
use Rattle.bsp_connection.proofs.OutputLemmas.{text_waits}
use Rattle.bsp_connection.proofs.output.Output.is_empty.Goals as goal

pub returns-else-self-len-clause-waits : goal.returns-else-self-len-clause-waits
returns-else-self-len-clause-waits c = λ unsent.
    let other = c.if-self-len.false in
    let within = c.self.invariant in
    let less : c.self.inside.sent < length c.self.inside.texts.items = omega (arith, c.len.ensures, within, other) in
    subst (λ (o : Put). HasOutput o) c.self.view_is (text_waits c.self.inside.texts.items c.self.inside.sent c.self.inside.apart less)
