use Rattle.std.proofs.Common.{length}
use Rattle.std.proofs.lemmas.List.{take_rest}
use Rattle.bsp_fields.proofs.CutLemmas.{first_ended, first_unended}
use Rattle.bsp_fields.proofs.lines.first_line.Goals as goal

pub returns-in-None : goal.returns-in-None
returns-in-None c =
    let bytes = c.args.bytes.now in
    rw (take_rest bytes (length bytes)) (first_unended bytes c.requires c.in-None.ensures.none)

pub returns-in-Some : goal.returns-in-Some
returns-in-Some c = first_ended c.args.bytes.now c.in-Some.line.now c.in-Some.rest.now c.in-Some.ensures.some
