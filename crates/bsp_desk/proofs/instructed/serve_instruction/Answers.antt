use Rattle.bsp_desk.proofs.instructed.serve_instruction.Goals as goal

pub returns-in-Publish-clause-served : goal.returns-in-Publish-clause-served
returns-in-Publish-clause-served g c = λ own is.
    let meant = rw c.in-Publish.is at is in
    rw meant.2 (c.publish.ensures.served meant.0 meant.1)
