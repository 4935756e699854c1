use Rattle.bsp_store.proofs.audit.audited_alone.Goals as goal

pub returns : goal.returns
returns g c =
    let it = c.found_once-found in
    let again = c.requires.reopens in
    record { left = it.result.1; leaves = it.ensures.left c.args.conn again; passed = it.ensures.ok c.args.conn again; refused = it.ensures.refused c.args.conn again }
