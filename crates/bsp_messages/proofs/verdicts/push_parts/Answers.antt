use Rattle.bsp_messages.proofs.TextLemmas.{appended}
use Rattle.bsp_messages.proofs.verdicts.push_parts.Goals as goal

pub returns : goal.returns
returns c =
    appended c.args.text.now.items c.args.first.now c.args.middle.now c.args.last.now _ _ _
    c.in_ok-extend_from_slice.ensures.items c.in_ok-extend_from_slice-2.ensures.items c.in_ok-extend_from_slice-3.ensures.items
