use Rattle.bsp_streams.proofs.WriteLemmas.{both_parts, first_part}
use Rattle.bsp_streams.proofs.sending.send_both.Goals as goal

pub returns-in_err-send-clause-written : goal.returns-in_err-send-clause-written
returns-in_err-send-clause-written g c = first_part _ _ c.args.first.now c.args.second.now c.from_residual.result c.in_err-send.ensures.written c.from_residual.ensures.0

pub returns-clause-written : goal.returns-clause-written
returns-clause-written g c = both_parts _ _ _ c.args.first.now c.args.second.now c.send-2.result c.in_ok-send.ensures.written c.send-2.ensures.written
