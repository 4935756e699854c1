use Rattle.std.proofs.Common.{◌++◌}
use Rattle.bsp_streams.proofs.WriteLemmas.{both_parts, first_part}
use Rattle.bsp_streams.proofs.sending.send_all.Goals as goal

pub returns-in_err-send-clause-written : goal.returns-in_err-send-clause-written
returns-in_err-send-clause-written g c = first_part _ _ c.args.texts.0.now (c.args.texts.1.now ++ c.args.texts.2.now) c.from_residual.result c.in_err-send.ensures.written c.from_residual.ensures.0

pub returns-clause-written : goal.returns-clause-written
returns-clause-written g c = both_parts _ _ _ c.args.texts.0.now (c.args.texts.1.now ++ c.args.texts.2.now) c.send_both.result c.in_ok-send.ensures.written c.send_both.ensures.written
