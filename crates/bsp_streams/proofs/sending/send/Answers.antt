use Rattle.std.proofs.Common.{◌∙◌, ℕ, arith}
use Rattle.std.proofs.lemmas.List.{length-drop}
use Rattle.bsp_streams.proofs.NotedLemmas.{still_failed}
use Rattle.bsp_streams.proofs.WriteLemmas.{appends_more, kept_part, took_none}
use Rattle.bsp_streams.proofs.sending.send.Goals as goal

pub loop-at-preserved : goal.loop-at-preserved
loop-at-preserved g c = record {
  within = omega (arith, c.in-Ok.ensures.bound, length-drop {A = ℕ}, c.loop-at.invariant.within);
  written = appends_more _ _ _ c.args.bytes.now c.loop-at.at c.in-Ok.count c.loop-at.invariant.written c.in-Ok.ensures.bytes;
  noted = λ failed. c.in-Ok.ensures.failed ∙ still_failed _ _ (c.loop-at.invariant.noted failed);
}

pub returns-in-Ok-eq0-clause-written : goal.returns-in-Ok-eq0-clause-written
returns-in-Ok-eq0-clause-written g c = kept_part _ _ _ c.args.bytes.now c.loop-at.at c.loop-at.invariant.written (took_none _ _ _ _ c.in-Ok-eq0.field-0-test c.in-Ok-eq0.ensures.bytes)

pub returns-in-Err-clause-written : goal.returns-in-Err-clause-written
returns-in-Err-clause-written g c = kept_part _ _ _ c.args.bytes.now c.loop-at.at c.loop-at.invariant.written c.in-Err.ensures.bytes
