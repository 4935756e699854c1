use Rattle.std.proofs.Common.{◌++◌, [], refl, ◌∙◌, arith}
use Rattle.std.proofs.KnownBytes.{Consumes-nil, Consumes-trans}
use Rattle.bsp_connection.proofs.ServeLemmas.{so_far_end, so_far_fault, so_far_more, so_far_none}
use Rattle.bsp_connection.proofs.serving.serve_with.Goals as goal

pub steps-init : goal.steps-init
steps-init g c =
    let fresh = c.requires.fresh in
    record {
      talk = ([], Consumes-nil _, so_far_none g.S.Service.means g.S.Service.reads c.args.desk.now (g.W.Write.contents c.args.writer.now.inner) c.args.c.now fresh);
      none = fresh.out;
      free = fresh.free;
      unclosed = fresh.unclosed;
      capacity = c.requires.capacity;
      piece = c.requires.piece;
      failed = refl;
      empty = omega arith;
      noted = λ failed. failed;
    }

pub steps-preserved : goal.steps-preserved
steps-preserved g c =
    let t = c.steps.invariant.talk in
    let s = rw c.in-Ok-None.field-0-is at c.in-Ok-None.ensures.step in
    let empty = rw c.in-Ok-None.field-0-is at c.in-Ok-None.ensures.empty in
    let before = c.steps.invariant.empty in
    let kept = c.in-Ok-None.ensures.room in
    let roomy = c.steps.invariant.capacity in
    record {
      talk = (
        t.0 ++ s.0,
        Consumes-trans _ _ _ t.0 s.0 t.1 s.2,
        so_far_more g.S.Service.means g.S.Service.reads c.args.desk.now (g.W.Write.contents c.args.writer.now.inner) (g.W.Write.contents c.steps.writer.inner) (g.W.Write.contents c.step.new.writer.inner) c.steps.c c.step.new.c c.steps.desk c.step.new.desk t.0 s.0 s.1 t.2 s.3 s.4,
      );
      none = s.4.1.0;
      free = s.4.1.1;
      unclosed = s.4.1.2;
      capacity = omega (arith, roomy, kept);
      piece = c.in-Ok-None.ensures.piece;
      failed = c.in-Ok-None.ensures.failed ∙ c.steps.invariant.failed;
      empty = omega (arith, empty, before);
      noted = λ failed. c.in-Ok-None.ensures.noted (c.steps.invariant.noted failed);
    }

pub returns-in-Ok-Some-clause-conversation : goal.returns-in-Ok-Some-clause-conversation
returns-in-Ok-Some-clause-conversation g c =
    let t = c.steps.invariant.talk in
    let s = rw c.in-Ok-Some.field-0-is at c.in-Ok-Some.ensures.step in (
      t.0 ++ s.0,
      Consumes-trans _ _ _ t.0 s.0 t.1 s.2,
      so_far_end g.S.Service.means g.S.Service.reads c.args.desk.now (g.W.Write.contents c.args.writer.now.inner) (g.W.Write.contents c.steps.writer.inner) (g.W.Write.contents c.step.new.writer.inner) c.steps.c c.step.new.c c.steps.desk c.step.new.desk t.0 s.0 s.1 c.in-Ok-Some.end t.2 s.3 s.4,
    )

pub returns-in-Err-clause-conversation : goal.returns-in-Err-clause-conversation
returns-in-Err-clause-conversation g c =
    let t = c.steps.invariant.talk in
    let s = c.in-Err.ensures.step in (
      t.0 ++ s.0,
      Consumes-trans _ _ _ t.0 s.0 t.1 s.2,
      so_far_fault g.S.Service.means g.S.Service.reads c.args.desk.now (g.W.Write.contents c.args.writer.now.inner) (g.W.Write.contents c.steps.writer.inner) (g.W.Write.contents c.step.new.writer.inner) c.steps.c c.step.new.c c.steps.desk c.step.new.desk t.0 s.0 s.1 c.in-Err.fault t.2 s.3 s.4,
    )
