use Rattle.std.proofs.Common.{◌+◌, ◌∷◌, ◌++◌, [], ℕ, arith, refl, inl, inr, subst, ap, ◌∙◌}
use Rattle.std.proofs.lemmas.List.{length_push}
use Rattle.std.proofs.lemmas.List.Elements.{Contains-push}
use Rattle.std.specs.List.{Contains}
use Rattle.bsp_streams.specs.declared.peers.Happened.{Happened}
use Rattle.bsp_streams.proofs.TableLemmas.{all_gone, served_now, so_far_start}
use Rattle.bsp_streams.proofs.serving.serve_all.Goals as goal
use Rattle.bsp_streams.proofs.serving.serve_all.Goals.{else-turns-test, then-turns-test+then-table-limits+then-is_empty, then-turns-test+else-table-limits+then-not-step}

pub turns-init : goal.turns-init
turns-init g c = record { so_far = ([], refl, so_far_start g.P.Peers.did g.R.Protocol.steps g.R.Protocol.talks g.R.Protocol.rests _ _ c.new.result c.new.ensures.empty); within = omega arith }

pub step-requires : goal.step-requires
step-requires g c = (_, _, _, c.turns.invariant.so_far.2)

pub turns-preserved : goal.turns-preserved
turns-preserved g c =
    let h = c.turns.invariant.so_far in
    let s = c.step.ensures.steps in
    record {
      so_far = (h.0 ++ s.0 ∷ [], length_push h.0 s.0 ∙ ap (λ (n : ℕ). n + 1) h.1, s.1 _ _ h.0 h.2);
      within = c.step.ensures.given c.turns.invariant.within;
    }

pub returns-clause-served : goal.returns-clause-served
returns-clause-served g c =
    let h = c.turns.invariant.so_far in
    elim c.turns-test.branch [
      | else-turns-test w ↦ served_now g.P.Peers.did g.R.Protocol.steps g.R.Protocol.talks g.R.Protocol.rests _ _ _ _ _ _ h.0 _ _ _ w.peers-is w.desk-is w.table-is (λ shares each. inr (inr (omega (arith, w.turns-test.false, h.1)))) h.2
      | then-turns-test+then-table-limits+then-is_empty w ↦ served_now g.P.Peers.did g.R.Protocol.steps g.R.Protocol.talks g.R.Protocol.rests _ _ _ _ _ _ h.0 _ _ _ w.peers-is w.desk-is w.table-is
          (λ shares each. inl (omega (arith, w.if-table-limits.true, c.turns.invariant.within), all_gone g.P.Peers.did g.R.Protocol.steps g.R.Protocol.talks g.R.Protocol.rests shares c.turns.table (w.if-is_empty.ensures.0 refl) each)) h.2
      | then-turns-test+else-table-limits+then-not-step w ↦
          let s = w.step.ensures.steps in
          served_now g.P.Peers.did g.R.Protocol.steps g.R.Protocol.talks g.R.Protocol.rests _ _ _ _ _ _ (h.0 ++ s.0 ∷ []) _ _ _ w.peers-is w.desk-is w.table-is (λ shares each. inr (inl (subst (λ (x : Happened). Contains (h.0 ++ s.0 ∷ []) x) (s.2 w.if-not-step.true) (Contains-push h.0 s.0)))) (s.1 _ _ h.0 h.2)
    ]
