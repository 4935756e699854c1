use Rattle.std.proofs.Common.{◌-◌, length, sym}
use Rattle.std.specs.Prelude.{drop}
use Rattle.std.specs.FinMap.{from_entries}
use Rattle.bsp_maps.specs.Undo.{undone}
use Rattle.bsp_maps.proofs.EarlierLemmas.{all_undone, earlier_more, earlier_none, one_before}
use Rattle.bsp_maps.proofs.earlier.values_before.Goals as goal

pub loop-step-init : goal.loop-step-init
loop-step-init g c = rw c.new-found.ensures.empty (earlier_none g.met.K.Ord.total (from_entries c.args.values.now.entries) c.args.written.now)

pub loop-step-preserved : goal.loop-step-preserved
loop-step-preserved g c =
    let now = from_entries {R = g.K.Ord.cmp} c.args.values.now.entries in
    let olds = c.args.written.now in
    let at = c.loop-step.step in
    let old = c.index-written-written.result in
    rw (one_before g.met.K.Ord.total olds at old c.loop-step-test.true, sym c.index-written-written.is, c.in_ok-note_before.ensures)
    (earlier_more g.met.K.Ord.total (from_entries c.loop-step.found.entries) now (undone (drop (length olds - at) olds) now) old c.loop-step.invariant)

pub returns : goal.returns
returns g c = all_undone g.met.K.Ord.total (from_entries c.loop-step.found.entries) (from_entries c.args.values.now.entries) c.args.written.now c.loop-step.step c.loop-step-test.false c.loop-step.invariant
