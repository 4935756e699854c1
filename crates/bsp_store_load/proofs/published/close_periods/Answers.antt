use Rattle.bsp_store_base.proofs.Std.{both_ways, refl}
use Rattle.bsp_memory_rows.specs.Tables.{rows_of}
use Rattle.bsp_store_base.proofs.Base.{IsPeriod, period_row}
use Rattle.bsp_store_load.specs.Stored.{MayClose, closing}
use Rattle.bsp_store_load.proofs.CloseLemmas.{plan_alone}
use Rattle.bsp_store_load.proofs.PutLemmas.{all_gone, begun, gone_on}
use Rattle.bsp_store_load.proofs.published.close_periods.Goals as goal

pub loop-row-init : goal.loop-row-init
loop-row-init c = record {
  changes = record { derived = λ is. is; others = refl };
  entries = λ es may same. begun period_row closing (MayClose IsPeriod) es (rows_of c.args.tables.now) may;
}

pub loop-row-preserved : goal.loop-row-preserved
loop-row-preserved c = record {
  changes = plan_alone c.args.tables.now c.loop-row.tables c.close_period.new.tables c.loop-row.invariant.changes c.in_ok-close_period.ensures.changes;
  entries = λ es may same. (gone_on period_row closing (MayClose IsPeriod) es c.args.rows.now c.loop-row.row-index c.row-item.result (rows_of c.args.tables.now) (rows_of c.loop-row.tables) (rows_of c.close_period.new.tables) _
      same c.loop-row-test.true c.row-item.is (c.loop-row.invariant.entries es may same) c.in_ok-close_period.ensures.entry).1;
}

pub returns-then-not-branch-clause-entries : goal.returns-then-not-branch-clause-entries
returns-then-not-branch-clause-entries c = λ es may same.
    let gone = gone_on period_row closing (MayClose IsPeriod) es c.args.rows.now c.loop-row.row-index c.row-item.result (rows_of c.args.tables.now) (rows_of c.loop-row.tables) (rows_of c.close_period.new.tables) _
    same c.loop-row-test.true c.row-item.is (c.loop-row.invariant.entries es may same) c.in_ok-close_period.ensures.entry in
    absurd (both_ways _ c.if-not-branch.true gone.0)

pub returns-clause-entries : goal.returns-clause-entries
returns-clause-entries c = λ es may same.
    (refl, all_gone period_row closing (MayClose IsPeriod) es c.args.rows.now c.loop-row.row-index (rows_of c.args.tables.now) (rows_of c.loop-row.tables) same c.loop-row-test.false (c.loop-row.invariant.entries es may same))
