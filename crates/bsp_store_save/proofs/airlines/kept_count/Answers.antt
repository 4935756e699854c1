use Rattle.std.proofs.Common.{length, refl}
use Rattle.bsp_store_save.proofs.KeptLemmas.{all_kept, all_within, front_count, front_kept}
use Rattle.bsp_store_save.proofs.airlines.kept_count.Goals as goal

pub returns-in-Same-clause-kept : goal.returns-in-Same-clause-kept
returns-in-Same-clause-kept c = rw c.in-Same.is (all_kept (length c.airlines.result.now) c.airlines.result.now c.args.plan.now.airlines c.args.plan.now.airlines refl c.airlines.ensures refl)

pub returns-in-Same-clause-bound : goal.returns-in-Same-clause-bound
returns-in-Same-clause-bound c = all_within (length c.airlines.result.now) c.airlines.result.now c.args.plan.now.airlines c.args.plan.now.airlines refl c.airlines.ensures refl

pub returns-in-Dated-clause-kept : goal.returns-in-Dated-clause-kept
returns-in-Dated-clause-kept c = rw c.in-Dated.is (all_kept (length c.airlines-in-Dated.result.now) c.airlines-in-Dated.result.now c.args.plan.now.airlines c.args.plan.now.airlines refl c.airlines-in-Dated.ensures refl)

pub returns-in-Dated-clause-bound : goal.returns-in-Dated-clause-bound
returns-in-Dated-clause-bound c = all_within (length c.airlines-in-Dated.result.now) c.airlines-in-Dated.result.now c.args.plan.now.airlines c.args.plan.now.airlines refl c.airlines-in-Dated.ensures refl

pub returns-in-Whole-clause-kept : goal.returns-in-Whole-clause-kept
returns-in-Whole-clause-kept c =
    let continues = rw c.in-Whole.is at c.requires in
    rw c.in-Whole.is (front_kept (length c.airlines-in-Whole.result.now) c.airlines-in-Whole.result.now c.in-Whole.old.airlines c.args.plan.now.airlines refl c.airlines-in-Whole.ensures continues.airlines)

pub returns-in-Whole-clause-bound : goal.returns-in-Whole-clause-bound
returns-in-Whole-clause-bound c =
    let continues = rw c.in-Whole.is at c.requires in
    front_count (length c.airlines-in-Whole.result.now) c.airlines-in-Whole.result.now c.in-Whole.old.airlines c.args.plan.now.airlines refl c.airlines-in-Whole.ensures continues.airlines
