use Rattle.std.proofs.Common.{◌∙◌, None, Some, map, sym}
use Rattle.clap.specs.Words.{found_of, rows_of}
use Rattle.bsp_words.specs.declared.work.CommandName.TheVariants.{Judge, Plan, Single}
use Rattle.bsp_words.proofs.CommandLines.{found_by_name}
use Rattle.bsp_words.proofs.work.work_found.Goals as goal

pub returns-in-Some-Judge : goal.returns-in-Some-Judge
returns-in-Some-Judge g c =
    let is = found_by_name (map g.S.AsStr.text c.args.words.now) c.args.matches.now c.in-Some.name.now (rows_of (found_of c.in-Some.inner.now)) (Some Judge) c.in-Some.ensures.name c.in-Some.ensures.rows (rw c.in-Some-Judge.field-0-is at c.in-Some-Judge.ensures) in
    rw is c.judge_given.ensures

pub returns-in-Some-Plan : goal.returns-in-Some-Plan
returns-in-Some-Plan g c =
    let is = found_by_name (map g.S.AsStr.text c.args.words.now) c.args.matches.now c.in-Some.name.now (rows_of (found_of c.in-Some.inner.now)) (Some Plan) c.in-Some.ensures.name c.in-Some.ensures.rows (rw c.in-Some-Plan.field-0-is at c.in-Some-Plan.ensures) in
    rw is c.plan_given.ensures

pub returns-in-Some-Single : goal.returns-in-Some-Single
returns-in-Some-Single g c =
    let is = found_by_name (map g.S.AsStr.text c.args.words.now) c.args.matches.now c.in-Some.name.now (rows_of (found_of c.in-Some.inner.now)) (Some (Single c.in-Some-Single.single)) c.in-Some.ensures.name c.in-Some.ensures.rows (rw c.in-Some-Single.field-0-is at c.in-Some-Single.ensures) in
    c.single_given.ensures ∙ sym is

pub returns-in-None : goal.returns-in-None
returns-in-None g c =
    let is = found_by_name (map g.S.AsStr.text c.args.words.now) c.args.matches.now c.in-Some.name.now (rows_of (found_of c.in-Some.inner.now)) None c.in-Some.ensures.name c.in-Some.ensures.rows c.in-None.ensures in
    sym is
