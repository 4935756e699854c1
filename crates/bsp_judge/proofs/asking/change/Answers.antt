use Rattle.std.proofs.Common.{◌∙◌, sym}
use Rattle.bsp_judge.specs.Steps.{rows_in}
use Rattle.bsp_desk.specs.Instructions.{own_answer}
use Rattle.bsp_judge.proofs.AskLemmas.{meant, none_passes, plain, some_refused}
use Rattle.bsp_judge.proofs.UnjudgedLemmas.{refused_stops}
use Rattle.bsp_judge.proofs.asking.change.Goals as goal

pub returns-in-None-clause-passed : goal.returns-in-None-clause-passed
returns-in-None-clause-passed c = λ task is.
    let m = meant task c.args.instruction.now is in
    let a = c.in_ok-answer.ensures.answered m.0 m.1 in
    let rows = rows_in c.args.desk.now.book in
    record {
      taken = record { own = m.0; asks = m.2; passed = none_passes (own_answer m.0 rows) c.in_ok-answer.answer (plain task c.args.instruction.now is m.0 m.2 rows) a.says (sym c.refusal_in.ensures ∙ c.in-None.is); after = a.after };
      settled = a.settled;
    }

pub returns-clause-stopped : goal.returns-clause-stopped
returns-clause-stopped c = λ task is.
    let m = meant task c.args.instruction.now is in
    let a = c.in_ok-answer.ensures.answered m.0 m.1 in
    let rows = rows_in c.args.desk.now.book in
    refused_stops c.args.setup.now c.args.step c.in-Some.refusal rows task c.refused.result c.refused.ensures
    (record { own = m.0; asks = m.2; answered = some_refused (own_answer m.0 rows) c.in_ok-answer.answer c.in-Some.refusal (plain task c.args.instruction.now is m.0 m.2 rows) a.says (sym c.refusal_in.ensures ∙ c.in-Some.is) })
