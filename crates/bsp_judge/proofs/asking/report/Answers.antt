use Rattle.std.proofs.Common.{Ok, ap, refl, sym, ◌∙◌}
use Rattle.bsp_office_spec.proofs.EachIsRead.{groups_read}
use Rattle.bsp_desk_writes.specs.Answers.Answer.{Verdicts}
use Rattle.bsp_desk_writes.specs.Ledger.{ledger_of, own_verdicts}
use Rattle.bsp_desk_writes.specs.Requests.AgentRequest.{AgentFile}
use Rattle.bsp_desk.specs.Instructions.Own.{OfAgent}
use Rattle.bsp_judge.specs.Steps.{rows_in}
use Rattle.bsp_judge.proofs.AskLemmas.{verdicts_said, verdicts_there}
use Rattle.bsp_judge.proofs.asking.report.Goals as goal

pub returns-clause-reported : goal.returns-clause-reported
returns-clause-reported c = λ ts contents.
    let agent = c.args.agent in
    let a = c.in_ok-answer.ensures.answered (OfAgent agent (AgentFile (Ok ts))) (ts, contents, refl) in
    record {
      answered = ap Verdicts (sym (verdicts_said (own_verdicts agent (ledger_of agent (rows_in c.args.desk.now.book)) ts) c.in_ok-answer.answer c.in-Some.verdicts a.says (sym c.verdicts_in.ensures ∙ c.in-Some.is)));
      after = a.after;
      settled = a.settled;
    }

pub unreachable-requires : goal.unreachable-requires
unreachable-requires c =
    let agent = c.args.agent in
    let ts = groups_read 1 c.args.file.now.groups c.requires.whole.1.groups in
    let a = c.in_ok-answer.ensures.answered (OfAgent agent (AgentFile (Ok ts.0))) (ts.0, ts.1, refl) in
    verdicts_there (own_verdicts agent (ledger_of agent (rows_in c.args.desk.now.book)) ts.0) c.in_ok-answer.answer a.says (sym c.verdicts_in.ensures ∙ c.in_default.is)
