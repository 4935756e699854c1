use Rattle.std.proofs.Common.{refl, subst, ap}
use Rattle.bsp_fields.specs.Decimal.{fixed_digits}
use Rattle.bsp_messages.specs.Values.{period_in}
use Rattle.bsp_messages.specs.declared.answer.Answer.{Answer as Message}
use Rattle.bsp_desk_writes.specs.Ledger.{ledger_of}
use Rattle.bsp_desk_writes.specs.Requests.AgentRequest.{AskStatement}
use Rattle.bsp_desk_writes.specs.Texts.{Says}
use Rattle.bsp_desk.specs.Instructions.{Own, own_answer}
use Rattle.bsp_desk.specs.Instructions.Own.{OfAgent}
use Rattle.bsp_judge.specs.Asked.Task.{AskFor}
use Rattle.bsp_judge.specs.Steps.{refusal_in, rows_in}
use Rattle.bsp_judge.specs.declared.setup.Step.TheVariants.{Closing}
use Rattle.bsp_judge.proofs.AskLemmas.{some_refused, statement_is, statement_plain, statement_said}
use Rattle.bsp_judge.proofs.UnjudgedLemmas.{refused_stops}
use Rattle.bsp_judge.proofs.asking.ask_statement.Goals as goal

pub unreachable-requires : goal.unreachable-requires
unreachable-requires c =
    let agent = c.args.setup.now.agent in
    let rows = rows_in c.args.desk.now.book in
    let a = c.in_ok-answer.ensures.answered (OfAgent agent (AskStatement (fixed_digits 5 c.args.period))) refl in
    statement_said (own_answer (OfAgent agent (AskStatement (fixed_digits 5 c.args.period))) rows) c.in_ok-answer.answer (statement_is agent (ledger_of agent rows) (period_in (fixed_digits 5 c.args.period))) a.says c.in_default.not-Report c.in_default.not-Refused

pub returns-in-Report-clause-given : goal.returns-in-Report-clause-given
returns-in-Report-clause-given c =
    let agent = c.args.setup.now.agent in
    let rows = rows_in c.args.desk.now.book in
    let own : Own = OfAgent agent (AskStatement (fixed_digits 5 c.args.period)) in
    let a = c.in_ok-answer.ensures.answered own refl in
    subst (λ (m : Message). Says (own_answer own rows) m) c.in-Report.is a.says

pub returns-in-Refused-clause-stopped : goal.returns-in-Refused-clause-stopped
returns-in-Refused-clause-stopped c =
    let agent = c.args.setup.now.agent in
    let rows = rows_in c.args.desk.now.book in
    let own : Own = OfAgent agent (AskStatement (fixed_digits 5 c.args.period)) in
    let a = c.in_ok-answer.ensures.answered own refl in
    refused_stops c.args.setup.now (Closing c.args.place) c.in-Refused.refusal rows (AskFor agent c.args.period) c.refused.result c.refused.ensures
    (record {
      own = own;
      asks = refl;
      answered = some_refused (own_answer own rows) c.in_ok-answer.answer c.in-Refused.refusal (statement_plain agent (ledger_of agent rows) (period_in (fixed_digits 5 c.args.period))) a.says (ap refusal_in c.in-Refused.is);
    })
