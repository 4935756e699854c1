-- Lemmas on what a desk is asked in a trial.
use Rattle.std.proofs.Common.{◌≡◌, ℕ, Bool, true, false, List, Option, Some, None, Result, Ok, Err, ap, cond, refl, subst, sym, ◌∙◌}
use Rattle.std.specs.Prelude.{String, not}
use Rattle.std.specs.Global.{Global, Vec}
use Rattle.bsp_fields.specs.declared.change.Change.{Change}
use Rattle.bsp_fields.specs.declared.change.Change.TheVariants as change
use Rattle.bsp_fields.specs.Decimal.{fixed_digits}
use Rattle.bsp_calendar.specs.Published.{closed_period}
use Rattle.bsp_calendar.specs.declared.entries.Period.{Period}
use Rattle.bsp_calendar.specs.declared.fault.PlanFault.{PlanFault}
use Rattle.bsp_calendar.specs.History.Request.{Publish as Publishing, SetDay as SettingDay, Close as Closing}
use Rattle.bsp_rules.specs.declared.rows.Range.{Range}
use Rattle.bsp_rules.specs.declared.verdict.Verdict.{Verdict}
use Rattle.bsp_messages.specs.Values.{period_in}
use Rattle.bsp_messages.specs.declared.answer.Answer.{Answer as Message}
use Rattle.bsp_messages.specs.declared.answer.Answer.TheVariants as message
use Rattle.bsp_messages.specs.declared.refusal.RequestRefusal.{RequestRefusal}
use Rattle.bsp_messages.specs.declared.refusal.RequestRefusal.TheVariants as refusal
use Rattle.bsp_messages.specs.declared.refusal.StockFault.TheVariants.{FirstAfterLast, MeetsRange, NotRegistered}
use Rattle.bsp_rows.specs.Rows.{Rows, agent_token, has_meeting}
use Rattle.bsp_rows.proofs.MapLemmas.{same_Some}
use Rattle.bsp_rows.specs.Writes.{request_answer}
use Rattle.bsp_routes.specs.declared.asking.Asking.TheVariants as asking
use Rattle.bsp_routes.specs.declared.call.Call.TheVariants as call
use Rattle.bsp_routes.specs.declared.call.OfficeCall.TheVariants as office
use Rattle.bsp_desk_writes.proofs.RequestsRead.{each_request_is_read}
use Rattle.bsp_desk_writes.specs.Answers.{Answer}
use Rattle.bsp_desk_writes.specs.Answers.Answer.{Changed, Verdicts, Statement, Refused}
use Rattle.bsp_desk_writes.specs.Ledger.{Ledger, ledger_of, statement_answer, statement_shown}
use Rattle.bsp_desk_writes.specs.Requests.{IsPlanOf, PlanRead}
use Rattle.bsp_desk_writes.specs.Requests.AgentRequest.{AskStatement}
use Rattle.bsp_desk_writes.specs.Requests.OfficeRequest.{AllotRange, ClosePeriod, PublishPlan, RegisterAgent, SetBusinessDay}
use Rattle.bsp_desk_writes.specs.Step.{has_range, is_out_of_order, is_registered, is_token, outcome_answer, plan_answer}
use Rattle.bsp_desk_writes.specs.Texts.{Says}
use Rattle.bsp_desk.specs.Instructions.{IsMeant, Own, own_answer}
use Rattle.bsp_desk.specs.Instructions.Own.{OfAgent, OfOffice}
use Rattle.bsp_desk.specs.declared.instruction.Instruction.{Instruction}
use Rattle.bsp_desk.specs.declared.instruction.Instruction.TheVariants as instruction
use Rattle.bsp_judge.specs.Asked.{Asks, IsPassed, Task}
use Rattle.bsp_judge.specs.Asked.Task.{Publish, SetDay, Register, Allot, Close, Report, AskFor}
use Rattle.bsp_judge.specs.Steps.{IsFor, refusal_in, verdicts_in}

-- each plan text is read as something
plan_read : (text : List ℕ) → (read : PlanRead) × IsPlanOf text read
plan_read text = let asked = each_request_is_read (asking.Call (call.Office office.Plan)) text in (asked.1.1.0, asked.1.1.1)

-- what an instruction of a task means is what the task asks
pub meant : (task : Task) (i : Instruction) → IsFor task i → (own : Own) × IsMeant i own × Asks task own
meant (Publish text) (instruction.Publish bytes) is =
    let r = plan_read text in
    (OfOffice (PublishPlan r.0), (r.0, subst (λ (t : List ℕ). IsPlanOf t r.0) (sym is) r.1, refl), (r.0, r.1, refl))
meant (SetDay day) (instruction.SetDay other) is = (OfOffice (SetBusinessDay (Some day)), (λ i. OfOffice (SetBusinessDay (Some (sym is i)))), refl)
meant (Register agent) (instruction.Register other token) is =
    (OfOffice (RegisterAgent (Some (record { agent = record { code = Some agent }; token = token }))), (λ i. OfOffice (RegisterAgent (Some (record { agent = record { code = Some (sym is i) }; token = token })))), (token, refl))
meant (Allot agent first last) (instruction.Allot other from to) is = (
  OfOffice (AllotRange (Some (record { agent = record { code = Some agent }; range = record { first = first; last = last } }))),
  (λ i. OfOffice (AllotRange (Some (record { agent = record { code = Some (sym is.0 i) }; range = record { first = sym is.1 i; last = sym is.2 i } })))),
  refl,
)
meant (Close period) (instruction.Close other) is = (OfOffice (ClosePeriod (Some period)), (λ i. OfOffice (ClosePeriod (Some (sym is i)))), refl)
meant (AskFor agent period) (instruction.Statement other of) is = (OfAgent agent (AskStatement (fixed_digits 5 period)), (λ i. OfAgent (sym is.0 i) (AskStatement (fixed_digits 5 (sym is.1 i)))), refl)
meant _ _ is = absurd is

-- ---- the answers of the office to a task

-- a change, a statement or a refusal
abbrev pub IsPlain : Answer → Type 0
IsPlain (Changed change) = Unit {0}
IsPlain (Statement agent taxed report) = Unit {0}
IsPlain (Refused refusal) = Unit {0}
IsPlain _ = ⊥

token_plain : (held : Bool) → IsPlain (cond held (Changed change.Held) (Changed change.Done))
token_plain true = tt
token_plain false = tt

allot_plain : (out unknown held meets : Bool) →
    IsPlain (cond out (Refused (refusal.Stock FirstAfterLast)) (cond unknown (Refused (refusal.Stock NotRegistered)) (cond held (Changed change.Held) (cond meets (Refused (refusal.Stock MeetsRange)) (Changed change.Done)))))
allot_plain true unknown held meets = tt
allot_plain false true held meets = tt
allot_plain false false true meets = tt
allot_plain false false false true = tt
allot_plain false false false false = tt

outcome_plain : (r : Result Change PlanFault) → IsPlain (outcome_answer r)
outcome_plain (Ok change) = tt
outcome_plain (Err fault) = tt

plan_plain : (read : PlanRead) (rows : Rows) → IsPlain (plan_answer read rows)
plan_plain (Err fault) rows = tt
plan_plain (Ok text) rows = outcome_plain (request_answer (Publishing text) rows)

shown_plain : (agent : ℕ) (l : Ledger) (q : Option Period) → IsPlain (statement_shown agent l q)
shown_plain agent l None = tt
shown_plain agent l (Some q) = tt

pub statement_plain : (agent : ℕ) (l : Ledger) (code : Option ℕ) → IsPlain (statement_answer agent l code)
statement_plain agent l None = tt
statement_plain agent l (Some code) = shown_plain agent l (closed_period l.published code)

pub plain : (task : Task) (i : Instruction) → IsFor task i → (own : Own) → Asks task own → (rows : Rows) → IsPlain (own_answer own rows)
plain (Publish text) i is own asks rows = subst (λ (o : Own). IsPlain (own_answer o rows)) (sym asks.2) (plan_plain asks.0 rows)
plain (SetDay day) i is own asks rows = subst (λ (o : Own). IsPlain (own_answer o rows)) (sym asks) (outcome_plain (request_answer (SettingDay day) rows))
plain (Register agent) i is own asks rows = subst (λ (o : Own). IsPlain (own_answer o rows)) (sym asks.1) (token_plain (is_token (agent_token agent rows) (Some asks.0)))
plain (Allot agent first last) i is own asks rows =
    let range : Range = record { first = first; last = last } in
    subst (λ (o : Own). IsPlain (own_answer o rows)) (sym asks) (allot_plain (is_out_of_order range) (not (is_registered agent rows)) (has_range agent range rows) (has_meeting range rows))
plain (Close period) i is own asks rows = subst (λ (o : Own). IsPlain (own_answer o rows)) (sym asks) (outcome_plain (request_answer (Closing period) rows))
plain (AskFor agent period) i is own asks rows =
    subst (λ (o : Own). IsPlain (own_answer o rows)) (sym asks) (statement_plain agent (ledger_of agent rows) (period_in (fixed_digits 5 period)))
plain (Report agent text) i is own asks rows = absurd is

-- what is no refusal passes
pub none_passes : (answer : Answer) (m : Message) → IsPlain answer → Says answer m → refusal_in m ≡ None → IsPassed answer
none_passes (Changed change) m p says none = tt
none_passes (Statement agent taxed report) m p says none = tt
none_passes (Refused refusal) m p says none = absurd (let k = sym (ap refusal_in says) ∙ none in cc)
none_passes _ m p says none = absurd p

-- and a refusal is that of the answer
pub some_refused : (answer : Answer) (m : Message) (refusal : RequestRefusal) → IsPlain answer → Says answer m → refusal_in m ≡ Some refusal → answer ≡ Refused refusal
some_refused (Changed change) m refusal p says some = absurd (let k = sym (ap refusal_in says) ∙ some in cc)
some_refused (Statement agent taxed report) m refusal p says some = absurd (let k = sym (ap refusal_in says.2) ∙ some in cc)
some_refused (Refused other) m refusal p says some = ap Refused (same_Some other refusal (sym (ap refusal_in says) ∙ some))
some_refused _ m refusal p says some = absurd p

-- a change is no answer to an agent that asks for its statement
abbrev pub IsStatementAnswer : Answer → Type 0
IsStatementAnswer (Statement agent taxed report) = Unit {0}
IsStatementAnswer (Refused refusal) = Unit {0}
IsStatementAnswer _ = ⊥

shown_is : (agent : ℕ) (l : Ledger) (q : Option Period) → IsStatementAnswer (statement_shown agent l q)
shown_is agent l None = tt
shown_is agent l (Some q) = tt

pub statement_is : (agent : ℕ) (l : Ledger) (code : Option ℕ) → IsStatementAnswer (statement_answer agent l code)
statement_is agent l None = tt
statement_is agent l (Some code) = shown_is agent l (closed_period l.published code)

-- it is said as a text, or as a refusal
pub statement_said : (answer : Answer) (m : Message) → IsStatementAnswer answer → Says answer m → ((text : String Global) → m ≡ message.Report text → ⊥) → ((refused : RequestRefusal) → m ≡ message.Refused refused → ⊥) → ⊥
statement_said (Statement agent taxed report) m is says not_text not_refused = not_text says.0 says.2
statement_said (Refused refusal) m is says not_text not_refused = not_refused refusal says
statement_said _ m is says not_text not_refused = is

-- ---- the verdicts on a file

pub verdicts_said : (vs : List Verdict) (m : Message) (v : Vec Verdict) → Says (Verdicts vs) m → verdicts_in m ≡ Some v → v.items ≡ vs
verdicts_said vs m v says some = ap (λ (x : Vec Verdict). x.items) (sym (same_Some says.0 v (sym (ap verdicts_in says.2) ∙ some))) ∙ says.1

pub verdicts_there : (vs : List Verdict) (m : Message) → Says (Verdicts vs) m → verdicts_in m ≡ None → ⊥
verdicts_there vs m says none = let k = sym (ap verdicts_in says.2) ∙ none in absurd (cc k)
