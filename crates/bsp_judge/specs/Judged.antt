-- What is printed of a RET file that an office judges.
use Rattle.std.specs.Prelude.{◌≡◌, ℕ, ℤ, Bool, true, false, ◌+◌, ◌-ℤ◌, List, [], ◌∷◌, ◌++◌, map, codes, Ok, Option, None, Some, String}
use Rattle.std.specs.Global.{Global}
use Rattle.std.specs.List.{FoldsTo, concat, list_all}
use Rattle.bsp_fields.specs.Decimal.{fixed_digits}
use Rattle.bsp_fields.specs.Money.{money_text}
use Rattle.bsp_rows.specs.Transaction.{Transaction}
use Rattle.bsp_rules.specs.Refusals.{code_text}
use Rattle.bsp_rules.specs.declared.verdict.Verdict.{Verdict}
use Rattle.bsp_rules.specs.declared.verdict.Verdict.TheVariants.{Accepted, Held, Refused}
use Rattle.bsp_statement.specs.Nets.{net_of_postings}
use Rattle.bsp_statement.specs.Tallies.{tally_posting}
use Rattle.bsp_rows.specs.Rows.{Rows, no_rows}
use Rattle.bsp_rows.specs.Tallies.{tallies_of}
use Rattle.bsp_rows.specs.declared.questions.Tallies.TheVariants.{OfAgent}
use Rattle.bsp_messages.specs.declared.answer.Answer.TheVariants as message
use Rattle.bsp_desk_writes.specs.Answers.Answer.{Verdicts}
use Rattle.bsp_desk_writes.specs.Requests.{IsFileOf}
use Rattle.bsp_desk_writes.specs.Requests.AgentRequest.{AgentFile, AskStatement}
use Rattle.bsp_desk_writes.specs.Texts.{Says}
use Rattle.bsp_desk.specs.Instructions.{own_after, own_answer}
use Rattle.bsp_desk.specs.Instructions.Own.{OfAgent}
use Rattle.bsp_judge.specs.Asked.{Takes, closing_tasks, tasks}
use Rattle.bsp_judge.specs.declared.setup.Setup.{Setup}

-- ---- the verdicts

abbrev pub outcome_text : Verdict → List ℕ
outcome_text (Accepted period) = codes "accepted " ++ fixed_digits 5 period
outcome_text (Held period) = codes "held " ++ fixed_digits 5 period
outcome_text (Refused refusal) = code_text refusal

unfoldable pub verdict_line : ℕ → Verdict → List ℕ
verdict_line n v = concat (fixed_digits 6 n ∷ codes " " ∷ outcome_text v ∷ codes "\n" ∷ [])

-- a line for each, numbered from n
abbrev pub verdict_lines : ℕ → List Verdict → List ℕ
verdict_lines n [] = []
verdict_lines n (v ∷ vs) = verdict_line n v ++ verdict_lines (n + 1) vs

-- accepted or held
abbrev pub is_taken : Verdict → Bool
is_taken (Refused refusal) = false
is_taken verdict = true

-- ---- the net

-- what an agent owes, over all periods
unfoldable pub owed : ℕ → Rows → ℤ
owed agent rows = net_of_postings (map tally_posting (tallies_of (OfAgent agent) rows))

abbrev pub net_line : ℤ → List ℕ
net_line net = codes "net " ++ (money_text net ++ codes "\n")

-- ---- the statement

-- over the rows that a file left, the office closes the period, and the agent's statement of it is this text
pub record IsStated (agent : ℕ) (left : Rows) (period : ℕ) (text : String Global) : Type 0 where
  pub closed : Rows
  pub closes : FoldsTo Takes left (closing_tasks left period) closed
  pub answered : Says (own_answer (OfAgent agent (AskStatement (fixed_digits 5 period))) closed) (message.Report text)

-- so it is of the period that is asked for; where none is, there is no text
abbrev pub IsStatedIfAsked : ℕ → Rows → Option ℕ → Option (String Global) → Type 0
IsStatedIfAsked agent left None statement = statement ≡ None
IsStatedIfAsked agent left (Some period) statement = (text : String Global) × (statement ≡ Some text) × IsStated agent left period text

-- ---- the trial

-- Over these rows the office of `bsp_office_spec` gives the agent's file these verdicts, and has these rows then. The lines say
-- the verdicts, and the net: what the file adds to what the agent owes.
pub record IsSaid (agent : ℕ) (ready left : Rows) (text lines : List ℕ) (taken : Bool) : Type 0 where
  pub transactions : List Transaction
  pub file : IsFileOf text (Ok transactions)
  pub verdicts : List Verdict
  pub answered : own_answer (OfAgent agent (AgentFile (Ok transactions))) ready ≡ Verdicts verdicts
  pub after : left ≡ own_after (OfAgent agent (AgentFile (Ok transactions))) ready
  pub lines_are : lines ≡ verdict_lines 1 verdicts ++ net_line (owed agent left -ℤ owed agent ready)
  pub taken_is : taken ≡ list_all is_taken verdicts

-- so it is over the rows after all that comes before, which is asked from no rows, and of which each request passes; and so
-- is the statement over the rows after the file
pub record IsJudged (setup : Setup) (text lines : List ℕ) (taken : Bool) (statement : Option (String Global)) : Type 0 where
  pub ready : Rows
  pub is_ready : FoldsTo Takes no_rows (tasks setup) ready
  pub left : Rows
  pub said : IsSaid setup.agent ready left text lines taken
  pub stated : IsStatedIfAsked setup.agent left setup.statement statement
