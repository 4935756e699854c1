-- The rows after a request of a known caller, as it is answered.
use Rattle.std.specs.Prelude.{ℕ, Some, if◌then◌else◌}
use Rattle.bsp_book.specs.Rows.{Rows}
use Rattle.bsp_office_spec.specs.AirlineLedger.{airline_answer, airline_ledger_of}
use Rattle.bsp_office_spec.specs.Answers.{Answer, is_done, verdicts_in}
use Rattle.bsp_office_spec.specs.Ledger.{ledger_answer, ledger_of}
use Rattle.bsp_office_spec.specs.Requests.{AgentRequest, AirlineRequest, OfficeRequest}
use Rattle.bsp_office_spec.specs.Step.{agent_done, airline_done, filed_by_agent, filed_by_office, office_answer, office_done}

-- the rows after an answer to the office: as served, where the answer is one of success, and otherwise with what a file of transactions left
abbrev pub office_left : OfficeRequest → Answer → Rows → Rows
office_left request answer rows = if is_done answer then office_done request rows else filed_by_office request (verdicts_in answer) rows

-- the rows after an answer to an agent: as served, where the answer is one of success, and otherwise with what its file left
abbrev pub agent_left : ℕ → AgentRequest → Answer → Rows → Rows
agent_left agent request answer rows = if is_done answer then agent_done request rows else filed_by_agent (Some agent) request (verdicts_in answer) rows

-- the rows after an answer to an airline: as served, where the answer is one of success, and otherwise as they were
abbrev pub airline_left : ℕ → AirlineRequest → Answer → Rows → Rows
airline_left airline request answer rows = if is_done answer then airline_done airline request rows else rows

-- the rows after a request of the office, as the rules answer it
abbrev pub office_after : OfficeRequest → Rows → Rows
office_after request rows = office_left request (office_answer request rows) rows

-- the rows after a request of an agent, as its ledger answers it
abbrev pub agent_after : ℕ → AgentRequest → Rows → Rows
agent_after agent request rows = agent_left agent request (ledger_answer agent (ledger_of agent rows) request) rows

-- the rows after a request of an airline, as its ledger answers it
abbrev pub airline_after : ℕ → AirlineRequest → Rows → Rows
airline_after airline request rows = airline_left airline request (airline_answer airline (airline_ledger_of airline rows) request) rows
