-- The JSON bodies of requests: one object with exactly the keys named.
use Rattle.std.specs.Prelude.{◌≡◌, ◌<◌, ℕ, List, length, codes, if◌then◌else◌, Option, Some, None, option_map, option_and_then, Result, Ok, Err}
use Rattle.std.specs.Result.{result_map_both}
use Rattle.std.specs.Str.{is_utf8}
use Rattle.serde_json.specs.Data.{Data}
use Rattle.serde_json.specs.Read.{read}
use Rattle.serde_json.specs.View.{view}
use Rattle.serde_json.specs.declared.value.Value.{Value}
use Rattle.bsp_fields.specs.CivilDay.{CivilDay}
use Rattle.bsp_fields.specs.Tokens.{token_reading}
use Rattle.bsp_memos.specs.Reasons.{reason_reading}
use Rattle.bsp_memos.specs.Texts.{kind_reading}
use Rattle.bsp_messages.specs.Values.{agent_in, airline_in, document_in, period_in, day_in}
use Rattle.bsp_messages.specs.Members.{of_exactly, value_at, number_at}
use Rattle.bsp_messages.specs.declared.fault.BodyFault.{BodyFault}
use Rattle.bsp_messages.specs.declared.fault.BodyFault.TheVariants.{Malformed, NoRoom}
use Rattle.bsp_messages.specs.declared.office_bodies.AgentRegistration.{AgentRegistration}
use Rattle.bsp_messages.specs.declared.office_bodies.AirlineRegistration.{AirlineRegistration}
use Rattle.bsp_messages.specs.declared.office_bodies.StockChange.{StockChange}
use Rattle.bsp_messages.specs.declared.memo_bodies.NamedMemo.{NamedMemo}
use Rattle.bsp_messages.specs.declared.airline_bodies.MemoIssue.{MemoIssue}
use Rattle.bsp_messages.specs.declared.airline_bodies.Reduction.{Reduction}

-- ---- one body

-- the data of bytes that are one JSON text, which is UTF-8
abbrev pub data_of : List ℕ → Option Data
data_of bytes = if is_utf8 bytes then read bytes else None

-- what a body holds, where it has the form
abbrev pub body_of : {A : Type 0} → (Data → Option A) → List ℕ → Option A
body_of form bytes = option_and_then form (data_of bytes)

-- the body is answered where the bytes have it, else they are malformed; memory is short only where there are bytes
abbrev pub Answers : {A : Type 0} → Option A → List ℕ → Result A BodyFault → Type 0
Answers body bytes (Ok value) = body ≡ Some value
Answers body bytes (Err Malformed) = body ≡ None
Answers body bytes (Err NoRoom) = 0 < length bytes

-- the same of a `Value`, by its data
abbrev pub DataAnswers : Option Data → List ℕ → Result Value BodyFault → Type 0
DataAnswers known bytes found = Answers known bytes (result_map_both view (λ fault. fault) found)

-- ---- the forms

-- `day`
abbrev pub day_form : Data → Option CivilDay
day_form = of_exactly 1 (value_at day_in (codes "day"))

-- `agent`, `token`
abbrev pub agent_registration_form : Data → Option AgentRegistration
agent_registration_form = of_exactly 2 (λ d.
    option_and_then (λ agent.
    option_map (λ token. record { agent = agent; token = token })
    (value_at token_reading (codes "token") d))
    (value_at agent_in (codes "agent") d))

-- `airline`, `token`
abbrev pub airline_registration_form : Data → Option AirlineRegistration
airline_registration_form = of_exactly 2 (λ d.
    option_and_then (λ airline.
    option_map (λ token. record { airline = airline; token = token })
    (value_at token_reading (codes "token") d))
    (value_at airline_in (codes "airline") d))

-- `agent`, `first`, `last`
abbrev pub stock_change_form : Data → Option StockChange
stock_change_form = of_exactly 3 (λ d.
    option_and_then (λ agent.
    option_and_then (λ first.
    option_map (λ last. record { agent = agent; range = record { first = first; last = last } })
    (value_at document_in (codes "last") d))
    (value_at document_in (codes "first") d))
    (value_at agent_in (codes "agent") d))

-- `period`
abbrev pub period_form : Data → Option ℕ
period_form = of_exactly 1 (value_at period_in (codes "period"))

-- `airline`, `document`
abbrev pub named_memo_form : Data → Option NamedMemo
named_memo_form = of_exactly 2 (λ d.
    option_and_then (λ airline.
    option_map (λ document. record { airline = airline; document = document })
    (value_at document_in (codes "document") d))
    (value_at airline_in (codes "airline") d))

-- `document`
abbrev pub document_form : Data → Option ℕ
document_form = of_exactly 1 (value_at document_in (codes "document"))

-- `amount`, `document`
abbrev pub reduction_form : Data → Option Reduction
reduction_form = of_exactly 2 (λ d.
    option_and_then (λ amount.
    option_map (λ document. record { amount = amount; document = document })
    (value_at document_in (codes "document") d))
    (number_at (codes "amount") d))

-- `agent`, `amount`, `document`, `kind`, `reason`
abbrev pub issue_form : Data → Option MemoIssue
issue_form = of_exactly 5 (λ d.
    option_and_then (λ agent.
    option_and_then (λ amount.
    option_and_then (λ document.
    option_and_then (λ kind.
    option_map (λ reason. record { agent = agent; amount = amount; document = document; kind = kind; reason = reason })
    (value_at reason_reading (codes "reason") d))
    (value_at kind_reading (codes "kind") d))
    (value_at document_in (codes "document") d))
    (number_at (codes "amount") d))
    (value_at agent_in (codes "agent") d))
