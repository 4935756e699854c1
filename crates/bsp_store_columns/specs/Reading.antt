-- What a column of a row reads as, whatever another program wrote there.
use Rattle.std.specs.Prelude.{◌≡◌, ◌≢◌, Bool, false, if◌then◌else◌, IsTrue, List, MatchOption, nat_lt, None, Option, option_and_then, option_map, pos, Some, true, ℕ, ℤ}
use Rattle.std.specs.Result.{result_ok}
use Rattle.sqlite_value.specs.declared.value.Value.TheVariants.{Int, Null, Text}
use Rattle.sqlite_value.specs.declared.value.Value.{Value}
use Rattle.bsp_rows.specs.CivilDay.{CivilDay}
use Rattle.bsp_rows.specs.Texts.{kind_reading, state_reading}
use Rattle.bsp_rows.specs.MemoKind.{MemoKind}
use Rattle.bsp_rows.specs.MemoState.{MemoState}
use Rattle.bsp_rows.specs.CivilDay.{is_day}
use Rattle.bsp_rows.specs.Codes.{agent_reading, code_reading}
use Rattle.bsp_rows.specs.Days.{day_number}
use Rattle.bsp_rows.specs.Tokens.{token_reading}
use Rattle.sqlite_value.specs.Order.{column, Row}
use Rattle.bsp_rows.specs.declared.keys.TallyKey.{TallyKey}
use Rattle.bsp_rows.specs.Zoned.{within}

abbrev pub is_null : Value → Bool
is_null Null = true
is_null _ = false

abbrev pub int_in : Value → Option ℤ
int_in (Int n) = Some n
int_in _ = None

abbrev pub text_in : Value → Option (List ℕ)
text_in (Text t) = Some t
text_in _ = None

-- a number from 0 to below this
abbrev pub below : ℕ → Value → Option ℕ
below most (Int (pos n)) = if nat_lt n most then Some n else None
below most _ = None

-- an agent's code, whose last digit is a check digit
abbrev pub agent_in : Value → Option ℕ
agent_in v = option_and_then (λ t. result_ok (agent_reading t)) (text_in v)

-- a code of that many digits: an airline has 3, a period 5, and a document's number 10
abbrev pub code_in : ℕ → Value → Option ℕ
code_in width v = option_and_then (λ t. result_ok (code_reading width t)) (text_in v)

abbrev pub token_in : Value → Option (List ℕ)
token_in v = option_and_then token_reading (text_in v)

abbrev pub amount_in : Value → Option ℤ
amount_in v = option_and_then (λ n. result_ok (within 99_999_999_999 n)) (int_in v)

-- the day with this number, and none where no day has it
abbrev pub IsDayIn : Value → Option CivilDay → Type 0
IsDayIn v o = MatchOption o ((d : CivilDay) → IsTrue (is_day d) → v ≢ Int (day_number d)) (λ d. (v ≡ Int (day_number d)) × IsTrue (is_day d))

-- what one or several columns read as, and nothing where the first of them is NULL
abbrev pub if_there : {A : Type 0} → Value → Option A → Option (Option A)
if_there v read = if is_null v then Some None else option_map Some read

abbrev pub kind_in : Value → Option MemoKind
kind_in v = option_and_then kind_reading (text_in v)

abbrev pub state_in : Value → Option MemoState
state_in v = option_and_then state_reading (text_in v)

-- the key of a tally in the first three columns
abbrev pub tally_key_in : Row → Option TallyKey
tally_key_in r =
    option_and_then (λ agent. option_and_then (λ airline. option_map (λ period. record { agent = agent; airline = airline; period = period })
    (code_in 5 (column r 2))) (code_in 3 (column r 1))) (agent_in (column r 0))
