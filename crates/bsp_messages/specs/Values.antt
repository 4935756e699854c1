-- The values of paths and bodies, where a text has their form.
use Rattle.std.specs.Prelude.{ℕ, List, Option, Some, None, Result, Ok, Err}
use Rattle.std.specs.Result.{result_ok}
use Rattle.bsp_fields.specs.CivilDay.{CivilDay}
use Rattle.bsp_fields.specs.Codes.{code_reading, agent_reading}
use Rattle.bsp_fields.specs.Days.{text_reading}
use Rattle.bsp_fields.specs.declared.fault.FieldFault.{FieldFault}
use Rattle.bsp_fields.specs.declared.fault.FieldFault.TheVariants.{Width, NotDigit, NotSign, CheckDigit, TooLarge, NotDay}
use Rattle.bsp_messages.specs.declared.values.StatedAgent.{StatedAgent}

-- a code, or eight digits with a wrong check digit, which have none
abbrev pub stated : Result ℕ FieldFault → Option StatedAgent
stated (Ok agent) = Some (record { code = Some agent })
stated (Err CheckDigit) = Some (record { code = None })
stated (Err Width) = None
stated (Err NotDigit) = None
stated (Err NotSign) = None
stated (Err TooLarge) = None
stated (Err NotDay) = None

-- eight digits, whatever the check digit
abbrev pub agent_in : List ℕ → Option StatedAgent
agent_in text = stated (agent_reading text)

-- three digits
abbrev pub airline_in : List ℕ → Option ℕ
airline_in text = result_ok (code_reading 3 text)

-- ten digits, without the check digit
abbrev pub document_in : List ℕ → Option ℕ
document_in text = result_ok (code_reading 10 text)

-- five digits
abbrev pub period_in : List ℕ → Option ℕ
period_in text = result_ok (code_reading 5 text)

-- YYYY-MM-DD
abbrev pub day_in : List ℕ → Option CivilDay
day_in text = result_ok (text_reading text)
