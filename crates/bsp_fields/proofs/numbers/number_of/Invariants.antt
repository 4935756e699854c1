use Rattle.std.proofs.Common.{◌≡◌, take}
use Rattle.bsp_fields.specs.Decimal.{number_of}
use Rattle.bsp_fields.proofs.numbers.number_of.Given as goal

abbrev pub invariant-loop-digit : goal.invariant-loop-digit
invariant-loop-digit l = l.number ≡ number_of (take l.digit-index l.text)
