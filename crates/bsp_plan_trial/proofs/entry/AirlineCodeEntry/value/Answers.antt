use Rattle.std.proofs.Common.{subst, sym}
use Rattle.std.specs.Prelude.{IsUtf8}
use Rattle.bsp_plan_trial.proofs.TextLemmas.{digits_utf8}
use Rattle.bsp_plan_trial.proofs.entry.AirlineCodeEntry.value.Goals as goal

pub text_value-requires : goal.text_value-requires
text_value-requires c = subst IsUtf8 (sym c.digits.ensures.text) (digits_utf8 3 c.args.self.now)
