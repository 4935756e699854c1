use Rattle.bsp_calendar.proofs.GrowsLemmas.{untaxed_zero}
use Rattle.bsp_calendar.proofs.history.untaxed_is_zero.Goals as goal

pub returns : goal.returns
returns c = untaxed_zero
