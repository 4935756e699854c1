use Rattle.bsp_calendar.proofs.GrowsLemmas.{reached_grows}
use Rattle.bsp_calendar.proofs.history.closed_stays.Goals as goal

pub returns : goal.returns
returns c = λ p requests m sound is. reached_grows requests p m sound is
