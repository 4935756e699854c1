use Rattle.bsp_calendar.proofs.HistoryLemmas.{history_holds}
use Rattle.bsp_calendar.proofs.history.published_history.Goals as goal

pub returns : goal.returns
returns c = history_holds
