use Rattle.bsp_calendar.proofs.ListLemmas.{is_empty-drop}
use Rattle.bsp_calendar.proofs.checks.has_none_beyond.Goals as goal

pub returns : goal.returns
returns g c = is_empty-drop c.args.known c.args.entries.now
