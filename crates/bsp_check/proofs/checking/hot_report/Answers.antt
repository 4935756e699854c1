use Rattle.bsp_check.proofs.HotLemmas.{start_taken}
use Rattle.bsp_check.proofs.checking.hot_report.Goals as goal

pub report_on-requires-else-list-clause-none : goal.report_on-requires-else-list-clause-none
report_on-requires-else-list-clause-none g c = start_taken c.start-else-list.result c.start-else-list.ensures
