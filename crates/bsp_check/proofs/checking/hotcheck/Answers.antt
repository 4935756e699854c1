use Rattle.bsp_check.specs.Streams.{most}
use Rattle.bsp_check.specs.HotReport.{IsHotReport}
use Rattle.bsp_check.proofs.Reports.{cut_short, reported_whole, three_statuses}
use Rattle.bsp_check.proofs.checking.hotcheck.Goals as goal

pub returns-clause-reports : goal.returns-clause-reports
returns-clause-reports g c = λ either.
    let told = c.hotcheck_within.ensures.answer in
    let whole = reported_whole (IsHotReport c.args.list) most told.0 _ _ _ c.hotcheck_within.result told.3 either in
    (told.0, told.1, whole.0, whole.1, whole.2, whole.3, whole.4)

pub returns-clause-refused : goal.returns-clause-refused
returns-clause-refused g c = λ three.
    let told = c.hotcheck_within.ensures.answer in (told.0, told.1, cut_short (IsHotReport c.args.list) most told.0 _ _ _ c.hotcheck_within.result told.3 three)

pub returns-clause-statuses : goal.returns-clause-statuses
returns-clause-statuses g c = three_statuses c.hotcheck_within.result
