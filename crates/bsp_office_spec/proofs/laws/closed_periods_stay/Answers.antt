use Rattle.bsp_office_spec.proofs.ClosedKept.{closed_stays}
use Rattle.bsp_office_spec.proofs.Reports.{reports_stay}
use Rattle.bsp_office_spec.proofs.ShownInRuns.{runs_show}
use Rattle.bsp_office_spec.proofs.laws.closed_periods_stay.Goals as goal

pub returns-clause-rows : goal.returns-clause-rows
returns-clause-rows c = closed_stays

pub returns-clause-reports : goal.returns-clause-reports
returns-clause-reports c = reports_stay

pub returns-clause-runs : goal.returns-clause-runs
returns-clause-runs c = runs_show
