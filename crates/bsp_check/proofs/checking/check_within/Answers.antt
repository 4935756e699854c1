use Rattle.std.proofs.Common.{length}
use Rattle.bsp_check.specs.RetReport.{IsRetReport}
use Rattle.bsp_check.specs.Verdicts.{IsRetExplained}
use Rattle.bsp_check.proofs.Pieces.{within_one}
use Rattle.bsp_check.proofs.Reports.{sent_reported, sent_explained}
use Rattle.bsp_check.proofs.checking.check_within.Goals as goal

pub returns-in-Ok-clause-answer : goal.returns-in-Ok-clause-answer
returns-in-Ok-clause-answer g c =
    let report = c.in-Ok.report in
    let found = c.in-Ok.ensures.report in
    let bytes = found.bytes in (
      bytes,
      found.taken,
      within_one (length bytes) c.args.limit found.within,
      sent_reported IsRetReport c.args.limit bytes report.text.items report.verdict _ _ _ c.write_report.result found.at_end found.within found.is.0 c.write_report.ensures.sent,
      sent_explained IsRetExplained bytes report.text.items report.verdict _ _ c.write_report.result found.is.1 c.write_report.ensures.sent,
    )
