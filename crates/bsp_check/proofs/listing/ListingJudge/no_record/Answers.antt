use Rattle.bsp_hot_check.proofs.Judging.{narrow_line}
use Rattle.bsp_check.proofs.listing.ListingJudge.no_record.Goals as goal

pub returns : goal.returns
returns c = λ line narrow. narrow_line c.args.self.now.at line narrow
