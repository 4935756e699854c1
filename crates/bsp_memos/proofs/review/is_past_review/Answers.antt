use Rattle.std.proofs.Common.{rules}
use Rattle.bsp_memos.proofs.review.is_past_review.Goals as goal

pub returns : goal.returns
returns c = search rules
