use Rattle.bsp_ret.proofs.SameContent.{one_content}
use Rattle.bsp_ret.proofs.values.one_content.Goals as goal

pub returns : goal.returns
returns c n lines = one_content n lines
