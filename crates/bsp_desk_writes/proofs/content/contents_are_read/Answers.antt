use Rattle.bsp_desk_writes.proofs.ContentsRead.{each_content_is_read}
use Rattle.bsp_desk_writes.proofs.content.contents_are_read.Goals as goal

pub returns : goal.returns
returns c = each_content_is_read
