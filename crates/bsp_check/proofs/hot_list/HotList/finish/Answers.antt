use Rattle.bsp_check.proofs.HotListLemmas.{finished}
use Rattle.bsp_check.proofs.hot_list.HotList.finish.Goals as goal

pub returns : goal.returns
returns c = λ ls has. finished c.args.self ls c.end_document.new.self.text.items c.in_ok-end_document.ensures.text has
