use Rattle.bsp_store.proofs.LogLemmas.{adds_nothing}
use Rattle.bsp_store.proofs.missing_log.SpentLog.remove.Goals as goal

pub returns : goal.returns
returns g c = record { nothing = λ clean size db pages. adds_nothing size (g.D.Disk.seen c.args.self.log) db pages (c.args.self.spent clean) }
