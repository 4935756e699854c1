use Rattle.bsp_ret_writer.proofs.ContentMakes.{makes_group}
use Rattle.bsp_ret_writer.proofs.content.is_group.Goals as goal

pub returns-clause-makes : goal.returns-clause-makes
returns-clause-makes c = rw c.fits_group.ensures (makes_group c.args.transaction.now c.stored.ensures)
