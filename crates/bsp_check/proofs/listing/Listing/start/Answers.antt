use Rattle.bsp_check.proofs.HotLemmas.{start_taken}
use Rattle.bsp_check.proofs.listing.Listing.start.Goals as goal

pub returns : goal.returns
returns c = (start_taken c.start.result c.start.ensures, c.new.ensures)
