use Rattle.std.proofs.Common.{ap}
use Rattle.bsp_maps.specs.Present.{present}
use Rattle.bsp_maps.proofs.EntryLemmas.{entry_exact}
use Rattle.bsp_maps.proofs.index.Index.roll_back.Goals as goal

pub roll_back-requires : goal.roll_back-requires
roll_back-requires g c = entry_exact c.requires

pub returns-clause-members : goal.returns-clause-members
returns-clause-members g c = ap present c.roll_back.ensures.content

pub returns-clause-before : goal.returns-clause-before
returns-clause-before g c = ap present c.roll_back.ensures.before
