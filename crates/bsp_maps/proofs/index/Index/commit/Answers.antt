use Rattle.std.proofs.Common.{ap, ◌∙◌}
use Rattle.bsp_maps.specs.Present.{present}
use Rattle.bsp_maps.proofs.EntryLemmas.{entry_exact}
use Rattle.bsp_maps.proofs.index.Index.commit.Goals as goal

pub commit_present-requires : goal.commit_present-requires
commit_present-requires g c = entry_exact c.requires

pub returns-clause-before : goal.returns-clause-before
returns-clause-before g c = ap present c.commit_present.ensures.before ∙ c.commit_present.ensures.content
