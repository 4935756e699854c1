use Rattle.std.proofs.Common.{ap, ◌∙◌}
use Rattle.bsp_maps.specs.Present.{present}
use Rattle.bsp_maps.proofs.PresentLemmas.{no_present}
use Rattle.bsp_maps.specs.Indexes.{entry_cmp}
use Rattle.bsp_maps.proofs.EntryLemmas.{entry_exact, entry_total}
use Rattle.bsp_maps.proofs.index.Index.new.Goals as goal

pub returns-clause-members : goal.returns-clause-members
returns-clause-members g c = ap present c.new.ensures.content ∙ no_present (entry_cmp g.P.Ord.cmp g.K.Ord.cmp) (entry_total g.met.P.Ord.total g.met.K.Ord.total) (entry_exact c.requires)

pub returns-clause-before : goal.returns-clause-before
returns-clause-before g c = ap present c.new.ensures.before ∙ no_present (entry_cmp g.P.Ord.cmp g.K.Ord.cmp) (entry_total g.met.P.Ord.total g.met.K.Ord.total) (entry_exact c.requires)
