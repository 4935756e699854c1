use Rattle.std.proofs.Common.{ap}
use Rattle.bsp_rules.specs.FactsOf.{facts_in}
use Rattle.bsp_rules.specs.declared.facts.Facts.{Facts}
use Rattle.bsp_rules.proofs.SameContentLemmas.{held_is}
use Rattle.bsp_rules.proofs.SelectedLemmas.{facts_selected}
use Rattle.bsp_rules.proofs.gathering.facts_of.Goals as goal

pub returns-clause-selected : goal.returns-clause-selected
returns-clause-selected c =
    facts_selected c.gathered.result c.args.registered c.args.ranges.now c.args.items.now c.args.transaction.now c.args.plan.now c.gathered.ensures

pub returns-clause-held : goal.returns-clause-held
unfolding facts_in
returns-clause-held c =
    let t = c.args.transaction.now in
    let items = c.args.items.now in
    let same = ap (λ (f : Facts). f.held) c.gathered.ensures in
    rw same (held_is t items)
