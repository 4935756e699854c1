use Rattle.std.specs.BTreeMap.{values}
use Rattle.std.proofs.lemmas.Iterator.{items_from_collect}
use Rattle.std.proofs.lemmas.Iterator.Consumers.{YieldsList-from_copied, YieldsList-from_rest}
use Rattle.bsp_maps.proofs.picks.copied.Goals as goal

pub returns-clause-found : goal.returns-clause-found
returns-clause-found g c = items_from_collect c.collect.result c.collect.ensures.ran (YieldsList-from_copied (YieldsList-from_rest (values c.args.entries.now) cc))
