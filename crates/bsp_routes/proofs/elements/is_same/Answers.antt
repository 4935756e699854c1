use Rattle.bsp_routes.proofs.ElementLemmas.{same_name}
use Rattle.bsp_routes.proofs.elements.is_same.Goals as goal

pub returns : goal.returns
returns c = same_name c.args.text.now c.args.name.now c.eq_ignore_ascii_case.result c.eq_ignore_ascii_case.ensures.test
