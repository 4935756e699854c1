use Rattle.bsp_routes.proofs.LineLemmas.{after_two}
use Rattle.bsp_routes.proofs.scan.after_bytes.Goals as goal

pub returns-in_default-3 : goal.returns-in_default-3
returns-in_default-3 c = after_two c.args.line c.args.bytes.now c.in_default.len_at_least
