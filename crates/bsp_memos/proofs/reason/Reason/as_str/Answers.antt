use Rattle.std.proofs.Common.{take}
use Rattle.bsp_memos.proofs.ReasonLemmas.{reason-utf8}
use Rattle.bsp_memos.proofs.reason.Reason.as_str.Goals as goal

pub unreachable-requires : goal.unreachable-requires
unreachable-requires c = c.in_default.ensures.cases.0 (reason-utf8 (take c.self.inside.count c.self.inside.characters) (search (c.self.invariant.reason)))
