use Rattle.std.proofs.Common.{inl}
use Rattle.bsp_connection.proofs.connection.Connection.is_done.Goals as goal

pub returns-else-is_empty-clause-not_done : goal.returns-else-is_empty-clause-not_done
returns-else-is_empty-clause-not_done g c = λ waits. inl (c.is_empty.ensures.waits c.if-is_empty.false)
