use Rattle.std.proofs.Common.{rules}
use Rattle.bsp_connection.proofs.connection.Connection.feed.Goals as goal

pub returns-clause-taken : goal.returns-clause-taken
returns-clause-taken c = search rules
