use Rattle.bsp_http.proofs.RunLemmas.{messages_run}
use Rattle.bsp_http.proofs.laws.messages_are_run.Goals as goal

pub returns : goal.returns
returns g c = messages_run g.B.Book.means
