use Rattle.bsp_http.proofs.RunLemmas.{message_is_read}
use Rattle.bsp_http.proofs.laws.messages_are_read.Goals as goal

pub returns : goal.returns
returns c = message_is_read
