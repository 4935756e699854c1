use Rattle.std.proofs.Common.{rules}
use Rattle.bsp_http.proofs.answers.answer_bytes.Goals as goal

pub returns : goal.returns
returns g c = search rules
