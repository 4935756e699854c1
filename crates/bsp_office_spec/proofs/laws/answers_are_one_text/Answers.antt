use Rattle.bsp_office_spec.proofs.TextLemmas.{one_message}
use Rattle.bsp_office_spec.proofs.laws.answers_are_one_text.Goals as goal

pub returns : goal.returns
returns c = one_message
