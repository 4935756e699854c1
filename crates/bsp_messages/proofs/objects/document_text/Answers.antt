use Rattle.std.proofs.Common.{refl, rules}
use Rattle.bsp_messages.specs.Answers.{document_object}
use Rattle.bsp_messages.proofs.objects.document_text.Goals as goal

pub returns : goal.returns
returns c = c.object_text.ensures (document_object c.args.shown.now) (rw (c.in_ok-put_state.ensures, c.in_ok-put_sale.ensures, c.new-object.ensures.empty) refl) (search rules)
