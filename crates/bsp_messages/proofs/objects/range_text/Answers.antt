use Rattle.std.proofs.Common.{refl}
use Rattle.bsp_messages.specs.Answers.{range_object}
use Rattle.bsp_messages.proofs.objects.range_text.Goals as goal

pub returns : goal.returns
returns c = c.object_text.ensures (range_object c.args.shown.now) (rw (c.in_ok-put_range.ensures, c.new-object.ensures.empty) refl) refl
