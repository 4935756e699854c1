use Rattle.std.proofs.Common.{refl}
use Rattle.bsp_messages.specs.Answers.{period_object}
use Rattle.bsp_messages.proofs.objects.period_text.Goals as goal

pub returns : goal.returns
returns c = c.in_ok-object_text.ensures (period_object c.args.shown.now) (rw (c.in_ok-put_net.ensures, c.in_ok-put_counts.ensures, c.new-object.ensures.empty) refl) refl
