use Rattle.std.proofs.Common.{refl, rules}
use Rattle.bsp_messages.specs.Answers.{memo_object}
use Rattle.bsp_messages.proofs.objects.memo_text.Goals as goal

pub returns : goal.returns
returns c = c.object_text.ensures (memo_object c.args.memo.now) (c.in_ok-put_memo.ensures (rw c.new-object.ensures.empty refl)) (search rules)
