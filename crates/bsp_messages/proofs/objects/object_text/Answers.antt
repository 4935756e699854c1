use Rattle.std.proofs.Common.{◌∙◌}
use Rattle.serde_json.proofs.Views.{view-Object}
use Rattle.bsp_messages.proofs.TextLemmas.{plain_text}
use Rattle.bsp_messages.proofs.objects.object_text.Goals as goal

pub returns : goal.returns
returns c shown is plain = plain_text c.to_vec.result _ shown (view-Object c.args.object ∙ is) plain c.to_vec.ensures.text
