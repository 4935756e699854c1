use Rattle.std.proofs.Common.{refl}
use Rattle.serde_json.proofs.Views.{members_view-insert_entry}
use Rattle.bsp_messages.proofs.objects.put.Goals as goal

pub returns : goal.returns
returns c = rw (c.in_ok-insert.ensures.entries, members_view-insert_entry c.args.object.now.entries c.in_ok-from_str.field-0 c.args.value, c.in_ok-from_str.ensures.ok) refl
