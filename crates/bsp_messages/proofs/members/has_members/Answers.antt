use Rattle.std.proofs.Common.{◌∙◌, ◌==◌, ap, sym, false}
use Rattle.std.specs.Option.{option_map_or}
use Rattle.serde_json.specs.Data.{Members}
use Rattle.serde_json.specs.Events.{members_len}
use Rattle.serde_json.proofs.Views.{members_len-members_view}
use Rattle.bsp_messages.proofs.members.has_members.Goals as goal

pub returns-in-Some : goal.returns-in-Some
returns-in-Some c =
    ap (λ k. k == c.args.count) (c.len.ensures.len ∙ sym (members_len-members_view _))
    ∙ ap (λ o. option_map_or (λ (ms : Members). members_len ms == c.args.count) o false) c.in-Some.ensures
