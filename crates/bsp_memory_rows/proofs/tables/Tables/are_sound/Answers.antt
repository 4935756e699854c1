use Rattle.std.proofs.Common.{subst, ap, ◌∙◌}
use Rattle.std.specs.Bool.{Decides}
use Rattle.std.specs.Ordering.{nat_cmp}
use Rattle.bsp_maps.specs.Undo.{content}
use Rattle.bsp_maps.specs.Present.{present}
use Rattle.bsp_maps.proofs.PickLemmas.{if_ok}
use Rattle.bsp_rows.specs.Audit.{as_map}
use Rattle.bsp_rows.specs.Rows.{Rows, item_cmp, memo_cmp, range_cmp}
use Rattle.bsp_rows.specs.Sound.{Sound}
use Rattle.bsp_memory_rows.proofs.tables.Tables.are_sound.Goals as goal

pub returns : goal.returns
returns c = if_ok c.are_sound.result (λ sound is. subst (λ (r : Rows). Decides sound (Sound r))
    (λ j. record {
      published = c.plan.ensures j;
      agents = as_map nat_cmp (c.map-2.ensures j);
      airlines = content nat_cmp c.args.self.now.airlines;
      ranges = (c.in_ok-ranges.ensures ∙ ap (λ m. present (as_map range_cmp m)) c.map.ensures) j;
      items = as_map item_cmp (c.map-3.ensures j);
      memos = as_map memo_cmp (c.map-4.ensures j);
    }) (is (content nat_cmp c.args.self.now.airlines))) c.are_sound.ensures
