use Rattle.bsp_store_base.proofs.Std.{◌∙◌, ap, from_entries, is_some, nat_cmp_total, Option, subst, sym}
use Rattle.bsp_store_base.specs.MapTables.{after, holds_row}
use Rattle.bsp_store_load.specs.AirlineEntry.{AirlineEntry}
use Rattle.bsp_store_rows.specs.Tables.{airlines_map}
use Rattle.bsp_maps.proofs.UndoLemmas.{found}
use Rattle.bsp_store_save.specs.Saving.{Saves}
use Rattle.bsp_store_save.proofs.AirlineSteps.{published}
use Rattle.bsp_store_save.proofs.StepLemmas.{ended}
use Rattle.bsp_store_save.proofs.airlines.publish.Goals as goal

pub returns : goal.returns
returns g c =
    let code = c.index-published-at.result in
    let token = c.copied-token.ensures ∙ c.get.ensures.value ∙ sym (found nat_cmp_total c.args.tokens.now.entries code) in
    published c.args.published.now (from_entries c.args.tokens.now.entries) c.args.at code c.requires c.index-published-at.is c.place_of.result c.copied-token.result c.is_some-is_there.result
    c.place_of.ensures.value token (c.is_some-is_there.ensures ∙ ap is_some c.of.ensures) c.put.result
    (subst (λ (s : Option AirlineEntry). Saves g.S.Store c.args.conn.now c.put.new.conn c.put.result (holds_row airlines_map code c.is_some-is_there.result) (after airlines_map code s)) c.of-stored.ensures (ended c.put.result c.put.ensures.ok c.put.ensures.err))
