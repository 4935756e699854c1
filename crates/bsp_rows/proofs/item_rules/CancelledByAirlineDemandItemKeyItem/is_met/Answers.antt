use Rattle.std.proofs.Common.{◌≡◌, sym, ap, ◌∙◌}
use Rattle.std.specs.FinMap.{get}
use Rattle.bsp_rows.specs.Audit.{as_map}
use Rattle.bsp_rows.specs.Rows.{item_cmp}
use Rattle.bsp_rules.specs.declared.rows.Item.{Item}
use Rattle.bsp_rows.proofs.ItemRuleLemmas.{equal_numbers, of_found, of_none}
use Rattle.bsp_rows.proofs.item_rules.CancelledByAirlineDemandItemKeyItem.is_met.Goals as goal

pub returns-in-Some : goal.returns-in-Some
returns-in-Some c = of_found (λ (j : Item). j.transaction.document.airline ≡ c.args.item.now.transaction.document.airline) _ c.in-Some.canx c.eq.result (sym (ap (get (as_map item_cmp c.args.self.now.0.now)) c.canx.ensures) ∙ (sym c.at.ensures ∙ c.in-Some.is)) (equal_numbers _ _ c.eq.result c.eq.ensures)

pub returns-in-None : goal.returns-in-None
returns-in-None c = of_none (λ (j : Item). j.transaction.document.airline ≡ c.args.item.now.transaction.document.airline) _ (sym (ap (get (as_map item_cmp c.args.self.now.0.now)) c.canx.ensures) ∙ (sym c.at.ensures ∙ c.in-None.is))
