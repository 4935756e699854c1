use Rattle.std.proofs.Common.{sym, ◌∙◌}
use Rattle.bsp_store_base.proofs.Entries.{found, item_total}
use Rattle.bsp_store_load.proofs.items.tax_at.Goals as goal

pub returns : goal.returns
returns c = c.copied.ensures ∙ c.get.ensures.value ∙ sym (found item_total c.args.taxes.now.entries c.args.key.now)
