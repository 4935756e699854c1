use Rattle.std.proofs.Common.{refl, []}
use Rattle.bsp_store_base.proofs.Base.{meta_part, table_shown}
use Rattle.bsp_store_rows.proofs.MetaTable.{all_text, names, all_is}
use Rattle.bsp_store_rows.proofs.Orders.{meta_rise}
use Rattle.bsp_store_rows.proofs.one_row.meta_query.Goals as goal

pub returns : goal.returns
returns c =
    table_shown meta_part all_text names [] all_is.0 all_is.1 all_is.2 (λ db. refl) (λ trees r. refl) (λ trees r. refl) meta_rise (λ content trees kept. kept.0.rows)
