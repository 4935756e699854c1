use Rattle.std.proofs.Common.{refl, []}
use Rattle.bsp_store_base.proofs.Base.{table_shown, terms_part}
use Rattle.bsp_store_rows.proofs.MetaTable.{all_terms_is, all_terms_text}
use Rattle.bsp_store_rows.proofs.Orders.{terms_rise}
use Rattle.bsp_store_rows.proofs.one_row.terms_query.Goals as goal

pub returns : goal.returns
returns c =
    table_shown terms_part all_terms_text _ [] all_terms_is.0 all_terms_is.1 all_terms_is.2 (λ db. refl) (λ trees r. refl) (λ trees r. refl) terms_rise (λ content trees kept. kept.1.0.rows)
