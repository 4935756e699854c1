use Rattle.std.proofs.Common.{ap, ◌∙◌}
use Rattle.std.specs.Prelude.{slice_get}
use Rattle.bsp_store_base.specs.Columns.{meta_row}
use Rattle.bsp_rows.proofs.MapLemmas.{same_Some}
use Rattle.bsp_store_load.proofs.published.meta_in.Goals as goal

pub returns : goal.returns
returns c = λ meta fits is.
    let first = same_Some c.in_ok-first.field-0.now (meta_row meta) (c.in_ok-first.ensures.value ∙ ap (λ l. slice_get l 0) is) in
    c.read_entry.ensures.back meta fits tt first
