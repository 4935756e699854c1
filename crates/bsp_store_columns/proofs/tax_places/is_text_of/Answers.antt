use Rattle.std.proofs.Common.{◌∙◌, ap, map, sym}
use Rattle.std.proofs.lemmas.Bool.Decides.{Decides-eqb}
use Rattle.std.proofs.lemmas.Slice.Eq.{slice_eq-Decides}
use Rattle.std.specs.List.{flat_map}
use Rattle.bsp_rows.specs.Writing.{tax_text}
use Rattle.bsp_store_columns.proofs.Words.{flat_concat}
use Rattle.bsp_store_columns.proofs.tax_places.is_text_of.Goals as goal

pub returns : goal.returns
returns c =
    let it = slice_eq-Decides Decides-eqb c.args.text.now c.as_flattened.result.now c.eq.result c.eq.ensures in
    let same = c.as_flattened.ensures.value ∙ ap (flat_map (λ x. x)) c.places_of.ensures ∙ flat_concat (map tax_text c.args.taxes.now) in
    (λ yes. it.0 yes ∙ same, λ is. it.1 (is ∙ sym same))
