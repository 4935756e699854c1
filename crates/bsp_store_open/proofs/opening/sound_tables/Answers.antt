use Rattle.bsp_store_open.proofs.LoadedLemmas.{not_sound}
use Rattle.bsp_store_open.proofs.OpeningLemmas.{denies, gives, stops, unsound_if_refused}
use Rattle.bsp_store_open.proofs.opening.sound_tables.Goals as goal

pub returns-in_err-tables : goal.returns-in_err-tables
returns-in_err-tables g c = stops c.from_residual.ensures.1 c.in_err-tables.ensures (λ fault trees none. none)

pub returns-in_err-expect_sound : goal.returns-in_err-expect_sound
returns-in_err-expect_sound g c =
    denies _ c.from_residual-in_err-expect_sound.ensures.1 c.in_ok-tables.ensures (λ refused trees loaded. not_sound _ trees c.in_ok-tables.tables loaded (unsound_if_refused _ _ c.in_err-expect_sound.ensures.refused refused))

pub returns : goal.returns
returns g c = gives c.in_ok-tables.ensures (λ it. (it.0, it.1, c.in_ok-expect_sound.ensures.sound)) (λ trees loaded. loaded)
