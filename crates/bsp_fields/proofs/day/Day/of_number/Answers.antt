use Rattle.std.proofs.Common.{sym, ◌∙◌, refl, subst, inl, inr, w64}
use Rattle.jiff_core.specs.Calendar.{IsEpochDay}
use Rattle.std.proofs.lemmas.Int.{to_z-of_z}
use Rattle.bsp_fields.proofs.DayLemmas.{no_day, no_day_in_year, earlier, later}
use Rattle.bsp_fields.proofs.day.Day.of_number.Goals as goal
use Rattle.bsp_fields.proofs.day.Day.of_number.Goals.{then-year-lt2000-via-then-year-lt2000, then-year-lt2000-via-else-year-lt2000+then-year-gt2099}

pub returns-in_default : goal.returns-in_default
returns-in_default c =
    let stored = to_z-of_z w64 c.args.number c.ranges.number in
    (refl, no_day c.args.number (λ day. let found = c.in_default.ensures.succeeds.1 (subst IsEpochDay (sym stored) day) in cc found))

pub returns-then-year-lt2000 : goal.returns-then-year-lt2000
returns-then-year-lt2000 c =
    let stored = to_z-of_z w64 c.args.number c.ranges.number in (
      refl,
      no_day_in_year c.args.number c.in-Ok.date (c.in-Ok.ensures.value ∙ stored)
          (elim c.then-year-lt2000.branch [ then-year-lt2000-via-then-year-lt2000 w ↦ inl (earlier c.in-Ok.date w.if-year-lt2000.true) | then-year-lt2000-via-else-year-lt2000+then-year-gt2099 w ↦ inr (later c.in-Ok.date w.if-year-gt2099.true) ]),
    )
