-- The target of a date of issue is a published period that is not closed, and that has begun.
use Rattle.std.proofs.Common.{◌≡◌, ◌&&◌, not, refl, ap, ◌∙◌}
use Rattle.std.specs.Prelude.{Option, Some, None, IfSome, option_map}
use Rattle.std.specs.List.{find}
use Rattle.std.proofs.lemmas.Bool.{and_parts, not-true}
use Rattle.bsp_fields.specs.CivilDay.{CivilDay}
use Rattle.bsp_calendar.specs.DayOrder.{is_up_to}
use Rattle.bsp_calendar.specs.Published.{Published, IsTarget, is_closed, takes, target_of}
use Rattle.bsp_calendar.specs.declared.entries.Period.{Period}
use Rattle.bsp_calendar.proofs.ListLemmas.{find_contains}
use Rattle.bsp_calendar.proofs.PeriodLemmas.{AreApart, period_is}

found_target : (p : Published) (issued : CivilDay) → AreApart p.periods → (o : Option Period) → find (takes p issued) p.periods ≡ o → IfSome (option_map (λ q. q.code) o) (IsTarget p issued)
found_target p issued apart None is = tt
found_target p issued apart (Some q) is =
    let ((i, within, at), holds) = find_contains (takes p issued) p.periods q is in
    let unclosed = and_parts (not (is_closed p q.code)) (is_up_to issued q.last && is_up_to q.first p.day) holds in
    let days = and_parts (is_up_to issued q.last) (is_up_to q.first p.day) unclosed.1 in
    record {
      period = q;
      is = period_is p.periods q.code i q apart within (ap (λ (r : Period). r.code) at) ∙ ap (λ (r : Period). Some r) at;
      unclosed = not-true _ unclosed.0;
      in_time = days.0;
      begun = days.1;
    }

pub in_target : (p : Published) (issued : CivilDay) → AreApart p.periods → IfSome (target_of p issued) (IsTarget p issued)
in_target p issued apart = found_target p issued apart (find (takes p issued) p.periods) refl
