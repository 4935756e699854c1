use Rattle.std.proofs.Common.{◌≡◌, List, ◌∷◌, ap, map, sym, ◌∙◌, ℕ}
use Rattle.std.specs.List.{filter}
use Rattle.bsp_fields.specs.CivilDay.{CivilDay}
use Rattle.bsp_calendar.specs.DayOrder.{is_up_to}
use Rattle.bsp_calendar.specs.declared.entries.Period.{Period}
use Rattle.bsp_judge.specs.Asked.{later_day, open_until}
use Rattle.bsp_judge.specs.Asked.Task.{Close, SetDay}
use Rattle.bsp_judge.proofs.StatementLemmas.{closes_of}
use Rattle.bsp_judge.proofs.stating.closing_of.Goals as goal

pub returns : goal.returns
returns c =
    let plan = c.args.plan.now in
    let q = c.args.period.now in
    let day : later_day plan.day q.remittance ≡ c.later_day-day.result = sym (c.later_day-day.ensures ∙ ap (λ (d : CivilDay). later_day d q.remittance) c.day.ensures) in
    let codes : c.in_ok-codes.codes.items ≡ map (λ (p : Period). p.code) (open_until q.last plan) =
    c.in_ok-codes.ensures ∙ ap (λ (qs : List Period). map (λ (p : Period). p.code) (filter (λ (p : Period). is_up_to p.last q.last) qs)) c.open_periods.ensures in
    let closes = sym (ap (map (λ (code : ℕ). Close code)) codes ∙ closes_of (open_until q.last plan)) in
    λ i. SetDay (day i) ∷ closes i
