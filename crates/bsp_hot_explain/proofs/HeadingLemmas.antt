-- The heading of a state is that of the first line.
use Rattle.std.proofs.Common.{◌≡◌, ℕ, ◌+◌, Bool, true, false, List, [], ◌∷◌, Option, Some, None, refl, sym, ap, subst, ◌∙◌}
use Rattle.std.proofs.lemmas.Option.{none-some}
use Rattle.bsp_hot_records.specs.declared.form.FileForm.TheVariants.{One}
use Rattle.bsp_hot_records.specs.declared.model.Heading.{Heading}
use Rattle.bsp_hot_records.specs.declared.model.PartOf.{PartOf}
use Rattle.bsp_hot_records.specs.declared.model.Record.{Record}
use Rattle.bsp_hot_records.specs.declared.model.Record.TheVariants as record_is
use Rattle.bsp_hot_records.specs.Reading.{judged_at}
use Rattle.bsp_hot_check.specs.declared.model.Place.{Place}
use Rattle.bsp_hot_check.specs.declared.model.Place.TheVariants.{Start, Headed, Between, Opened, Begun, InDocument, Totalled, Closed, Ended}
use Rattle.bsp_hot_check.specs.declared.model.Standing.{Standing}
use Rattle.bsp_hot_check.specs.Standings.{start, moved, allowed, is_at, step, part_step, form_at}
use Rattle.bsp_hot_check.specs.Judging.{step_or, step_line, stands_after}
use Rattle.bsp_hot_check.proofs.StateLemmas.{stands_nil, begins_allowed}
use Rattle.bsp_hot_explain.specs.Headings.{heading_said, heading_in}

-- a state after the first record, with this heading
pub record IsHeaded (at : Standing) (heading : Option Heading) : Type 0 where
  pub place : is_at Start at.place ≡ false
  pub heading_is : at.heading ≡ heading

by_allowed : (test : Bool) (at next : Standing) (heading : Option Heading) → IsHeaded at heading → allowed test at ≡ Some next → IsHeaded next heading
by_allowed true at next heading headed is = let same : at ≡ next = cc is in subst (λ (s : Standing). IsHeaded s heading) same headed
by_allowed false at next heading headed is = absurd (none-some next is)

not_twice : (test : Bool) (at next : Standing) (heading : Option Heading) → test ≡ false → allowed test at ≡ Some next → IsHeaded next heading
not_twice true at next heading other is = absurd cc
not_twice false at next heading other is = absurd (none-some next is)

-- ---- a later record

part_keeps : (at next : Standing) (place : Place) (heading : Option Heading) (y : PartOf) → part_step at place heading y ≡ Some next → IsHeaded next at.heading
part_keeps at next (InDocument x) (Some h) y is = by_allowed _ _ next at.heading (record { place = refl; heading_is = refl }) is
part_keeps at next _ _ y is = absurd (none-some next is)

step_keeps : (at next : Standing) (r : Record) → is_at Start at.place ≡ false → step at r ≡ Some next → IsHeaded next at.heading
unfolding step
step_keeps at next (record_is.FileHeader h) later is = not_twice (is_at Start at.place) _ next at.heading later is
step_keeps at next (record_is.PeriodHeader period) later is = by_allowed _ _ next at.heading (record { place = refl; heading_is = refl }) is
step_keeps at next (record_is.OfficeHeader o) later is = by_allowed _ _ next at.heading (record { place = refl; heading_is = refl }) is
step_keeps at next (record_is.TransactionHeader t) later is = by_allowed _ _ next at.heading (record { place = refl; heading_is = refl }) is
step_keeps at next (record_is.Document d) later is = by_allowed _ _ next at.heading (record { place = refl; heading_is = refl }) is
step_keeps at next (record_is.PartOf y) later is = part_keeps at next at.place at.heading y is
step_keeps at next (record_is.CodeTotals t) later is = by_allowed _ _ next at.heading (record { place = refl; heading_is = refl }) is
step_keeps at next (record_is.OfficeTotals t) later is = by_allowed _ _ next at.heading (record { place = refl; heading_is = refl }) is
step_keeps at next (record_is.PeriodTotals t) later is = by_allowed _ _ next at.heading (record { place = refl; heading_is = refl }) is
step_keeps at next (record_is.FileTotals t) later is = by_allowed _ _ next at.heading (record { place = refl; heading_is = refl }) is

or_keeps : (at next : Standing) (r : Option Record) → is_at Start at.place ≡ false → step_or at r ≡ Some next → IsHeaded next at.heading
or_keeps at next None later is = absurd (none-some next is)
or_keeps at next (Some r) later is = step_keeps at next r later is

later_lines : (ls : List (List ℕ)) (at then : Standing) → is_at Start at.place ≡ false → stands_after at ls ≡ Some then → then.heading ≡ at.heading
later_lines [] at then later is =
    let same : at ≡ then = cc (sym (stands_nil at) ∙ is) in ap (λ (s : Standing). s.heading) (sym same)
later_lines (line ∷ ls) at then later is =
    let first = begins_allowed at then line ls is in
    let next = or_keeps at first.0 (judged_at (form_at at.heading) (at.records + 1) line) later first.1 in
    later_lines ls first.0 then next.place first.2 ∙ next.heading_is

-- ---- the first record

first_step : (next : Standing) (r : Record) → step start r ≡ Some next → IsHeaded next (heading_said (Some r))
unfolding step
first_step next (record_is.FileHeader h) is = by_allowed true (record (moved start Headed) { heading = Some h }) next (Some h) (record { place = refl; heading_is = refl }) is
first_step next (record_is.PeriodHeader period) is = absurd (none-some next is)
first_step next (record_is.OfficeHeader o) is = absurd (none-some next is)
first_step next (record_is.TransactionHeader t) is = absurd (none-some next is)
first_step next (record_is.Document d) is = absurd (none-some next is)
first_step next (record_is.PartOf y) is = absurd (none-some next is)
first_step next (record_is.CodeTotals t) is = absurd (none-some next is)
first_step next (record_is.OfficeTotals t) is = absurd (none-some next is)
first_step next (record_is.PeriodTotals t) is = absurd (none-some next is)
first_step next (record_is.FileTotals t) is = absurd (none-some next is)

first_read : (next : Standing) (r : Option Record) → step_or start r ≡ Some next → IsHeaded next (heading_said r)
first_read next None is = absurd (none-some next is)
first_read next (Some r) is = first_step next r is

heading_nil : heading_in [] ≡ None
unfolding heading_in
heading_nil = refl

heading_cons : (line : List ℕ) (ls : List (List ℕ)) → heading_in (line ∷ ls) ≡ heading_said (judged_at One 1 line)
unfolding heading_in
heading_cons line ls = refl

-- the heading of the lines with this state
pub heading_of_state : (ls : List (List ℕ)) (at : Standing) → stands_after start ls ≡ Some at → at.heading ≡ heading_in ls
heading_of_state [] at is =
    let same : start ≡ at = cc (sym (stands_nil start) ∙ is) in ap (λ (s : Standing). s.heading) (sym same) ∙ sym heading_nil
heading_of_state (line ∷ ls) at is =
    let first = begins_allowed start at line ls is in
    let next = first_read first.0 (judged_at One 1 line) first.1 in
    later_lines ls first.0 at next.place first.2 ∙ next.heading_is ∙ sym (heading_cons line ls)
