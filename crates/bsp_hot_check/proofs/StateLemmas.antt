-- The state after lines.
use Rattle.std.proofs.Common.{◌≡◌, ℕ, ◌+◌, Bool, true, false, List, [], ◌∷◌, ◌++◌, length, take, Option, Some, None, refl, sym, ap, ◌∙◌, arith}
use Rattle.std.proofs.lemmas.List.{append-nil}
use Rattle.std.proofs.Math.Seq.{take-append_seam}
use Rattle.bsp_hot_records.specs.declared.model.Heading.{Heading}
use Rattle.bsp_hot_records.specs.declared.model.PartOf.{PartOf}
use Rattle.bsp_hot_records.specs.declared.model.Record.{Record}
use Rattle.bsp_hot_records.specs.declared.model.Record.TheVariants as record_is
use Rattle.bsp_hot_records.specs.Reading.{judged_at}
use Rattle.bsp_hot_check.specs.declared.model.Place.{Place}
use Rattle.bsp_hot_check.specs.declared.model.Place.TheVariants.{Start, Headed, Between, Opened, Begun, InDocument, Totalled, Closed, Ended}
use Rattle.bsp_hot_check.specs.declared.model.Standing.{Standing}
use Rattle.bsp_hot_check.specs.Hot.{IsFirstFault}
use Rattle.bsp_hot_check.specs.Checked.{HasTotals}
use Rattle.bsp_hot_check.specs.Standings.{start, allowed, step, part_step, form_at, is_at, totals_at}
use Rattle.bsp_hot_check.specs.Judging.{step_or, step_line, stands_or, stands_after, judge_from}
use Rattle.bsp_hot_check.proofs.Judging.{judge_nil, judge_cons}
use Rattle.bsp_hot_check.proofs.LawLemmas.{found, faulty}

-- ---- a record counts one

allowed_counts : (test : Bool) (at next : Standing) (n : ℕ) → at.records ≡ n → allowed test at ≡ Some next → next.records ≡ n
allowed_counts true at next n count is = let same : at ≡ next = cc is in ap (λ (s : Standing). s.records) (sym same) ∙ count
allowed_counts false at next n count is = absurd cc

part_counts : (at next : Standing) (place : Place) (heading : Option Heading) (y : PartOf) → part_step at place heading y ≡ Some next → next.records ≡ at.records + 1
part_counts at next (InDocument x) (Some h) y is = allowed_counts _ _ next (at.records + 1) refl is
part_counts at next (InDocument x) None y is = absurd cc
part_counts at next Start heading y is = absurd cc
part_counts at next Headed heading y is = absurd cc
part_counts at next Between heading y is = absurd cc
part_counts at next Opened heading y is = absurd cc
part_counts at next Begun heading y is = absurd cc
part_counts at next (Totalled c) heading y is = absurd cc
part_counts at next Closed heading y is = absurd cc
part_counts at next Ended heading y is = absurd cc

step_counts : (at next : Standing) (r : Record) → step at r ≡ Some next → next.records ≡ at.records + 1
unfolding step
step_counts at next (record_is.FileHeader h) is = allowed_counts _ _ next (at.records + 1) refl is
step_counts at next (record_is.PeriodHeader period) is = allowed_counts _ _ next (at.records + 1) refl is
step_counts at next (record_is.OfficeHeader o) is = allowed_counts _ _ next (at.records + 1) refl is
step_counts at next (record_is.TransactionHeader t) is = allowed_counts _ _ next (at.records + 1) refl is
step_counts at next (record_is.Document d) is = allowed_counts _ _ next (at.records + 1) refl is
step_counts at next (record_is.PartOf y) is = part_counts at next at.place at.heading y is
step_counts at next (record_is.CodeTotals t) is = allowed_counts _ _ next (at.records + 1) refl is
step_counts at next (record_is.OfficeTotals t) is = allowed_counts _ _ next (at.records + 1) refl is
step_counts at next (record_is.PeriodTotals t) is = allowed_counts _ _ next (at.records + 1) refl is
step_counts at next (record_is.FileTotals t) is = allowed_counts _ _ next (at.records + 1) refl is

or_counts : (at next : Standing) (r : Option Record) → step_or at r ≡ Some next → next.records ≡ at.records + 1
or_counts at next None is = absurd cc
or_counts at next (Some r) is = step_counts at next r is

pub line_counts : (at next : Standing) (line : List ℕ) → step_line at line ≡ Some next → next.records ≡ at.records + 1
line_counts at next line is = or_counts at next (judged_at (form_at at.heading) (at.records + 1) line) is

-- ---- lines that are allowed

pub stands_nil : (at : Standing) → stands_after at [] ≡ Some at
unfolding stands_after
stands_nil at = refl

stands_cons : (at : Standing) (line : List ℕ) (ls : List (List ℕ)) → stands_after at (line ∷ ls) ≡ stands_or (step_line at line) (λ next. stands_after next ls)
unfolding stands_after
stands_cons at line ls = refl

-- what lines with a state begin with
first_allowed : (at then : Standing) (line : List ℕ) (ls : List (List ℕ)) (o : Option Standing) → step_line at line ≡ o → stands_or o (λ next. stands_after next ls) ≡ Some then
    → (next : Standing) × (step_line at line ≡ Some next) × (stands_after next ls ≡ Some then)
first_allowed at then line ls None steps is = absurd cc
first_allowed at then line ls (Some next) steps is = (next, steps, is)

pub begins_allowed : (at then : Standing) (line : List ℕ) (ls : List (List ℕ)) → stands_after at (line ∷ ls) ≡ Some then
    → (next : Standing) × (step_line at line ≡ Some next) × (stands_after next ls ≡ Some then)
begins_allowed at then line ls is = first_allowed at then line ls (step_line at line) refl (sym (stands_cons at line ls) ∙ is)

pub stands_append : (ls more : List (List ℕ)) (at then : Standing) → stands_after at ls ≡ Some then → stands_after at (ls ++ more) ≡ stands_after then more
stands_append [] more at then is =
    let same : at ≡ then = cc (sym (stands_nil at) ∙ is) in ap (λ s. stands_after s more) same
stands_append (line ∷ ls) more at then is =
    let first = begins_allowed at then line ls is in
    stands_cons at line (ls ++ more) ∙ rw first.1 (stands_append ls more first.0 then first.2)

pub stands_line : (at then next : Standing) (ls : List (List ℕ)) (line : List ℕ) → stands_after at ls ≡ Some then → step_line then line ≡ Some next → stands_after at (ls ++ line ∷ []) ≡ Some next
stands_line at then next ls line is step =
    stands_append ls (line ∷ []) at then is ∙ stands_cons then line [] ∙ rw step (stands_nil next)

pub stands_count : (ls : List (List ℕ)) (at then : Standing) → stands_after at ls ≡ Some then → then.records ≡ at.records + length ls
stands_count [] at then is =
    let same : at ≡ then = cc (sym (stands_nil at) ∙ is) in omega (arith, ap (λ (s : Standing). s.records) same)
stands_count (line ∷ ls) at then is =
    let first = begins_allowed at then line ls is in
    omega (arith, line_counts at first.0 line first.1, stands_count ls first.0 then first.2)

pub stands_judged : (ls more : List (List ℕ)) (at then : Standing) → stands_after at ls ≡ Some then → judge_from at (ls ++ more) ≡ judge_from then more
stands_judged [] more at then is =
    let same : at ≡ then = cc (sym (stands_nil at) ∙ is) in ap (λ s. judge_from s more) same
stands_judged (line ∷ ls) more at then is =
    let first = begins_allowed at then line ls is in
    judge_cons at line (ls ++ more) ∙ rw first.1 (stands_judged ls more first.0 then first.2)

-- the first line that is not allowed is the first record at fault
pub refused_first : (ls more : List (List ℕ)) (line : List ℕ) (at : Standing) → stands_after start ls ≡ Some at → step_line at line ≡ None → IsFirstFault (ls ++ line ∷ more) (at.records + 1)
refused_first ls more line at is none =
    faulty (ls ++ line ∷ more) (at.records + 1) (stands_judged ls (line ∷ more) start at is ∙ judge_cons at line more ∙ rw none refl)

-- ---- the end of a text

pub ended_found : (ls : List (List ℕ)) (at : Standing) → is_at Ended at.place ≡ true → stands_after start ls ≡ Some at → HasTotals ls (totals_at at)
ended_found ls at ended is =
    found ls at (ap (judge_from start) (sym (append-nil ls)) ∙ stands_judged ls [] start at is ∙ judge_nil at ∙ rw ended refl)

pub unended_faulty : (ls : List (List ℕ)) (at : Standing) → is_at Ended at.place ≡ false → stands_after start ls ≡ Some at → IsFirstFault ls (at.records + 1)
unended_faulty ls at unended is =
    faulty ls (at.records + 1) (ap (judge_from start) (sym (append-nil ls)) ∙ stands_judged ls [] start at is ∙ judge_nil at ∙ rw unended refl)

-- the lines before the next one have the state
pub before_is : (ls more : List (List ℕ)) (at : Standing) → stands_after start ls ≡ Some at → take at.records (ls ++ more) ≡ ls
before_is ls more at is =
    let count = stands_count ls start at is in
    let same : at.records ≡ length ls = omega (arith, count) in
    rw same (take-append_seam ls more)
