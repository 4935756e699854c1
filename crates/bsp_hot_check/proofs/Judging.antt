-- Lines that are judged one after the other, and files.
use Rattle.std.proofs.Common.{◌≡◌, ℕ, suc, ◌+◌, ◌-◌, true, false, cond, ◌&&◌, List, [], ◌∷◌, ◌++◌, length, take, Option, Some, None, Result, Ok, Err, refl, sym, ap, subst, ◌∙◌, arith, inl, inr, length-append, append_assoc, append-nil}
use Rattle.std.specs.Option.{option_map}
use Rattle.std.specs.Str.{bytes_eq}
use Rattle.std.proofs.lemmas.Bool.{and_parts, cases_Bool}
use Rattle.std.proofs.lemmas.List.{take_all}
use Rattle.std.proofs.Math.Seq.{take-append_seam, take-append-add}
use Rattle.bsp_fields.specs.Lines.{lines}
use Rattle.bsp_fields.specs.Columns.{columns, is_wide}
use Rattle.bsp_fields.specs.Fields.{spells}
use Rattle.bsp_hot_records.specs.declared.form.FileForm.{FileForm}
use Rattle.bsp_hot_records.specs.declared.name.RecordName.{RecordName}
use Rattle.bsp_hot_check.specs.declared.model.Place.TheVariants.{Ended}
use Rattle.bsp_hot_check.specs.declared.model.Standing.{Standing}
use Rattle.bsp_hot_records.specs.Records.{Record, letters, name_of, fields_fit, record_of, IsRecord, AreRecords}
use Rattle.bsp_hot_check.specs.Hot.{File, records_of, Hot, BeginFile, IsFirstFault}
use Rattle.bsp_hot_records.specs.Judged.{judged}
use Rattle.bsp_hot_check.specs.Standings.{step, start, form_at, is_at}
use Rattle.bsp_hot_records.specs.Reading.{named_record, record_at}
use Rattle.bsp_hot_check.specs.Judging.{step_or, step_line, or_fault, judge_from}
use Rattle.bsp_hot_check.proofs.Drafts.{Draft, nothing, headed, between, opened, begun, in_item, totalled, closed, ended, so_far, standing_of, IsSoundDraft, Next}
use Rattle.bsp_hot_check.proofs.Taken.{taken}
use Rattle.bsp_hot_check.proofs.Chains.{Chain, file_chain, reaches}
use Rattle.bsp_hot_check.proofs.FormLemmas.{form_of, read_first, records_before, records_behind, records_more}

-- ---- a line as a record

read_as : (form : FileForm) (n : ℕ) (line : List ℕ) (r : Record) → IsRecord form n line r → record_at form n line ≡ Some r
unfolding record_at
read_as form n line r is = rw (is.wide, is.sequence, is.digits, is.letters_are, is.fields, is.says) refl

by_name : (form : FileForm) (n : ℕ) (line : List ℕ) (r : Record) (name : Option RecordName) → name_of (columns 12 13 line) ≡ name → is_wide line ≡ true → spells n (columns 4 11 line) ≡ true → named_record form name line ≡ Some r → IsRecord form n line r
by_name form n line r None e wide sequence h = absurd (cc h)
by_name form n line r (Some name) e wide sequence h =
    elim (cases_Bool (bytes_eq (columns 1 3 line) (letters name) && fields_fit form name line)) [
      | inl k ↦
          let a : (bytes_eq (columns 1 3 line) (letters name) ≡ true) × (fields_fit form name line ≡ true) = and_parts _ _ k in
          let s : Some (record_of form name line) ≡ Some r = rw k at h in
          let says : r ≡ record_of form name line = cc s in
          record {
            name = name;
            wide = wide;
            sequence = sequence;
            digits = e;
            letters_are = a.0;
            fields = a.1;
            says = says;
          }
      | inr k ↦ let s : None ≡ Some r = rw k at h in absurd cc
    ]

is_read : (form : FileForm) (n : ℕ) (line : List ℕ) (r : Record) → record_at form n line ≡ Some r → IsRecord form n line r
unfolding record_at
is_read form n line r h =
    elim (cases_Bool (is_wide line && spells n (columns 4 11 line))) [
      | inl k ↦
          let a = and_parts _ _ k in
          by_name form n line r (name_of (columns 12 13 line)) refl a.0 a.1 (rw k at h)
      | inr k ↦ let s : None ≡ Some r = rw k at h in absurd cc
    ]

-- the record that a line is, where it is allowed
record Allowed (at : Standing) (line : List ℕ) (then : Standing) : Type 0 where
  of : Record
  is : IsRecord (form_at at.heading) (at.records + 1) line of
  steps : step at (judged of) ≡ Some then

by_record : (at then : Standing) (line : List ℕ) (r : Option Record) → record_at (form_at at.heading) (at.records + 1) line ≡ r → step_or at (option_map judged r) ≡ Some then → Allowed at line then
by_record at then line None e h = absurd cc
by_record at then line (Some r) e h = record { of = r; is = is_read (form_at at.heading) (at.records + 1) line r e; steps = h }

allowed_line : (at then : Standing) (line : List ℕ) → step_line at line ≡ Some then → Allowed at line then
allowed_line at then line h = by_record at then line (record_at (form_at at.heading) (at.records + 1) line) refl h

line_steps : (at : Standing) (line : List ℕ) (r : Record) → IsRecord (form_at at.heading) (at.records + 1) line r → step_line at line ≡ step at (judged r)
line_steps at line r is = rw (read_as (form_at at.heading) (at.records + 1) line r is) refl

-- ---- judged lines

pub judge_nil : (at : Standing) → judge_from at [] ≡ cond (is_at Ended at.place) (Ok at) (Err (at.records + 1))
unfolding judge_from
judge_nil at = refl

pub judge_cons : (at : Standing) (line : List ℕ) (lines : List (List ℕ)) → judge_from at (line ∷ lines) ≡ or_fault (at.records + 1) (step_line at line) (λ next. judge_from next lines)
unfolding judge_from
judge_cons at line lines = refl

count_is : (d : Draft) → (standing_of d).records ≡ length (so_far d)
count_is nothing = refl
count_is (headed h) = refl
count_is (between f) = refl
count_is (opened f agent) = refl
count_is (begun f agent items) = refl
count_is (in_item f agent items d g) = refl
count_is (totalled f agent items done c) = refl
count_is (closed f) = refl
count_is (ended f) = refl

-- a record that the draft takes is passed
passed : (d e : Draft) (r : Record) (line : List ℕ) (lines : List (List ℕ)) → Next d r e → IsRecord (form_of d) (length (so_far d) + 1) line r → judge_from (standing_of d) (line ∷ lines) ≡ judge_from (standing_of e) lines
passed d e r line lines next is =
    let numbered : IsRecord (form_of d) ((standing_of d).records + 1) line r = rw (count_is d) is in
    let steps : step_line (standing_of d) line ≡ Some (standing_of e) = line_steps (standing_of d) line r numbered ∙ next.stands in
    judge_cons (standing_of d) line lines ∙ rw steps refl

one_longer : (d e : Draft) (r : Record) → Next d r e → length (so_far e) ≡ length (so_far d) + 1
one_longer d e r next = ap length next.records_are ∙ length-append (so_far d) (r ∷ [])

chain_so_far : (d e : Draft) (records : List Record) → Chain d records e → so_far e ≡ so_far d ++ records
chain_so_far d e [] c = sym (ap so_far c) ∙ sym (append-nil (so_far d))
chain_so_far d e (r ∷ records) c = chain_so_far c.0 e records c.2 ∙ ap (λ (xs : List Record). xs ++ records) c.1.records_are ∙ append_assoc (so_far d) (r ∷ []) records

chain_split : (d e : Draft) (xs ys : List Record) → Chain d (xs ++ ys) e → (m : Draft) × Chain d xs m × Chain m ys e
chain_split d e [] ys c = (d, refl, c)
chain_split d e (r ∷ xs) ys c =
    let rest = chain_split c.0 e xs ys c.2 in
    (rest.0, (c.0, c.1, rest.1), rest.2)

chain_judged : (records : List Record) (lines more : List (List ℕ)) (d e : Draft) (n : ℕ) → Chain d records e → n ≡ length (so_far d) + 1 → AreRecords (form_of e) n lines records → judge_from (standing_of d) (lines ++ more) ≡ judge_from (standing_of e) more
chain_judged [] [] more d e n c k are = ap (λ (x : Draft). judge_from (standing_of x) more) c
chain_judged [] (line ∷ lines) more d e n c k are = absurd are
chain_judged (r ∷ records) [] more d e n c k are = absurd are
chain_judged (r ∷ records) (line ∷ lines) more d e n c k are =
    let is : IsRecord (form_of d) (length (so_far d) + 1) line r = rw (← k) (read_first d c.0 e records n line r c.1 c.2 are.0) in
    let count : suc n ≡ length (so_far c.0) + 1 = omega (arith, one_longer d c.0 r c.1) in
    passed d c.0 r line (lines ++ more) c.1 is ∙ chain_judged records lines more c.0 e (suc n) c.2 count are.1

-- ---- a file is passed

ended_ok : (f : File) → judge_from (standing_of (ended f)) [] ≡ Ok (standing_of (ended f))
ended_ok f = judge_nil (standing_of (ended f))

pub hot_judged : (lines : List (List ℕ)) (f : File) → Hot lines f → judge_from start lines ≡ Ok (standing_of (ended f))
hot_judged lines f hot =
    ap (judge_from start) (sym (append-nil lines))
    ∙ chain_judged (records_of f) lines [] nothing (ended f) 1 (file_chain f hot.sound) refl hot.records
    ∙ ended_ok f

-- ---- lines that were passed

record Passed (before : List (List ℕ)) (d : Draft) : Type 0 where
  are : AreRecords (form_of d) 1 before (so_far d)
  sound : IsSoundDraft d
  judged_as : (lines : List (List ℕ)) → judge_from start (before ++ lines) ≡ judge_from (standing_of d) lines

same_count : (form : FileForm) (lines : List (List ℕ)) (records : List Record) (n : ℕ) → AreRecords form n lines records → length lines ≡ length records
same_count form [] [] n are = refl
same_count form [] (s ∷ records) n are = absurd are
same_count form (x ∷ lines) [] n are = absurd are
same_count form (x ∷ lines) (s ∷ records) n are = ap suc (same_count form lines records (suc n) are.1)

-- one more line is passed
one_passed : (before : List (List ℕ)) (d e : Draft) (line : List ℕ) (r : Record) → Passed before d → Next d r e → IsRecord (form_of d) (length (so_far d) + 1) line r → Passed (before ++ line ∷ []) e
one_passed before d e line r p next is = record {
  are = records_more d e before line r next p.are is;
  sound = next.sound;
  judged_as = λ lines. ap (judge_from start) (append_assoc before (line ∷ []) lines) ∙ p.judged_as (line ∷ lines) ∙ passed d e r line lines next is;
}

-- a line that is allowed is passed
record Onward (before : List (List ℕ)) (line : List ℕ) (then : Standing) : Type 0 where
  draft : Draft
  stands : then ≡ standing_of draft
  passed_on : Passed (before ++ line ∷ []) draft

onward : (before : List (List ℕ)) (d : Draft) (line : List ℕ) (then : Standing) → Passed before d → step_line (standing_of d) line ≡ Some then → Onward before line then
onward before d line then p h =
    let a = allowed_line (standing_of d) then line h in
    let next = taken d a.of then p.sound a.steps in
    let s : Some then ≡ Some (standing_of next.0) = sym a.steps ∙ next.1.stands in
    let stands : then ≡ standing_of next.0 = cc in
    record {
      draft = next.0;
      stands = stands;
      passed_on = one_passed before d next.0 line a.of p next.1 (rw (← count_is d) a.is);
    }

-- ---- what a judged text is

-- the lines are a file's, and stand so
pub record Found (lines : List (List ℕ)) (at : Standing) : Type 0 where
  pub file : File
  pub hot : Hot lines file
  pub stands : at ≡ standing_of (ended file)

abbrev Outcome : Type 0
Outcome = Result Standing ℕ

abbrev pub IsJudged : List (List ℕ) → Outcome → Type 0
IsJudged lines (Ok at) = Found lines at
IsJudged lines (Err n) = IsFirstFault lines n

-- an outcome is not of both kinds
no_both : (n : ℕ) (at : Standing) → ◌≡◌ {A = Outcome} (Err n) (Ok at) → ⊥
no_both n at k = absurd cc

begins_file : (before : List (List ℕ)) (d : Draft) → Passed before d → BeginFile before
begins_file before d p =
    let r = reaches d p.sound in
    record {
      records = so_far d;
      file = r.file;
      are = records_behind d (ended r.file) r.more before 1 r.chain p.are;
      sound = r.sound;
      more = r.more;
      joined = sym (chain_so_far d (ended r.file) r.more r.chain);
    }

-- lines that end too early
lacking : (before : List (List ℕ)) (d : Draft) → Passed before d → is_at Ended (standing_of d).place ≡ false → IsFirstFault before ((standing_of d).records + 1)
lacking before d p open_end =
    let n = (standing_of d).records + 1 in
    let count : n ≡ length before + 1 = omega (arith, count_is d, same_count (form_of d) before (so_far d) 1 p.are) in
    let less : n - 1 ≡ length before = omega arith in
    let all : take (n - 1) before ≡ before = ap (λ (k : ℕ). take k before) less ∙ take_all (length before) before (omega arith) in
    let fault : judge_from start before ≡ Err n = ap (judge_from start) (sym (append-nil before)) ∙ p.judged_as [] ∙ judge_nil (standing_of d) ∙ rw open_end refl in
    record {
      counted = omega arith;
      before = subst BeginFile (sym all) (begins_file before d p);
      fault = inr (count, λ file hot. no_both n (standing_of (ended file)) (sym fault ∙ hot_judged before file hot));
    }

-- lines that begin a file have no fault among them
begin_judged : (lines : List (List ℕ)) → BeginFile lines → (at : Standing) × (judge_from start lines ≡ judge_from at []) × (at.records ≡ length lines)
begin_judged lines b =
    let f = b.file in
    let all : Chain nothing (b.records ++ b.more) (ended f) = subst (λ (xs : List Record). Chain nothing xs (ended f)) (sym b.joined) (file_chain f b.sound) in
    let split = chain_split nothing (ended f) b.records b.more all in
    let m = split.0 in
    let so_far_is : so_far m ≡ b.records = chain_so_far nothing m b.records split.1 in
    let P : List Record → FileForm → Type 0 = λ xs form. AreRecords form 1 lines xs in
    let in_form : P (so_far m) (form_of m) = records_before m (ended f) b.more lines 1 split.2 (subst (λ (xs : List Record). P xs f.heading.form) (sym so_far_is) b.are) in
    let are : P b.records (form_of m) = subst (λ (xs : List Record). P xs (form_of m)) so_far_is in_form in
    let judged_as : judge_from start lines ≡ judge_from (standing_of m) [] = ap (judge_from start) (sym (append-nil lines)) ∙ chain_judged b.records lines [] nothing m 1 split.1 refl are in
    let count : (standing_of m).records ≡ length lines = count_is m ∙ ap length so_far_is ∙ sym (same_count f.heading.form lines b.records 1 b.are) in
    (standing_of m, judged_as, count)

not_within : (at : Standing) (n : ℕ) → judge_from at [] ≡ Err n → n ≡ at.records + 1
not_within at n h =
    elim (cases_Bool (is_at Ended at.place)) [
      | inl e ↦ let k : ◌≡◌ {A = Outcome} (Ok at) (Err n) = sym (judge_nil at ∙ rw e refl) ∙ h in absurd (no_both n at (sym k))
      | inr e ↦ let k : ◌≡◌ {A = Outcome} (Err (at.records + 1)) (Err n) = sym (judge_nil at ∙ rw e refl) ∙ h in let m : at.records + 1 ≡ n = cc in sym m
    ]

-- a line at fault
failing : (before : List (List ℕ)) (d : Draft) (line : List ℕ) (lines : List (List ℕ)) → Passed before d → step_line (standing_of d) line ≡ None → IsFirstFault (before ++ line ∷ lines) ((standing_of d).records + 1)
failing before d line lines p none =
    let n = (standing_of d).records + 1 in
    let count : n ≡ length before + 1 = omega (arith, count_is d, same_count (form_of d) before (so_far d) 1 p.are) in
    let less : n - 1 ≡ length before = omega arith in
    let front : take (n - 1) (before ++ line ∷ lines) ≡ before = ap (λ (k : ℕ). take k (before ++ line ∷ lines)) less ∙ take-append_seam before (line ∷ lines) in
    let with_line : take n (before ++ line ∷ lines) ≡ before ++ line ∷ [] = ap (λ (k : ℕ). take k (before ++ line ∷ lines)) count ∙ take-append-add before (line ∷ lines) 1 in
    let fault : judge_from start (before ++ line ∷ []) ≡ Err n = p.judged_as (line ∷ []) ∙ judge_cons (standing_of d) line [] ∙ rw none refl in
    let longer : length (before ++ line ∷ []) ≡ length before + 1 = length-append before (line ∷ []) in
    let all : length (before ++ line ∷ lines) ≡ length before + suc (length lines) = length-append before (line ∷ lines) in
    record {
      counted = omega arith;
      before = subst BeginFile (sym front) (begins_file before d p);
      fault = inl (
        omega arith,
        λ b.
            let j = begin_judged (before ++ line ∷ []) (subst BeginFile with_line b) in
            let k : n ≡ j.0.records + 1 = not_within j.0 n (sym j.1 ∙ fault) in
            absurd (omega (arith, j.2)),
      );
    }

is_end : (d : Draft) → is_at Ended (standing_of d).place ≡ true → (f : File) × (d ≡ ended f)
is_end (ended f) h = (f, refl)
is_end nothing h = absurd cc
is_end (headed g) h = absurd cc
is_end (between f) h = absurd cc
is_end (opened f agent) h = absurd cc
is_end (begun f agent items) h = absurd cc
is_end (in_item f agent items d g) h = absurd cc
is_end (totalled f agent items done c) h = absurd cc
is_end (closed f) h = absurd cc

at_end : (before : List (List ℕ)) (d : Draft) (f : File) → Passed before d → d ≡ ended f → Found before (standing_of d)
at_end before d f p e = record {
  file = f;
  hot = record {
    records = subst (λ (x : Draft). AreRecords (form_of x) 1 before (so_far x)) e p.are;
    sound = subst IsSoundDraft e p.sound;
  };
  stands = ap standing_of e;
}

by_step : (before : List (List ℕ)) (d : Draft) (line : List ℕ) (lines : List (List ℕ)) (o : Option Standing) → Passed before d → step_line (standing_of d) line ≡ o
    → ((e : Draft) → Passed (before ++ line ∷ []) e → IsJudged ((before ++ line ∷ []) ++ lines) (judge_from (standing_of e) lines))
    → IsJudged (before ++ line ∷ lines) (or_fault ((standing_of d).records + 1) o (λ next. judge_from next lines))
by_step before d line lines None p h more = failing before d line lines p h
by_step before d line lines (Some then) p h more =
    let o = onward before d line then p h in
    let judged_then : IsJudged ((before ++ line ∷ []) ++ lines) (judge_from then lines) = rw o.stands (more o.draft o.passed_on) in
    subst (λ (xs : List (List ℕ)). IsJudged xs (judge_from then lines)) (append_assoc before (line ∷ []) lines) judged_then

judged_from : (lines before : List (List ℕ)) (d : Draft) → Passed before d → IsJudged (before ++ lines) (judge_from (standing_of d) lines)
judged_from [] before d p =
    rw (append-nil before, judge_nil (standing_of d))
    (elim (cases_Bool (is_at Ended (standing_of d).place)) [
      | inl h ↦ let e = is_end d h in rw h (at_end before d e.0 p e.1)
      | inr h ↦ rw h (lacking before d p h)
    ])
judged_from (line ∷ lines) before d p =
    rw (judge_cons (standing_of d) line lines) (by_step before d line lines (step_line (standing_of d) line) p refl (λ e q. judged_from lines (before ++ line ∷ []) e q))

-- what judged lines are
pub judged_all : (lines : List (List ℕ)) → IsJudged lines (judge_from start lines)
judged_all lines = judged_from lines [] nothing (record { are = tt; sound = tt; judged_as = λ more. refl })

-- a line that has not a record's width
pub narrow_line : (at : Standing) (line : List ℕ) → is_wide line ≡ false → step_line at line ≡ None
unfolding record_at
narrow_line at line narrow = rw narrow refl
