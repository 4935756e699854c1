-- Some record is at fault, or some file has the lines.
use Rattle.std.proofs.Common.{◌≡◌, ◌<◌, ℕ, zero, suc, ◌-◌, List, [], ◌∷◌, ◌++◌, take, drop, Result, Ok, Err, ◌⊎◌, sym, ap, subst, ◌∙◌, arith, inl, inr, append_assoc}
use Rattle.std.proofs.lemmas.Bool.{cases_order}
use Rattle.std.proofs.lemmas.List.{take-append-drop, take-take}
use Rattle.bsp_hot_records.specs.declared.form.FileForm.{FileForm}
use Rattle.bsp_hot_check.specs.declared.model.Standing.{Standing}
use Rattle.bsp_hot_records.specs.Records.{Record, AreRecords}
use Rattle.bsp_hot_check.specs.Checked.{HasTotals}
use Rattle.bsp_hot_check.specs.Hot.{File, records_of, Hot, totals_of_file, BeginFile, IsFirstFault, HotOrFault}
use Rattle.bsp_hot_check.specs.Standings.{start, totals_at}
use Rattle.bsp_hot_check.specs.Judging.{judge_from}
use Rattle.bsp_hot_check.proofs.Drafts.{ended, standing_of}
use Rattle.bsp_hot_check.proofs.Judging.{IsJudged, judged_all, hot_judged}

take_records : (form : FileForm) (lines : List (List ℕ)) (records : List Record) (n k : ℕ) → AreRecords form n lines records → AreRecords form n (take k lines) (take k records)
take_records form lines records n zero are = tt
take_records form [] [] n (suc k) are = tt
take_records form [] (r ∷ records) n (suc k) are = absurd are
take_records form (line ∷ lines) [] n (suc k) are = absurd are
take_records form (line ∷ lines) (r ∷ records) n (suc k) are = (are.0, take_records form lines records (suc n) k are.1)

-- fewer lines begin a file too
fewer : (lines : List (List ℕ)) (k : ℕ) → BeginFile lines → BeginFile (take k lines)
fewer lines k b = record {
  records = take k b.records;
  file = b.file;
  are = take_records b.file.heading.form lines b.records 1 k b.are;
  sound = b.sound;
  more = drop k b.records ++ b.more;
  joined = sym (append_assoc (take k b.records) (drop k b.records) b.more) ∙ ap (λ (xs : List Record). xs ++ b.more) (take-append-drop k b.records) ∙ b.joined;
}

-- and those of a file begin it
hot_begins : (lines : List (List ℕ)) (file : File) (k : ℕ) → Hot lines file → BeginFile (take k lines)
hot_begins lines file k hot = record {
  records = take k (records_of file);
  file = file;
  are = take_records file.heading.form lines (records_of file) 1 k hot.records;
  sound = hot.sound;
  more = drop k (records_of file);
  joined = take-append-drop k (records_of file);
}

not_both : (lines : List (List ℕ)) (at : ℕ) (file : File) → IsFirstFault lines at → Hot lines file → ⊥
not_both lines at file f hot =
    elim f.fault [
      | inl within ↦ within.1 (hot_begins lines file at hot)
      | inr missing ↦ missing.1 file hot
    ]

-- no other record that comes later is the first at fault
not_later : (lines : List (List ℕ)) (at other : ℕ) → at < other → IsFirstFault lines at → IsFirstFault lines other → ⊥
not_later lines at other below f g =
    elim f.fault [
      | inl within ↦
          let shorter : take at (take (other - 1) lines) ≡ take at lines = take-take at (other - 1) lines (omega arith) in
          within.1 (subst BeginFile shorter (fewer (take (other - 1) lines) at g.before))
      | inr missing ↦ elim g.fault [ inl within ↦ absurd (omega (arith, missing.0, within.0)) | inr also ↦ absurd (omega (arith, missing.0, also.0)) ]
    ]

one_fault : (lines : List (List ℕ)) (at other : ℕ) → IsFirstFault lines at → IsFirstFault lines other → at ≡ other
one_fault lines at other f g =
    elim (cases_order at other) [
      | inl same ↦ same
      | inr apart ↦ elim apart [ inl below ↦ absurd (not_later lines at other below f g) | inr above ↦ absurd (not_later lines other at above g f) ]
    ]

abbrev Outcome : Type 0
Outcome = Result Standing ℕ

same_standing : (at then : Standing) → ◌≡◌ {A = Outcome} (Ok at) (Ok then) → at ≡ then
same_standing at then k = cc

same_totals : (lines : List (List ℕ)) (file other : File) → Hot lines file → Hot lines other → totals_of_file file ≡ totals_of_file other
same_totals lines file other hot also =
    ap totals_at (same_standing (standing_of (ended file)) (standing_of (ended other)) (sym (hot_judged lines file hot) ∙ hot_judged lines other also))

by_outcome : (lines : List (List ℕ)) (o : Outcome) → IsJudged lines o → ((at : ℕ) × IsFirstFault lines at) ⊎ ((file : File) × Hot lines file)
by_outcome lines (Ok at) t = inr (t.file, t.hot)
by_outcome lines (Err n) t = inl (n, t)

pub law : (lines : List (List ℕ)) → HotOrFault lines
law lines = record {
  one = by_outcome lines (judge_from start lines) (judged_all lines);
  not_both = not_both lines;
  one_fault = one_fault lines;
  same_totals = same_totals lines;
}

-- ---- what is told

-- of lines that stand so
pub found : (lines : List (List ℕ)) (at : Standing) → judge_from start lines ≡ Ok at → HasTotals lines (totals_at at)
found lines at h =
    let f : IsJudged lines (Ok at) = subst (IsJudged lines) h (judged_all lines) in
    record { file = f.file; stands = f.hot; totals_are = ap totals_at f.stands }

pub faulty : (lines : List (List ℕ)) (n : ℕ) → judge_from start lines ≡ Err n → IsFirstFault lines n
faulty lines n h = subst (IsJudged lines) h (judged_all lines)
