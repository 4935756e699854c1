-- What a HOT file is judged to be.
use Rattle.std.proofs.Common.{◌≡◌, ℕ, ◌+◌, ◌-◌, ◌^◌, ◌<◌, List, [], ◌∷◌, ◌++◌, length, take, drop, Some, None, refl, sym, ap, subst, ◌∙◌, arith}
use Rattle.std.proofs.lemmas.List.{append-nil}
use Rattle.std.proofs.Math.Seq.{drop-append_seam}
use Rattle.bsp_fields.specs.Lines.{lines}
use Rattle.bsp_hot_check.proofs.HotRecordsSizeLemmas.{no_small}
use Rattle.bsp_hot_check.specs.declared.model.Standing.{Standing}
use Rattle.bsp_hot_check.specs.Standings.{start, IsSmall}
use Rattle.bsp_hot_check.specs.Hot.{IsFirstFault}
use Rattle.bsp_hot_check.specs.Judging.{step_line, stands_after}
use Rattle.bsp_hot_check.specs.Pieces.{AreRefused}
use Rattle.bsp_hot_check.proofs.StateLemmas.{stands_nil, stands_line, stands_count, before_is, refused_first}
use Rattle.bsp_explain.specs.Lines.{IsLine}
use Rattle.bsp_hot_explain.specs.declared.explanation.HotExplanation.{HotExplanation}
use Rattle.bsp_hot_explain.specs.HotReasons.{SaysOfHot, record_name}
use Rattle.bsp_check.specs.HotListing.{IsListOfFew}
use Rattle.bsp_check.specs.declared.listing.Listing.{Listing}
use Rattle.bsp_check.specs.Verdicts.{SaysOfHotFault}
use Rattle.bsp_check.specs.Judging.{IsAfterFew, HasTakenMore}
use Rattle.bsp_check.specs.HotJudging.{HasListed, HasTakenHot, IsHotRefusal}

-- what is said of the first of some lines
abbrev pub NamesFirst : List (List ℕ) → HotExplanation → Type 0
NamesFirst ls e = (line : List ℕ) → IsLine 0 ls line → e.name ≡ record_name line

abbrev pub SaysOfFirst : Standing → List (List ℕ) → HotExplanation → Type 0
SaysOfFirst at ls e = (line : List ℕ) → IsLine 0 ls line → SaysOfHot at line e.reason

-- ---- the first record at fault

abbrev first_or : List (List ℕ) → List ℕ
first_or [] = []
first_or (line ∷ lines) = line

first_same : (line other : List ℕ) (after : List (List ℕ)) → IsLine 0 (line ∷ after) other → line ≡ other
first_same line other after is = ap first_or is.1

later_line : (ls more : List (List ℕ)) (n : ℕ) (line : List ℕ) → n ≡ length ls → IsLine n (ls ++ more) line → IsLine 0 more line
later_line ls more n line is h = (h.0, sym (drop-append_seam ls more) ∙ ap (λ k. drop k (ls ++ more)) (sym is) ∙ h.1)

back_one : (n m : ℕ) → n ≡ m + 1 → n - 1 ≡ m
back_one n m is = omega (arith, is)

pub says_of_fault : (bytes : List ℕ) (ls more : List (List ℕ)) (at : Standing) (e : HotExplanation) → lines bytes ≡ ls ++ more → stands_after start ls ≡ Some at → e.record ≡ at.records + 1 → IsFirstFault (lines bytes) (at.records + 1) → NamesFirst more e → SaysOfFirst at more e → SaysOfHotFault bytes e
says_of_fault bytes ls more at e are stands number first name says =
    let First : ℕ → Type 0 = λ n. IsFirstFault (lines bytes) n in
    let count = stands_count ls start at stands in
    let back = back_one e.record at.records number in
    let here : e.record - 1 ≡ length ls = omega (arith, back, count) in
    let Line : List (List ℕ) → (List ℕ) → Type 0 = λ xs line. IsLine (e.record - 1) xs line in
    record {
      is_first = subst First (sym number) first;
      state = at;
      stands = ap (λ k. stands_after start (take k (lines bytes))) back ∙ ap (λ xs. stands_after start (take at.records xs)) are ∙ ap (stands_after start) (before_is ls more at stands) ∙ stands;
      name = λ line is. name line (later_line ls more (e.record - 1) line here (subst (λ (xs : List (List ℕ)). Line xs line) are is));
      says = λ line is. says line (later_line ls more (e.record - 1) line here (subst (λ (xs : List (List ℕ)). Line xs line) are is));
    }

pub says_of_refused : (bytes : List ℕ) (ls more : List (List ℕ)) (at : Standing) (e : HotExplanation) → lines bytes ≡ ls ++ more → stands_after start ls ≡ Some at → e.record ≡ at.records + 1 → AreRefused at more → NamesFirst more e → SaysOfFirst at more e → SaysOfHotFault bytes e
says_of_refused bytes ls more at e are stands number refused name says =
    let First : List (List ℕ) → Type 0 = λ xs. IsFirstFault xs (at.records + 1) in
    let first = refused_first ls refused.more refused.line at stands refused.refused in
    says_of_fault bytes ls more at e are stands number (subst First (sym (are ∙ ap (λ xs. ls ++ xs) refused.are)) first) name says

no_first : (line : List ℕ) → IsLine 0 [] line → ⊥
no_first line is = absurd (omega (arith, ap length is.1))

pub says_of_missing : (bytes : List ℕ) (at : Standing) (e : HotExplanation) → stands_after start (lines bytes) ≡ Some at → e.record ≡ at.records + 1 → IsFirstFault (lines bytes) (at.records + 1) → SaysOfHotFault bytes e
says_of_missing bytes at e stands number first =
    says_of_fault bytes (lines bytes) [] at e (sym (append-nil (lines bytes))) stands number first (λ line is. absurd (no_first line is)) (λ line is. absurd (no_first line is))

-- ---- lines that are taken

start_small : IsSmall start
start_small = record {
  offices = omega arith;
  transactions = omega arith;
  file = no_small 0;
  codes = record { tktt = no_small 0; rfnd = no_small 0; canx = no_small 0; adma = no_small 0; acma = no_small 0 };
  all = no_small 0;
}

pub start_taken : (at : Standing) → at ≡ start → HasTakenHot at []
start_taken at is = let Taken : Standing → Type 0 = λ s. HasTakenHot s [] in subst Taken (sym is) (stands_nil start, start_small)

-- how many records there are
pub taken_room : (at : Standing) → IsAfterFew HasTakenHot at → at.records < 2 ^ 62
taken_room at few = omega (arith, stands_count few.0 start at few.1.0, few.2)

pub taken_line : (at next : Standing) (line : List ℕ) → step_line at line ≡ Some next → IsSmall next → HasTakenMore HasTakenHot (line ∷ []) at next
taken_line at next line step small = λ ls has. (stands_line start at next ls line has.0 step, small)

-- ---- lines that are listed

pub few_listed : (listing : Listing) → IsAfterFew HasListed listing → IsAfterFew HasTakenHot listing.at
few_listed listing few = (few.0, few.1.0, few.2)

pub list_few : (listing : Listing) → IsAfterFew HasListed listing → IsListOfFew listing.list
list_few listing few = (few.0, few.1.1, few.2)

-- ---- the explanation of a line that is not allowed

-- after any lines with this state the explanation is of the line and any that follow it
abbrev pub ExplainsHot : Standing → HotExplanation → List ℕ → Type 0
ExplainsHot at e line = step_line at line ≡ None → (ls : List (List ℕ)) → HasTakenHot at ls → (after : List (List ℕ)) → IsHotRefusal (ls ++ line ∷ after) e

pub explains_hot : (at : Standing) (e : HotExplanation) (line : List ℕ) → e.record ≡ at.records + 1 → e.name ≡ record_name line → SaysOfHot at line e.reason → ExplainsHot at e line
explains_hot at e line number name says = λ none ls has after bytes are.
    let same : (other : List ℕ) → IsLine 0 (line ∷ after) other → line ≡ other = λ other is. first_same line other after is in
    let Names : List ℕ → Type 0 = λ xs. e.name ≡ record_name xs in
    let Says : List ℕ → Type 0 = λ xs. SaysOfHot at xs e.reason in
    says_of_refused bytes ls (line ∷ after) at e are has.0 number (record { line = line; more = after; are = refl; refused = none })
    (λ other is. subst Names (same other is) name) (λ other is. subst Says (same other is) says)
