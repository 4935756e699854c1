-- The explanation of the first fault of some lines.
use Rattle.std.proofs.Common.{◌≡◌, ℕ, ◌+◌, ◌-◌, true, false, List, [], ◌∷◌, ◌++◌, length, take, drop, Some, None, Ok, Err, refl, sym, ap, subst, ◌∙◌, arith, append_assoc, append-nil}
use Rattle.std.proofs.lemmas.List.{take_at, drop_at}
use Rattle.bsp_fields.specs.Lines.{lines}
use Rattle.bsp_ret.specs.declared.model.FaultCode.{FaultCode}
use Rattle.bsp_ret.specs.declared.model.FaultCode.TheVariants.{F08}
use Rattle.bsp_ret.specs.declared.model.Standing.{Standing}
use Rattle.bsp_ret.specs.Table.{standing, has_ended, row_fault, first_fault}
use Rattle.bsp_ret.specs.Standings.{standing_behind, fault_behind, FitsIn}
use Rattle.bsp_ret.specs.Pieces.{IsClear}
use Rattle.bsp_ret.proofs.Steps.{standing_snoc}
use Rattle.bsp_ret.proofs.LawLemmas.{is_first, behind_nil, behind_cons}
use Rattle.bsp_explain.specs.declared.explanation.Explanation.{Explanation}
use Rattle.bsp_explain.specs.declared.reason.Reason.{Reason}
use Rattle.bsp_explain.specs.declared.reason.Reason.TheVariants.{NoTrailer}
use Rattle.bsp_explain.specs.Lines.{IsLine}
use Rattle.bsp_explain.specs.RetReasons.{Says, is_reason_of}
use Rattle.bsp_explain.specs.RetFaults.{SaysOfRetFault}

-- ---- lines without fault

-- no lines are without fault
pub clear_nothing : IsClear []
clear_nothing more = sym (is_first [] more)

-- one more line without fault
pub clear_more : (ls : List (List ℕ)) (line : List ℕ) (at : Standing) → at ≡ standing ls → IsClear ls → row_fault at line ≡ Ok tt → IsClear (ls ++ line ∷ [])
clear_more ls line at stands clear none more =
    ap first_fault (append_assoc ls (line ∷ []) more) ∙ clear (line ∷ more) ∙ ap (λ (x : Standing). fault_behind x (line ∷ more)) (sym stands)
    ∙ behind_cons at line more ∙ rw none refl ∙ ap (λ (x : Standing). fault_behind (standing_behind x line) more) stands
    ∙ ap (λ (x : Standing). fault_behind x more) (sym (standing_snoc ls line))

pub stands_more : (ls : List (List ℕ)) (line : List ℕ) (at then : Standing) → at ≡ standing ls → then ≡ standing_behind at line → then ≡ standing (ls ++ line ∷ [])
stands_more ls line at then stands is = is ∙ ap (λ (x : Standing). standing_behind x line) stands ∙ sym (standing_snoc ls line)

-- all lines are, and the last is a trailer
pub clear_file : (ls : List (List ℕ)) (at : Standing) → at ≡ standing ls → IsClear ls → has_ended at.last ≡ true → first_fault ls ≡ None
clear_file ls at stands clear ended =
    ap first_fault (sym (append-nil ls)) ∙ clear [] ∙ ap (λ (x : Standing). fault_behind x []) (sym stands) ∙ behind_nil at ∙ rw ended refl

-- ---- what follows them is at fault

says_of_next : (ls more : List (List ℕ)) (at : Standing) (code : FaultCode) (e : Explanation) → at ≡ standing ls → IsClear ls → fault_behind at more ≡ Some (record { code = code; at = at.records + 1 })
    → e.record ≡ at.records + 1 → ((line : List ℕ) → IsLine 0 more line → Says (at.records + 1) at line e.reason) → is_reason_of code e.reason ≡ true
    → ((records : ℕ) (before : Standing) → e.reason ≡ NoTrailer records before → (records ≡ at.records + 1) × (before ≡ at)) → SaysOfRetFault (ls ++ more) e
says_of_next ls more at code e stands clear fault number says row trailer =
    let count : length ls ≡ at.records + 1 - 1 = omega (arith, ap (λ (x : Standing). x.records) stands) in
    let before : at ≡ standing (take (at.records + 1 - 1) (ls ++ more)) = stands ∙ ap standing (sym (take_at ls more (at.records + 1 - 1) count)) in
    let after : drop (at.records + 1 - 1) (ls ++ more) ≡ more = drop_at ls more (at.records + 1 - 1) count in
    record {
      fault = record { code = code; at = at.records + 1 };
      is_first = clear more ∙ ap (λ (x : Standing). fault_behind x more) (sym stands) ∙ fault;
      number = number;
      row = row;
      says = λ line is. subst (λ (x : Standing). Says (at.records + 1) x line e.reason) before (says line (is.0, sym after ∙ is.1));
      trailer = λ records x is. let same = trailer records x is in (same.0, same.1 ∙ before);
    }

-- a line
pub says_of_line : (ls : List (List ℕ)) (line : List ℕ) (more : List (List ℕ)) (at : Standing) (code : FaultCode) (e : Explanation) → at ≡ standing ls → IsClear ls → row_fault at line ≡ Err code
    → e.record ≡ at.records + 1 → Says (at.records + 1) at line e.reason → is_reason_of code e.reason ≡ true → SaysOfRetFault (ls ++ line ∷ more) e
says_of_line ls line more at code e stands clear fault number says row =
    says_of_next ls (line ∷ more) at code e stands clear (behind_cons at line more ∙ rw fault refl) number
    (λ other is. let same : line ≡ other = cc is.1 in subst (λ (xs : List ℕ). Says (at.records + 1) at xs e.reason) same says)
    row
    (λ records before is. subst (λ (reason : Reason). Says (at.records + 1) at line reason) is says)

no_line : (line : List ℕ) → IsLine 0 [] line → ⊥
no_line line is = absurd (cc is.1)

-- a trailer that is missing
pub says_of_missing : (ls : List (List ℕ)) (at : Standing) (e : Explanation) → at ≡ standing ls → IsClear ls → has_ended at.last ≡ false
    → e.record ≡ at.records + 1 → e.reason ≡ NoTrailer (at.records + 1) at → SaysOfRetFault ls e
says_of_missing ls at e stands clear open_end number reason =
    subst (λ (xs : List (List ℕ)). SaysOfRetFault xs e) (append-nil ls)
    (says_of_next ls [] at F08 e stands clear (behind_nil at ∙ rw open_end refl) number
    (λ line is. absurd (no_line line is))
    (ap (is_reason_of F08) reason)
    (λ records before is. let same : NoTrailer records before ≡ NoTrailer (at.records + 1) at = sym is ∙ reason in (cc same, cc same)))

-- ---- a text

-- the lines before the rest of a text are without fault
pub record IsJudgedTo (at : Standing) (text rest : List ℕ) : Type 0 where
  pub ls : List (List ℕ)
  pub are : lines text ≡ ls ++ lines rest
  pub stands : at ≡ standing ls
  pub clear : IsClear ls

pub judged_nothing : (at : Standing) (text : List ℕ) → at ≡ standing [] → IsJudgedTo at text text
judged_nothing at text is = record { ls = []; are = refl; stands = is; clear = clear_nothing }

pub judged_more : (at then : Standing) (text rest line after : List ℕ) → IsJudgedTo at text rest → lines rest ≡ line ∷ lines after → row_fault at line ≡ Ok tt → then ≡ standing_behind at line → IsJudgedTo then text after
judged_more at then text rest line after judged cut none is = record {
  ls = judged.ls ++ line ∷ [];
  are = judged.are ∙ ap (λ xs. judged.ls ++ xs) cut ∙ sym (append_assoc judged.ls (line ∷ []) (lines after));
  stands = stands_more judged.ls line at then judged.stands is;
  clear = clear_more judged.ls line at judged.stands judged.clear none;
}

pub judged_fails : (at : Standing) (text rest line after : List ℕ) (code : FaultCode) (e : Explanation) → IsJudgedTo at text rest → lines rest ≡ line ∷ lines after → row_fault at line ≡ Err code
    → e.record ≡ at.records + 1 → Says (at.records + 1) at line e.reason → is_reason_of code e.reason ≡ true → SaysOfRetFault (lines text) e
judged_fails at text rest line after code e judged cut fault number says row =
    subst (λ (xs : List (List ℕ)). SaysOfRetFault xs e) (sym (judged.are ∙ ap (λ xs. judged.ls ++ xs) cut))
    (says_of_line judged.ls line (lines after) at code e judged.stands judged.clear fault number says row)

pub fits_nothing : (at : Standing) (most : ℕ) → at ≡ standing [] → FitsIn at most
fits_nothing at most is = subst (λ (x : Standing). FitsIn x most) (sym is) record { counted = omega arith; small = omega arith; few = omega arith }

-- nothing is left
pub judged_all : (at : Standing) (text rest : List ℕ) → IsJudgedTo at text rest → lines rest ≡ [] → (at ≡ standing (lines text)) × IsClear (lines text)
judged_all at text rest judged none =
    let all : lines text ≡ judged.ls = judged.are ∙ ap (λ xs. judged.ls ++ xs) none ∙ append-nil judged.ls in
    (judged.stands ∙ ap standing (sym all), subst IsClear (sym all) judged.clear)
