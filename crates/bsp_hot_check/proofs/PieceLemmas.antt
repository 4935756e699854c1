-- Lines of a text that comes in pieces.
use Rattle.std.proofs.Common.{◌≡◌, ℕ, suc, ◌+◌, ◌-◌, ◌<◌, ◌≤◌, false, ◌&&◌, List, [], ◌∷◌, ◌++◌, length, Some, None, refl, sym, ap, ◌∙◌, arith, inl, inr, append_assoc}
use Rattle.std.specs.Prelude.{◌==◌, cond, Result, Ok, Err}
use Rattle.std.proofs.lemmas.Bool.{cases_Bool}
use Rattle.std.proofs.lemmas.List.{length-take, take-append-drop, append-nil}
use Rattle.bsp_fields.specs.Columns.{is_wide}
use Rattle.bsp_fields.specs.Lines.{lines, begins_with, with_first, before_rest, BeginsWithLine, HasFirstLine, BeginsOtherwise}
use Rattle.bsp_fields.proofs.CutLemmas.{lines_nil, some_lines}
use Rattle.bsp_fields.proofs.RestLemmas.{rest_itself, rest_of_rest, cut_alone}
use Rattle.bsp_hot_check.specs.declared.model.Standing.{Standing}
use Rattle.bsp_hot_check.specs.declared.model.HotTotals.{HotTotals}
use Rattle.bsp_hot_check.specs.declared.model.RecordFault.{RecordFault}
use Rattle.bsp_hot_check.specs.Hot.{File, Hot, IsFirstFault, totals_of_file}
use Rattle.bsp_hot_check.specs.Checked.{HasTotals}
use Rattle.bsp_hot_check.specs.Standings.{start}
use Rattle.bsp_hot_check.proofs.LawLemmas.{law, faulty}
use Rattle.bsp_hot_check.specs.Judging.{step_line, stands_after, judge_from}
use Rattle.bsp_hot_check.specs.Pieces.{Passes, AreRefused}
use Rattle.bsp_hot_check.proofs.Judging.{judge_cons, narrow_line}
use Rattle.bsp_hot_check.proofs.StateLemmas.{stands_nil, stands_line, stands_judged}

abbrev Answer : Type 0
Answer = Result HotTotals RecordFault

-- ---- how long the first line is

lines_cons : (b : ℕ) (bytes : List ℕ) → lines (b ∷ bytes) ≡ cond (b == 10) ([] ∷ lines bytes) (cond ((b == 13) && begins_with 10 bytes) (lines bytes) (with_first b (lines bytes)))
unfolding lines
lines_cons b bytes = refl

abbrev first_of : List (List ℕ) → List ℕ
first_of [] = []
first_of (line ∷ lines) = line

first_joined : (b n : ℕ) (xs : List (List ℕ)) → length (first_of xs) ≤ n → length (first_of (with_first b xs)) ≤ suc n
first_joined b n [] short = omega arith
first_joined b n (line ∷ lines) short = omega (arith, short)

first_within : (text : List ℕ) → length (first_of (lines text)) ≤ length text
first_within [] = rw lines_nil (omega arith)
first_within (b ∷ text) =
    let short = first_within text in
    elim (cases_Bool (b == 10)) [
      | inl e ↦ rw (lines_cons b text, e) (omega arith)
      | inr e ↦ elim (cases_Bool ((b == 13) && begins_with 10 text)) [
        | inl f ↦ rw (lines_cons b text, e, f) (omega (arith, short))
        | inr f ↦ rw (lines_cons b text, e, f) (first_joined b (length text) (lines text) short)
      ]
    ]

pub first_short : (text line : List ℕ) (ls : List (List ℕ)) → lines text ≡ line ∷ ls → length line ≤ length text
first_short text line ls are =
    let first : length (first_of (lines text)) ≡ length line = ap (λ (xs : List (List ℕ)). length (first_of xs)) are in
    omega (arith, first, first_within text)

-- a line and its end leave room
pub line_room : (text line rest : List ℕ) → HasFirstLine text line rest → length line + length rest ≤ length text
line_room text line rest first =
    elim first.ended [
      | inl b ↦
          let short = first_short (before_rest text rest) line [] (cut_alone text line rest b) in
          omega (arith, short, length-take (length text - length rest) text, first.rest_is.short)
      | inr last ↦ omega (arith, ap length last.0, ap length last.1)
    ]

-- ---- a text without an end

-- what follows the text adds to its line, but for a CR
pub record Goes (text more : List ℕ) : Type 0 where
  pub line : List ℕ
  pub ls : List (List ℕ)
  pub are : lines (text ++ more) ≡ line ∷ ls
  pub long : length text ≤ length line + 1

one_goes : (b : ℕ) (more : List ℕ) → Goes (b ∷ []) more
one_goes b [] =
    let some = some_lines b [] in record { line = some.0; ls = some.1; are = some.2; long = omega arith }
one_goes b (c ∷ more) =
    let some = some_lines b (c ∷ more) in record { line = some.0; ls = some.1; are = some.2; long = omega arith }

next_goes : (b c : ℕ) (text more : List ℕ) → (b == 10) ≡ false → ((b == 13) && begins_with 10 (c ∷ text)) ≡ false → Goes (c ∷ text) more → Goes (b ∷ c ∷ text) more
next_goes b c text more e f goes = record {
  line = b ∷ goes.line;
  ls = goes.ls;
  are = lines_cons b (c ∷ (text ++ more)) ∙ rw (e, f) (ap (with_first b) goes.are);
  long = omega (arith, goes.long);
}

pub goes_on : (text more : List ℕ) → 0 < length text → length (first_of (lines text)) ≡ length text → Goes text more
goes_on [] more some long = absurd (omega (arith, some))
goes_on (b ∷ []) more some long = one_goes b more
goes_on (b ∷ c ∷ text) more some long =
    let next = some_lines c text in
    elim (cases_Bool (b == 10)) [
      | inl e ↦
          let none : length (first_of (lines (b ∷ c ∷ text))) ≡ 0 = rw (lines_cons b (c ∷ text), e) refl in
          absurd (omega (arith, none, long))
      | inr e ↦ elim (cases_Bool ((b == 13) && begins_with 10 (c ∷ text))) [
        | inl f ↦
            let same : length (first_of (lines (b ∷ c ∷ text))) ≡ length (first_of (lines (c ∷ text))) = rw (lines_cons b (c ∷ text), e, f) refl in
            absurd (omega (arith, same, long, first_within (c ∷ text)))
        | inr f ↦
            let one : length (first_of (lines (b ∷ c ∷ text))) ≡ suc (length next.0) = rw (lines_cons b (c ∷ text), e, f, next.2) refl in
            let first : length (first_of (lines (c ∷ text))) ≡ length next.0 = rw next.2 refl in
            next_goes b c text more e f (goes_on (c ∷ text) more (omega arith) (omega (arith, one, first, long)))
      ]
    ]

-- ---- a line that is not allowed

-- a line with its end, whatever follows
pub ended_goes : (text line rest more : List ℕ) → BeginsWithLine text line rest → lines (text ++ more) ≡ line ∷ lines (rest ++ more)
ended_goes text line rest more b =
    let whole : before_rest text rest ++ rest ≡ text = ap (λ xs. before_rest text rest ++ xs) b.rest_is.last ∙ take-append-drop (length text - length rest) text in
    ap (λ xs. lines (xs ++ more)) (sym whole) ∙ ap lines (append_assoc (before_rest text rest) rest more) ∙ b.cut (rest ++ more)

pub ended_wide : (text line rest : List ℕ) → HasFirstLine text line rest → 137 < length text → length line ≡ 136 → BeginsWithLine text line rest
ended_wide text line rest first some wide =
    elim first.ended [
      | inl b ↦ b
      | inr last ↦ absurd (omega (arith, some, wide, ap length last.0))
    ]

pub wide_long : (line : List ℕ) → 136 < length line → is_wide line ≡ false
unfolding is_wide
wide_long line long =
    let other : (length line == 136) ≡ false = grind (arith, long) in rw other refl

-- ---- lines with which a text ends

pub passes_none : (at : Standing) (text : List ℕ) → Passes at text at text
passes_none at text = record { rest_is = rest_itself text; front = []; are = refl; stands = stands_nil at }

pub passes_more : (at mid next : Standing) (text rest line after : List ℕ) → Passes at text mid rest → HasFirstLine rest line after → step_line mid line ≡ Some next → Passes at text next after
passes_more at mid next text rest line after passes first step = record {
  rest_is = rest_of_rest after rest text first.rest_is passes.rest_is;
  front = passes.front ++ line ∷ [];
  are = passes.are ∙ ap (λ ls. passes.front ++ ls) first.cut ∙ sym (append_assoc passes.front (line ∷ []) (lines after));
  stands = stands_line at mid next passes.front line passes.stands step;
}

pub passes_all : (at then : Standing) (text rest : List ℕ) → Passes at text then rest → lines rest ≡ [] → stands_after at (lines text) ≡ Some then
passes_all at then text rest passes none =
    ap (stands_after at) (passes.are ∙ ap (λ ls. passes.front ++ ls) none ∙ append-nil passes.front) ∙ passes.stands

pub are_refused : (at : Standing) (text line rest : List ℕ) → HasFirstLine text line rest → step_line at line ≡ None → AreRefused at (lines text)
are_refused at text line rest first none = record { line = line; more = lines rest; are = first.cut; refused = none }

pub narrow_refused : (at : Standing) (text : List ℕ) → BeginsOtherwise text → AreRefused at (lines text)
narrow_refused at text other = are_refused at text other.line other.rest other.first (narrow_line at other.line other.narrow)

-- ---- the same as judged

pub refused_judged : (at then : Standing) (text rest : List ℕ) → Passes at text then rest → AreRefused then (lines rest) → judge_from at (lines text) ≡ Err (then.records + 1)
refused_judged at then text rest passes refused =
    ap (judge_from at) (passes.are ∙ ap (λ ls. passes.front ++ ls) refused.are)
    ∙ stands_judged passes.front (refused.line ∷ refused.more) at then passes.stands
    ∙ judge_cons then refused.line refused.more ∙ rw refused.refused refl

pub refused_faulty : (then : Standing) (text rest : List ℕ) → Passes start text then rest → AreRefused then (lines rest) → IsFirstFault (lines text) (then.records + 1)
refused_faulty then text rest passes refused = faulty (lines text) (then.records + 1) (refused_judged start then text rest passes refused)

-- ---- what a call answers of a text that is a file

pub found_only : (ls : List (List ℕ)) (totals : HotTotals) → HasTotals ls totals → (file : File) → Hot ls file → ◌≡◌ {A = Answer} (Ok totals) (Ok (totals_of_file file))
found_only ls totals has file hot = ap Ok (has.totals_are ∙ (law ls).same_totals has.file file has.stands hot)

pub fault_only : (ls : List (List ℕ)) (fault : RecordFault) (n : ℕ) → fault.number ≡ n → IsFirstFault ls n → (file : File) → Hot ls file → ◌≡◌ {A = Answer} (Err fault) (Ok (totals_of_file file))
fault_only ls fault n is first file hot = absurd ((law ls).not_both n file first hot)
