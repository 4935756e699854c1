-- What is left of a text behind its first lines.
use Rattle.std.proofs.Common.{◌≡◌, true, ℕ, ◌+◌, ◌-◌, ◌<◌, List, [], ◌∷◌, ◌++◌, length, take, drop, refl, sym, ap, ◌∙◌, arith, inl, inr, append_assoc}
use Rattle.std.specs.Prelude.{◌==◌}
use Rattle.std.proofs.lemmas.Bool.{eqb-true}
use Rattle.std.proofs.lemmas.List.{append-nil, take_all, drop-drop}
use Rattle.std.proofs.Math.Seq.{take-add}
use Rattle.bsp_fields.specs.Lines.{lines, IsRest, before_rest, IsWholeLines, BeginsWithLine, HasFirstLine}
use Rattle.bsp_fields.proofs.CutLemmas.{lines_nil}

-- ---- rests

pub before_itself : (text : List ℕ) → before_rest text text ≡ []
before_itself text = ap (λ k. take k text) (let none : length text - length text ≡ 0 = omega arith in none)

pub rest_itself : (text : List ℕ) → IsRest text text
rest_itself text = record { short = omega arith; last = ap (λ k. drop k text) (let none : 0 ≡ length text - length text = omega arith in none) }

pub rest_of_rest : (after rest text : List ℕ) → IsRest after rest → IsRest rest text → IsRest after text
rest_of_rest after rest text a r =
    let n = length text - length rest in
    let m = length rest - length after in
    let both : n + m ≡ length text - length after = omega (arith, a.short, r.short) in
    record {
      short = omega (arith, a.short, r.short);
      last = a.last ∙ ap (drop m) r.last ∙ drop-drop m n text ∙ ap (λ k. drop k text) both;
    }

pub before_joined : (after rest text : List ℕ) → IsRest after rest → IsRest rest text → before_rest text after ≡ before_rest text rest ++ before_rest rest after
before_joined after rest text a r =
    let n = length text - length rest in
    let m = length rest - length after in
    let both : length text - length after ≡ n + m = omega (arith, a.short, r.short) in
    ap (λ k. take k text) both ∙ take-add n m text ∙ ap (λ xs. take n text ++ take m xs) (sym r.last)

-- ---- whole lines

pub whole_nothing : IsWholeLines []
whole_nothing more = rw lines_nil refl

pub whole_joined : (front back : List ℕ) → IsWholeLines front → IsWholeLines back → IsWholeLines (front ++ back)
whole_joined front back f b more =
    ap lines (append_assoc front back more) ∙ f (back ++ more) ∙ ap (λ ls. lines front ++ ls) (b more)
    ∙ sym (append_assoc (lines front) (lines back) (lines more)) ∙ ap (λ ls. ls ++ lines more) (sym (f back))

pub cut_alone : (text line rest : List ℕ) → BeginsWithLine text line rest → lines (before_rest text rest) ≡ line ∷ []
cut_alone text line rest b = ap lines (sym (append-nil (before_rest text rest))) ∙ b.cut [] ∙ rw lines_nil refl

pub whole_cut : (text line rest : List ℕ) → BeginsWithLine text line rest → IsWholeLines (before_rest text rest)
whole_cut text line rest b more = b.cut more ∙ ap (λ ls. ls ++ lines more) (sym (cut_alone text line rest b))

-- ---- the first line

-- read alone, the first line is one line
pub one_line : (text line rest : List ℕ) → HasFirstLine text line rest → lines (before_rest text rest) ≡ line ∷ []
one_line text line rest f =
    elim f.ended [
      | inl b ↦ cut_alone text line rest b
      | inr last ↦ ap lines (ap (λ xs. take (length text - length xs) text) last.1 ∙ take_all (length text - 0) text (omega arith)) ∙ f.cut ∙ ap (λ xs. line ∷ lines xs) last.1 ∙ rw lines_nil refl
    ]

pub some_rest : (text line rest : List ℕ) → HasFirstLine text line rest → 0 < length rest → IsWholeLines (before_rest text rest)
some_rest text line rest f some =
    elim f.ended [
      | inl b ↦ whole_cut text line rest b
      | inr last ↦ absurd (omega (arith, some, ap length last.1))
    ]

pub no_lines : (text : List ℕ) → lines (before_rest text text) ≡ []
no_lines text = ap lines (before_itself text) ∙ lines_nil

pub lines_empty : (text : List ℕ) → (length text == 0) ≡ true → lines text ≡ []
lines_empty [] none = lines_nil
lines_empty (b ∷ text) none = absurd (omega (arith, eqb-true (length (b ∷ text)) 0 none))

-- some lines are some bytes
pub some_bytes : (text : List ℕ) → 0 < length (lines text) → 0 < length text
some_bytes [] some = absurd (omega (arith, some, ap length lines_nil))
some_bytes (b ∷ text) some = omega arith
