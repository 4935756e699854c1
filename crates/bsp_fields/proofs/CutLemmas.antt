-- A text is cut at its first LF.
use Rattle.std.proofs.Common.{◌≡◌, ◌≢◌, ℕ, zero, suc, ◌+◌, ◌-◌, ◌<◌, ◌≤◌, Bool, true, false, ◌&&◌, ◌||◌, List, [], ◌∷◌, ◌++◌, length, get_or, take, drop, refl, sym, ap, ◌∙◌, arith, inl, inr, append_assoc, length-drop}
use Rattle.std.specs.Prelude.{◌==◌, cond}
use Rattle.std.specs.List.{list_all}
use Rattle.std.proofs.lemmas.Grind.{common_steps}
use Rattle.std.proofs.lemmas.Bool.{cases_Bool, eqb-true, and_parts}
use Rattle.bsp_fields.specs.Columns.{is_printable, is_wide}
use Rattle.std.proofs.lemmas.List.{take_more, take-append-drop, get_or-drop, drop-drop}
use Rattle.std.proofs.Math.Seq.{drop-length}
use Rattle.bsp_fields.specs.Lines.{begins_with, with_first, lines, without_cr, has_end, IsRest, before_rest, BeginsWithLine, HasFirstLine}

-- ---- one byte in front

pub lines_nil : lines [] ≡ []
unfolding lines
lines_nil = refl

lines_cons : (b : ℕ) (bytes : List ℕ) → lines (b ∷ bytes) ≡ cond (b == 10) ([] ∷ lines bytes) (cond ((b == 13) && begins_with 10 bytes) (lines bytes) (with_first b (lines bytes)))
unfolding lines
lines_cons b bytes = refl

or_parts : (a b : Bool) → (a || b) ≡ false → (a ≡ false) × (b ≡ false)
or_parts true b h = absurd (cc h)
or_parts false b h = (refl, h)

no_and : (a : Bool) → (a && false) ≡ false
no_and true = refl
no_and false = refl

-- ---- the first line

-- bytes without an LF, and an LF, are a line
pub lines_cut : (line rest : List ℕ) → has_end line ≡ false → lines (line ++ 10 ∷ rest) ≡ without_cr line ∷ lines rest
lines_cut [] rest h = lines_cons 10 rest
lines_cut (b ∷ []) rest h =
    let e : (b == 10) ≡ false = (or_parts (b == 10) false h).0 in
    elim (cases_Bool (b == 13)) [
      | inl cr ↦ lines_cons b (10 ∷ rest) ∙ rw (e, cr, lines_cons 10 rest) refl
      | inr other ↦ lines_cons b (10 ∷ rest) ∙ rw (e, other, lines_cons 10 rest) refl
    ]
lines_cut (b ∷ c ∷ line) rest h =
    let first = or_parts (b == 10) (has_end (c ∷ line)) h in
    let second = or_parts (c == 10) (has_end line) first.1 in
    lines_cons b (c ∷ (line ++ 10 ∷ rest)) ∙ rw (first.0, second.0, no_and (b == 13)) (ap (with_first b) (lines_cut (c ∷ line) rest first.1))

-- bytes without an LF are one line
pub lines_last : (b : ℕ) (bytes : List ℕ) → has_end (b ∷ bytes) ≡ false → lines (b ∷ bytes) ≡ (b ∷ bytes) ∷ []
lines_last b [] h =
    let e : (b == 10) ≡ false = (or_parts (b == 10) false h).0 in
    lines_cons b [] ∙ rw (e, no_and (b == 13), lines_nil) refl
lines_last b (c ∷ bytes) h =
    let first = or_parts (b == 10) (has_end (c ∷ bytes)) h in
    let second = or_parts (c == 10) (has_end bytes) first.1 in
    lines_cons b (c ∷ bytes) ∙ rw (first.0, second.0, no_and (b == 13)) (ap (with_first b) (lines_last c bytes first.1))

joined : (b : ℕ) (ls : List (List ℕ)) → (line : List ℕ) × (more : List (List ℕ)) × (with_first b ls ≡ line ∷ more)
joined b [] = (b ∷ [], [], refl)
joined b (line ∷ ls) = (b ∷ line, ls, refl)

-- some bytes are some lines
pub some_lines : (b : ℕ) (bytes : List ℕ) → (line : List ℕ) × (more : List (List ℕ)) × (lines (b ∷ bytes) ≡ line ∷ more)
some_lines b [] =
    let j = joined b (lines []) in
    elim (cases_Bool (b == 10)) [
      | inl e ↦ ([], lines [], lines_cons b [] ∙ rw e refl)
      | inr e ↦ (j.0, j.1, lines_cons b [] ∙ rw (e, no_and (b == 13)) j.2)
    ]
some_lines b (c ∷ bytes) =
    let k = some_lines c bytes in
    let j = joined b (lines (c ∷ bytes)) in
    elim (cases_Bool (b == 10)) [
      | inl e ↦ ([], lines (c ∷ bytes), lines_cons b (c ∷ bytes) ∙ rw e refl)
      | inr e ↦ elim (cases_Bool ((b == 13) && begins_with 10 (c ∷ bytes))) [
        | inl f ↦ (k.0, k.1, lines_cons b (c ∷ bytes) ∙ rw (e, f) k.2)
        | inr f ↦ (j.0, j.1, lines_cons b (c ∷ bytes) ∙ rw (e, f) j.2)
      ]
    ]

-- ---- the place of the first LF

pub no_end_before : (bytes : List ℕ) (k : ℕ) → k ≤ length bytes → ((j : ℕ) → j < k → (get_or bytes j 0 == 10) ≡ true → ⊥) → has_end (take k bytes) ≡ false
no_end_before bytes zero within none = refl
no_end_before [] (suc k) within none = absurd (omega arith)
no_end_before (b ∷ bytes) (suc k) within none =
    let rest = no_end_before bytes k (omega arith) (λ j below is. none (suc j) (omega arith) is) in
    elim (cases_Bool (b == 10)) [
      | inl e ↦ absurd (none 0 (omega arith) e)
      | inr e ↦ rw (e, rest) refl
    ]

rest_of : (bytes : List ℕ) (k : ℕ) → k ≤ length bytes → length bytes - length (drop k bytes) ≡ k
rest_of bytes k within = omega (arith, length-drop k bytes)

pub IsRest-drop : (bytes : List ℕ) (k : ℕ) → k ≤ length bytes → IsRest (drop k bytes) bytes
IsRest-drop bytes k within = record {
  short = omega (arith, length-drop k bytes);
  last = ap (λ j. drop j bytes) (sym (rest_of bytes k within));
}

pub begins_with_line : (bytes : List ℕ) (at : ℕ) → at < length bytes → get_or bytes at 0 ≡ 10 → has_end (take at bytes) ≡ false → BeginsWithLine bytes (without_cr (take at bytes)) (drop (at + 1) bytes)
begins_with_line bytes at below is none =
    let front : before_rest bytes (drop (at + 1) bytes) ≡ take at bytes ++ 10 ∷ [] =
    ap (λ k. take k bytes) (rest_of bytes (at + 1) (omega arith)) ∙ take_more bytes at 0 below ∙ ap (λ b. take at bytes ++ b ∷ []) is in
    record {
      rest_is = IsRest-drop bytes (at + 1) (omega arith);
      shorter = omega (arith, length-drop (at + 1) bytes);
      cut = λ more. ap (λ xs. lines (xs ++ more)) front ∙ ap lines (append_assoc (take at bytes) (10 ∷ []) more) ∙ lines_cut (take at bytes) more none;
    }

-- ---- the CR of a line

cr_last : (t : List ℕ) (k : ℕ) → length t ≡ suc k → get_or t k 0 ≡ 13 → without_cr t ≡ take k t
cr_last [] k len e = absurd (omega arith)
cr_last (b ∷ []) zero len e = rw e refl
cr_last (b ∷ []) (suc k) len e = absurd (omega arith)
cr_last (b ∷ c ∷ t) zero len e = absurd (omega arith)
cr_last (b ∷ c ∷ t) (suc k) len e = ap (λ (x : List ℕ). b ∷ x) (cr_last (c ∷ t) k (omega arith) e)

no_cr : (t : List ℕ) → ((k : ℕ) → length t ≡ suc k → get_or t k 0 ≡ 13 → ⊥) → without_cr t ≡ t
no_cr [] h = refl
no_cr (b ∷ []) h =
    elim (cases_Bool (b == 13)) [
      | inl e ↦ absurd (h 0 refl (eqb-true b 13 e))
      | inr e ↦ rw e refl
    ]
no_cr (b ∷ c ∷ t) h = ap (λ (x : List ℕ). b ∷ x) (no_cr (c ∷ t) (λ k len e. h (suc k) (ap suc len) e))

pub without_cr_cut : (t : List ℕ) → 0 < length t → get_or t (length t - 1) 0 ≡ 13 → take (length t - 1) t ≡ without_cr t
without_cr_cut t h e = sym (cr_last t (length t - 1) (omega arith) e)

pub without_cr_kept : (t : List ℕ) → ((0 < length t) → get_or t (length t - 1) 0 ≢ 13) → t ≡ without_cr t
without_cr_kept t h = sym (no_cr t (λ k len e. let same : length t - 1 ≡ k = omega arith in h (omega arith) (rw same e)))

-- bytes without an LF are the last line
pub lines_unended : (bytes : List ℕ) → 0 < length bytes → has_end bytes ≡ false → lines bytes ≡ bytes ∷ lines (drop (length bytes) bytes)
lines_unended [] some none = absurd (omega arith)
lines_unended (b ∷ bytes) some none = lines_last b bytes none ∙ rw (drop-length (b ∷ bytes), lines_nil) refl

pub first_unended : (bytes : List ℕ) → 0 < length bytes → has_end bytes ≡ false → HasFirstLine bytes bytes (drop (length bytes) bytes)
first_unended bytes some none = record {
  cut = lines_unended bytes some none;
  shorter = omega (arith, length-drop (length bytes) bytes);
  rest_is = IsRest-drop bytes (length bytes) (omega arith);
  ended = inr (refl, drop-length bytes);
}

pub first_ended : (bytes line rest : List ℕ) → BeginsWithLine bytes line rest → HasFirstLine bytes line rest
first_ended bytes line rest b =
    let whole : before_rest bytes rest ++ rest ≡ bytes = ap (λ xs. before_rest bytes rest ++ xs) b.rest_is.last ∙ take-append-drop (length bytes - length rest) bytes in
    record {
      cut = ap lines (sym whole) ∙ b.cut rest;
      shorter = b.shorter;
      rest_is = b.rest_is;
      ended = inl b;
    }

-- ---- a record that ends in LF

printable_no_end : (text : List ℕ) → list_all is_printable text ≡ true → has_end text ≡ false
printable_no_end [] all = refl
printable_no_end (b ∷ text) all =
    let parts = and_parts (is_printable b) (list_all is_printable text) all in
    let other : (b == 10) ≡ false = grind (arith, common_steps, parts.0) in
    rw (other, printable_no_end text parts.1) refl

printable_no_cr : (text : List ℕ) → list_all is_printable text ≡ true → without_cr text ≡ text
printable_no_cr [] all = refl
printable_no_cr (b ∷ []) all =
    let parts = and_parts (is_printable b) true all in
    let other : (b == 13) ≡ false = grind (arith, common_steps, parts.0) in
    rw other refl
printable_no_cr (b ∷ c ∷ text) all =
    ap (λ (x : List ℕ). b ∷ x) (printable_no_cr (c ∷ text) ((and_parts (is_printable b) (list_all is_printable (c ∷ text)) all).1))

-- printable characters and an LF behind them are the first line
pub record_first : (bytes line after : List ℕ) (n end : ℕ) → n < length bytes → line ≡ take n bytes → end ≡ get_or bytes n 0 → after ≡ drop (n + 1) bytes → end ≡ 10 → list_all is_printable line ≡ true → HasFirstLine bytes line after
record_first bytes line after n end below line_is end_is after_is lf printable =
    let all : list_all is_printable (take n bytes) ≡ true = rw (← line_is) printable in
    let begins = begins_with_line bytes n below (sym end_is ∙ lf) (printable_no_end (take n bytes) all) in
    rw (line_is, after_is) (first_ended bytes (take n bytes) (drop (n + 1) bytes) (rw (printable_no_cr (take n bytes) all) at begins))

-- the same, where the text is cut behind the first n characters
pub record_cut : (bytes line tail after : List ℕ) (n end : ℕ) → line ≡ take n bytes → tail ≡ drop n bytes → length tail + n ≡ length bytes → tail ≡ end ∷ after → end ≡ 10 → list_all is_printable line ≡ true → HasFirstLine bytes line after
record_cut bytes line tail after n end line_is tail_is long split lf printable =
    let both : end ∷ after ≡ drop n bytes = sym split ∙ tail_is in
    let begins : end ≡ get_or bytes n 0 = ap (λ (xs : List ℕ). get_or xs 0 0) both ∙ get_or-drop n bytes 0 0 ∙ ap (λ k. get_or bytes k 0) (omega arith) in
    let goes : after ≡ drop (n + 1) bytes = ap (λ (xs : List ℕ). drop 1 xs) both ∙ drop-drop 1 n bytes in
    record_first bytes line after n end (omega (arith, long, ap length split)) line_is begins goes lf printable

pub record_wide : (line : List ℕ) → length line ≡ 136 → list_all is_printable line ≡ true → is_wide line ≡ true
unfolding is_wide
record_wide line long printable = rw (long, printable) refl
