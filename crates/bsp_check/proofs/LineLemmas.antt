-- The first line of a text that comes in pieces.
use Rattle.std.proofs.Common.{◌≡◌, ℕ, zero, suc, ◌+◌, ◌-◌, ◌<◌, Bool, true, false, ◌&&◌, ◌||◌, List, [], ◌∷◌, ◌++◌, length, take, drop, Option, refl, sym, ap, subst, ◌∙◌, arith, append_assoc, length-drop}
use Rattle.std.specs.Prelude.{◌==◌, cond}
use Rattle.std.proofs.lemmas.List.{append-nil, length-append, length-take-le, take-append-drop}
use Rattle.std.specs.Io.KnownBytes.{Consumes, IsAtEnd}
use Rattle.std.proofs.KnownBytes.{Consumes-trans}
use Rattle.bsp_ret.specs.Lines.{lines, begins_with, with_first, has_end, BeginsWithLine}
use Rattle.bsp_fields.proofs.CutLemmas.{some_lines, first_ended}
use Rattle.bsp_hot_check.proofs.PieceLemmas.{ended_goes}
use Rattle.bsp_explain.specs.Lines.{IsLine}
use Rattle.bsp_check.specs.declared.window.Window.{Window}
use Rattle.bsp_check.specs.Windows.{text_of, last_of, IsWindow, Fills}
use Rattle.bsp_check.specs.Widths.{all_but_one, HasWidth}

lines_cons : (b : ℕ) (bytes : List ℕ) → lines (b ∷ bytes) ≡ cond (b == 10) ([] ∷ lines bytes) (cond ((b == 13) && begins_with 10 bytes) (lines bytes) (with_first b (lines bytes)))
unfolding lines
lines_cons b bytes = refl

abbrev first_or : List (List ℕ) → List ℕ
first_or [] = []
first_or (line ∷ lines) = line

pub same_first : (ls : List (List ℕ)) (line other : List ℕ) (more further : List (List ℕ)) → ls ≡ line ∷ more → ls ≡ other ∷ further → line ≡ other
same_first ls line other more further is also = ap first_or (sym is ∙ also)

-- ---- texts without an end

no_and : (a : Bool) → (a && false) ≡ false
no_and true = refl
no_and false = refl

or_parts : (a b : Bool) → (a || b) ≡ false → (a ≡ false) × (b ≡ false)
or_parts true b h = absurd (cc h)
or_parts false b h = (refl, h)

pub no_end_take : (n : ℕ) (text : List ℕ) → has_end text ≡ false → has_end (take n text) ≡ false
no_end_take zero text none = refl
no_end_take (suc n) [] none = refl
no_end_take (suc n) (b ∷ text) none =
    let parts = or_parts (b == 10) (has_end text) none in rw (parts.0, no_end_take n text parts.1) refl

pub no_end_drop : (n : ℕ) (text : List ℕ) → has_end text ≡ false → has_end (drop n text) ≡ false
no_end_drop zero text none = none
no_end_drop (suc n) [] none = refl
no_end_drop (suc n) (b ∷ text) none = no_end_drop n text ((or_parts (b == 10) (has_end text) none).1)

pub no_end_joined : (text more : List ℕ) → has_end text ≡ false → has_end more ≡ false → has_end (text ++ more) ≡ false
no_end_joined [] more none also = also
no_end_joined (b ∷ text) more none also =
    let parts = or_parts (b == 10) (has_end text) none in rw (parts.0, no_end_joined text more parts.1 also) refl

pub begins_no_end : (text more : List ℕ) → 0 < length text → has_end text ≡ false → begins_with 10 (text ++ more) ≡ false
begins_no_end [] more some none = absurd (omega (arith, some))
begins_no_end (b ∷ text) more some none = (or_parts (b == 10) (has_end text) none).0

begins_longer : (text more : List ℕ) → 0 < length text → begins_with 10 text ≡ false → begins_with 10 (text ++ more) ≡ false
begins_longer [] more some first = absurd (omega (arith, some))
begins_longer (b ∷ text) more some first = first

-- a text without an end before another, which does not begin with LF
pub prefixed : (front text line : List ℕ) (ls : List (List ℕ)) → has_end front ≡ false → begins_with 10 text ≡ false → lines text ≡ line ∷ ls → lines (front ++ text) ≡ (front ++ line) ∷ ls
prefixed [] text line ls none first are = are
prefixed (b ∷ []) text line ls none first are =
    let e = (or_parts (b == 10) false none).0 in
    lines_cons b text ∙ rw (e, first, no_and (b == 13)) (ap (with_first b) are)
prefixed (b ∷ c ∷ front) text line ls none first are =
    let parts = or_parts (b == 10) (has_end (c ∷ front)) none in
    let next = or_parts (c == 10) (has_end front) parts.1 in
    lines_cons b (c ∷ (front ++ text)) ∙ rw (parts.0, next.0, no_and (b == 13)) (ap (with_first b) (prefixed (c ∷ front) text line ls parts.1 first are))

-- ---- the first line is known

pub whole_line : (text line rest more first : List ℕ) → BeginsWithLine text line rest → IsLine 0 (lines (text ++ more)) first → IsLine 0 (lines text) first
whole_line text line rest more first b is =
    let same : line ≡ first = same_first (lines (text ++ more)) line first (lines (rest ++ more)) is.0 (ended_goes text line rest more b) is.1 in
    (lines rest, (first_ended text line rest b).cut ∙ ap (λ (x : List ℕ). x ∷ lines rest) same)

-- ---- a line that is longer than a window

-- bytes without an end are before the window, whose first byte is none
pub record IsWithin (text : List ℕ) (before_it : ℕ) (old now : Window) (before after : Option (List ℕ)) : Type 0 where
  pub got : List ℕ
  pub taken : Consumes before after got
  pub line : List ℕ
  pub more : List ℕ
  pub line_is : line ≡ all_but_one text ++ more
  pub unended : has_end line ≡ false
  pub long : before_it ≡ length line
  pub are : text ++ got ≡ line ++ text_of now
  pub first : begins_with 10 (text_of now) ≡ false
  pub some : 0 < length (text_of now)
  pub left : now.left + length got ≡ old.left
  pub window : IsWindow now
  pub at_end : now.ended ≡ true → IsAtEnd after

before_last : (text : List ℕ) → all_but_one text ++ last_of 1 text ≡ text
before_last text = take-append-drop (length text - 1) text

some_last : (text more : List ℕ) → 0 < length text → 0 < length (last_of 1 text ++ more)
some_last text more some = omega (arith, some, length-append (last_of 1 text) more, length-drop (length text - 1) text)

last_begins : (text more : List ℕ) → 0 < length text → has_end text ≡ false → begins_with 10 (last_of 1 text ++ more) ≡ false
last_begins text more some none = begins_no_end (last_of 1 text) more (omega (arith, some, length-drop (length text - 1) text)) (no_end_drop (length text - 1) text none)

pub within_start : (old new : Window) (a b : Option (List ℕ)) → 0 < length (text_of old) → has_end (text_of old) ≡ false → Fills (last_of 1 (text_of old)) old new a b → IsWithin (text_of old) (length (text_of old) - 1) old new a b
within_start old new a b some none fills =
    let text = text_of old in
    let reads = fills.reads in
    let Begins : List ℕ → Type 0 = λ xs. begins_with 10 xs ≡ false in
    let Some_of : List ℕ → Type 0 = λ xs. 0 < length xs in
    record {
      got = reads.got;
      taken = reads.taken;
      line = all_but_one text;
      more = [];
      line_is = sym (append-nil (all_but_one text));
      unended = no_end_take (length text - 1) text none;
      long = sym (length-take-le (length text - 1) text (omega arith));
      are = ap (λ xs. xs ++ reads.got) (sym (before_last text)) ∙ append_assoc (all_but_one text) (last_of 1 text) reads.got ∙ ap (λ xs. all_but_one text ++ xs) (sym reads.text_is);
      first = subst Begins (sym reads.text_is) (last_begins text reads.got some none);
      some = subst Some_of (sym reads.text_is) (some_last text reads.got some);
      left = reads.left;
      window = reads.window;
      at_end = reads.at_end;
    }

pub within_more : (text : List ℕ) (before_it : ℕ) (old mid new : Window) (a b c : Option (List ℕ)) → IsWithin text before_it old mid a b → has_end (text_of mid) ≡ false → Fills (last_of 1 (text_of mid)) mid new b c → IsWithin text (before_it + (length (text_of mid) - 1)) old new a c
within_more text before_it old mid new a b c within none fills =
    let now = text_of mid in
    let reads = fills.reads in
    let got = within.got ++ reads.got in
    let Begins : List ℕ → Type 0 = λ xs. begins_with 10 xs ≡ false in
    let Some_of : List ℕ → Type 0 = λ xs. 0 < length xs in
    let all : text ++ got ≡ within.line ++ (now ++ reads.got) =
    sym (append_assoc text within.got reads.got) ∙ ap (λ xs. xs ++ reads.got) within.are ∙ append_assoc within.line now reads.got in
    let cut : now ++ reads.got ≡ all_but_one now ++ text_of new =
    ap (λ xs. xs ++ reads.got) (sym (before_last now)) ∙ append_assoc (all_but_one now) (last_of 1 now) reads.got ∙ ap (λ xs. all_but_one now ++ xs) (sym reads.text_is) in
    record {
      got = got;
      taken = Consumes-trans a b c within.got reads.got within.taken reads.taken;
      line = within.line ++ all_but_one now;
      more = within.more ++ all_but_one now;
      line_is = ap (λ xs. xs ++ all_but_one now) within.line_is ∙ append_assoc (all_but_one text) within.more (all_but_one now);
      unended = no_end_joined within.line (all_but_one now) within.unended (no_end_take (length now - 1) now none);
      long = omega (arith, within.long, length-append within.line (all_but_one now), length-take-le (length now - 1) now (omega arith));
      are = all ∙ ap (λ xs. within.line ++ xs) cut ∙ sym (append_assoc within.line (all_but_one now) (text_of new));
      first = subst Begins (sym reads.text_is) (last_begins now reads.got within.some none);
      some = subst Some_of (sym reads.text_is) (some_last now reads.got within.some);
      left = omega (arith, within.left, reads.left, length-append within.got reads.got);
      window = reads.window;
      at_end = reads.at_end;
    }

some_line : (text more : List ℕ) → 0 < length text → (line : List ℕ) × (ls : List (List ℕ)) × (lines (text ++ more) ≡ line ∷ ls)
some_line [] more some = absurd (omega (arith, some))
some_line (b ∷ text) more some = some_lines b (text ++ more)

long_first : (text : List ℕ) (before_it : ℕ) (old now : Window) (a b : Option (List ℕ)) → (within : IsWithin text before_it old now a b) → (more first : List ℕ) → IsLine 0 (lines (text ++ (within.got ++ more))) first
    → (x : List ℕ) × (first ≡ within.line ++ x) × IsLine 0 (lines (text_of now ++ more)) x
long_first text before_it old now a b within more first is =
    let some = some_line (text_of now) more within.some in
    let all : text ++ (within.got ++ more) ≡ within.line ++ (text_of now ++ more) =
    sym (append_assoc text within.got more) ∙ ap (λ xs. xs ++ more) within.are ∙ append_assoc within.line (text_of now) more in
    let cut = ap lines all ∙ prefixed within.line (text_of now ++ more) some.0 some.1 within.unended (begins_longer (text_of now) more within.some within.first) some.2 in
    (some.0, same_first (lines (text ++ (within.got ++ more))) first (within.line ++ some.0) is.0 some.1 is.1 cut, (some.1, some.2))

-- the line ends in the window, or with the input
pub width_found : (text : List ℕ) (before_it : ℕ) (old now : Window) (a b : Option (List ℕ)) (line rest : List ℕ) → IsWithin text before_it old now a b
    → ((more : List ℕ) → (now.ended ≡ true → more ≡ []) → (first : List ℕ) → IsLine 0 (lines (text_of now ++ more)) first → IsLine 0 (lines (text_of now)) first)
    → lines (text_of now) ≡ line ∷ lines rest → HasWidth text (before_it + length line) old now a b
width_found text before_it old now a b line rest within whole cut =
    let same : (x : List ℕ) → IsLine 0 (lines (text_of now)) x → x ≡ line = λ x is. same_first (lines (text_of now)) x line is.0 (lines rest) is.1 cut in
    record {
      got = within.got;
      taken = within.taken;
      left = within.left;
      window = within.window;
      at_end = within.at_end;
      width_is = λ more follows first is.
          let found = long_first text before_it old now a b within more first is in
          let last = same found.0 (whole more follows found.0 found.2) in
          omega (arith, ap length found.1, length-append within.line found.0, ap length last, within.long);
      begins = λ more follows first is.
          let found = long_first text before_it old now a b within more first is in
          (within.more ++ found.0, found.1 ∙ ap (λ xs. xs ++ found.0) within.line_is ∙ append_assoc (all_but_one text) within.more found.0);
    }

-- what was read is no longer than what may be read
pub within_sum : (text : List ℕ) (before_it : ℕ) (old now : Window) (a b : Option (List ℕ)) → IsWithin text before_it old now a b → before_it + length (text_of now) + now.left ≡ length text + old.left
within_sum text before_it old now a b within =
    omega (arith, within.left, within.long, ap length within.are, length-append text within.got, length-append within.line (text_of now))
