-- The places of a text's records.
use Rattle.std.proofs.Common.{◌≡◌, ℕ, ℤ, pos, ◌+ℤ◌, ◌+◌, ◌-◌, ◌<◌, ◌≤◌, Bool, true, false, List, [], ◌∷◌, ◌++◌, length, take, drop, refl, sym, ap, subst, ◌∙◌, inl, inr, arith, length-drop}
use Rattle.std.specs.Prelude.{◌==◌, ◌&&◌, unsigned_abs}
use Rattle.std.specs.Int.{w64}
use Rattle.std.proofs.Common.{to_z, of_z, ◌*◌, ◌^◌}
use Rattle.std.proofs.lemmas.Int.{ints, to_z-of_z, fits_signed_from_abs}
use Rattle.std.specs.List.{slice_range}
use Rattle.std.proofs.lemmas.Bool.{cases_Bool, and_parts}
use Rattle.std.proofs.lemmas.List.{map-append, take-append-le, drop-append-le, drop-drop, length-take, length-take-le}
use Rattle.std.proofs.Math.Seq.{take-add}
use Rattle.bsp_fields.specs.Lines.{with_first, begins_with, lines, before_rest, IsWholeLines, BeginsWithLine}
use Rattle.bsp_fields.proofs.CutLemmas.{lines_nil, some_lines, first_ended}
use Rattle.bsp_fields.proofs.RestLemmas.{whole_nothing, whole_joined, whole_cut, cut_alone, lines_empty}
use Rattle.bsp_ret.specs.declared.notes.Notes.{Notes}
use Rattle.bsp_ret.specs.declared.notes.Place.{Place}
use Rattle.bsp_ret.specs.declared.notes.Span.{Span}
use Rattle.bsp_ret.specs.Table.{paid, total_paid}
use Rattle.bsp_ret.specs.Reading.{with_group}
use Rattle.bsp_ret.specs.Notes.{lines_at, groups_at, IsSpan, IsPlace, ArePlaces, HasPlaces}
use Rattle.bsp_ret.proofs.Steps.{total_paid_snoc}

-- ---- a group that is closed

pub closed_none : (groups : List (List (List ℕ))) (text : List ℕ) → (length text == 0) ≡ true → with_group groups (lines text) ≡ groups
closed_none groups text none = rw (lines_empty text none) refl

pub closed_some : (groups : List (List (List ℕ))) (text : List ℕ) → (length text == 0) ≡ false → with_group groups (lines text) ≡ groups ++ lines text ∷ []
closed_some groups [] some = absurd (cc some)
closed_some groups (b ∷ text) some = let k = some_lines b text in rw k.2 refl

-- the sum of a group's forms fits in its place
pub added_sum : (x y : ℤ) → unsigned_abs x ≤ 3 * 10 ^ 11 → unsigned_abs y ≤ 99_999_999_999 → to_z w64 (of_z w64 (to_z w64 (of_z w64 x) +ℤ to_z w64 (of_z w64 y))) ≡ x +ℤ y
added_sum x y p q =
    let a = to_z-of_z w64 x (fits_signed_from_abs w64 x (omega arith)) in
    let b = to_z-of_z w64 y (fits_signed_from_abs w64 y (omega arith)) in
    let small : unsigned_abs (x +ℤ y) ≤ unsigned_abs x + unsigned_abs y = omega (arith, ints) in
    let c = to_z-of_z w64 (x +ℤ y) (fits_signed_from_abs w64 (x +ℤ y) (omega (arith, small))) in
    rw (a, b) c

-- ---- parts of a text

pub part_joined : (bytes : List ℕ) (a b c : ℕ) → a ≤ b → b ≤ c → slice_range bytes a c ≡ slice_range bytes a b ++ slice_range bytes b c
part_joined bytes a b c first second =
    let whole : c - a ≡ (b - a) + (c - b) = omega arith in
    let middle : a + (b - a) ≡ b = omega arith in
    ap (λ k. take k (drop a bytes)) whole ∙ take-add (b - a) (c - b) (drop a bytes)
    ∙ ap (λ xs. slice_range bytes a b ++ take (c - b) xs) (drop-drop (b - a) a bytes ∙ ap (λ k. drop k bytes) middle)

pub front_joined : (bytes : List ℕ) (b c : ℕ) → b ≤ c → take c bytes ≡ take b bytes ++ slice_range bytes b c
front_joined bytes b c order =
    let whole : c ≡ b + (c - b) = omega arith in
    ap (λ k. take k bytes) whole ∙ take-add b (c - b) bytes

pub part_grown : (old piece : List ℕ) (a b : ℕ) → a ≤ b → b ≤ length old → slice_range (old ++ piece) a b ≡ slice_range old a b
part_grown old piece a b order within =
    let inside : b - a ≤ length (drop a old) = omega (arith, length-drop a old) in
    ap (λ xs. take (b - a) xs) (drop-append-le a old piece (omega arith)) ∙ take-append-le (b - a) (drop a old) piece inside

pub part_nothing : (bytes : List ℕ) (a b : ℕ) → b ≤ a → slice_range bytes a b ≡ []
part_nothing bytes a b order =
    let none : b - a ≡ 0 = omega arith in
    ap (λ k. take k (drop a bytes)) none

part_length : (bytes : List ℕ) (a b : ℕ) → a ≤ b → b ≤ length bytes → length (slice_range bytes a b) ≡ b - a
part_length bytes a b order within = length-take-le (b - a) (drop a bytes) (omega (arith, length-drop a bytes))

-- ---- the first line is where the text begins

-- a line behind a byte
behind_first : (b : ℕ) (bytes line : List ℕ) (ls more : List (List ℕ)) → with_first b ls ≡ line ∷ more → ((l : List ℕ) (m : List (List ℕ)) → ls ≡ l ∷ m → take (length l) bytes ≡ l) → take (length line) (b ∷ bytes) ≡ line
behind_first b bytes line [] more is first = let same : line ≡ b ∷ [] = cc is in rw same refl
behind_first b bytes line (l ∷ ls) more is first = let same : line ≡ b ∷ l = cc is in rw same (ap (λ (xs : List ℕ). b ∷ xs) (first l ls refl))

first_nothing : (bytes line : List ℕ) (more : List (List ℕ)) → begins_with 10 bytes ≡ true → lines bytes ≡ line ∷ more → line ≡ []
unfolding lines
first_nothing [] line more begins is = absurd (cc begins)
first_nothing (b ∷ bytes) line more begins is = cc (rw begins at is)

pub first_is_front : (bytes line : List ℕ) (more : List (List ℕ)) → lines bytes ≡ line ∷ more → take (length line) bytes ≡ line
unfolding lines
first_is_front [] line more is = absurd (cc is)
first_is_front (b ∷ bytes) line more is =
    elim (cases_Bool (b == 10)) [
      | inl lf ↦ let same : line ≡ [] = cc (rw lf at is) in rw same refl
      | inr other ↦ elim (cases_Bool ((b == 13) && begins_with 10 bytes)) [
        | inl cr ↦ let same = first_nothing bytes line more (and_parts (b == 13) (begins_with 10 bytes) cr).1 (rw (other, cr) at is) in rw same refl
        | inr plain ↦ behind_first b bytes line (lines bytes) more (rw (other, plain) at is) (first_is_front bytes)
      ]
    ]

-- ---- one more line behind the first n bytes

pub record IsNext (bytes : List ℕ) (n : ℕ) (line after : List ℕ) (then : ℕ) : Type 0 where
  pub before : n < then
  pub within : then ≤ length bytes
  pub after_is : after ≡ drop then bytes
  pub whole : IsWholeLines (slice_range bytes n then)
  pub single : lines (slice_range bytes n then) ≡ line ∷ []
  pub line_is : slice_range bytes n (n + length line) ≡ line
  pub line_within : n + length line ≤ then

pub one_next : (bytes : List ℕ) (n : ℕ) (line after : List ℕ) → n ≤ length bytes → BeginsWithLine (drop n bytes) line after → IsNext bytes n line after (length bytes - length after)
one_next bytes n line after within begins =
    let then = length bytes - length after in
    let left = length-drop n bytes in
    let shorter : length after < length bytes - n = omega (arith, left, begins.shorter) in
    let moved : n + (length (drop n bytes) - length after) ≡ then = omega (arith, left, shorter) in
    let size : then - n ≡ length (drop n bytes) - length after = omega (arith, left, shorter) in
    let part : slice_range bytes n then ≡ before_rest (drop n bytes) after = ap (λ k. take k (drop n bytes)) size in
    let single = ap lines part ∙ cut_alone (drop n bytes) line after begins in
    let front = first_is_front (drop n bytes) line (lines after) (first_ended (drop n bytes) line after begins).cut in
    let inside : length line ≤ length (slice_range bytes n then) = omega (arith, length-take (length line) (slice_range bytes n then), ap length (first_is_front (slice_range bytes n then) line [] single)) in
    let long = part_length bytes n then (omega (arith, shorter)) (omega arith) in
    let plain : n + length line - n ≡ length line = omega arith in
    record {
      before = omega (arith, shorter);
      within = omega arith;
      after_is = begins.rest_is.last ∙ drop-drop (length (drop n bytes) - length after) n bytes ∙ ap (λ k. drop k bytes) moved;
      whole = subst IsWholeLines (sym part) (whole_cut (drop n bytes) line after begins);
      single = single;
      line_is = ap (λ k. take k (drop n bytes)) plain ∙ front;
      line_within = omega (arith, inside, long, shorter);
    }

-- ---- places

pub place_further : (bytes : List ℕ) (n m : ℕ) (place : Place) → n ≤ m → IsPlace bytes n place → IsPlace bytes m place
place_further bytes n m place more is = record { ordered = is.ordered; within = omega (arith, is.within, more); paid = is.paid }

pub places_further : (bytes : List ℕ) (n m : ℕ) (places : List Place) → n ≤ m → ArePlaces bytes n places → ArePlaces bytes m places
places_further bytes n m [] more are = tt
places_further bytes n m (place ∷ places) more are = (place_further bytes n m place more are.0, places_further bytes n m places more are.1)

pub places_snoc : (bytes : List ℕ) (n : ℕ) (places : List Place) (place : Place) → ArePlaces bytes n places → IsPlace bytes n place → ArePlaces bytes n (places ++ place ∷ [])
places_snoc bytes n [] place are is = (is, tt)
places_snoc bytes n (first ∷ places) place are is = (are.0, places_snoc bytes n places place are.1 is)

pub lines_grown : (old piece : List ℕ) (n : ℕ) (place : Place) → n ≤ length old → IsPlace old n place → lines_at (old ++ piece) place ≡ lines_at old place
lines_grown old piece n place short is = ap lines (part_grown old piece place.from place.to is.ordered (omega (arith, is.within, short)))

pub place_grown : (old piece : List ℕ) (n : ℕ) (place : Place) → n ≤ length old → IsPlace old n place → IsPlace (old ++ piece) n place
place_grown old piece n place short is =
    record { ordered = is.ordered; within = is.within; paid = is.paid ∙ ap total_paid (sym (lines_grown old piece n place short is)) }

pub places_grown : (old piece : List ℕ) (n : ℕ) (places : List Place) → n ≤ length old → ArePlaces old n places → ArePlaces (old ++ piece) n places
places_grown old piece n [] short are = tt
places_grown old piece n (place ∷ places) short are = (place_grown old piece n place short are.0, places_grown old piece n places short are.1)

pub groups_grown : (old piece : List ℕ) (n : ℕ) (places : List Place) → n ≤ length old → ArePlaces old n places → groups_at (old ++ piece) places ≡ groups_at old places
groups_grown old piece n [] short are = refl
groups_grown old piece n (place ∷ places) short are =
    rw (lines_grown old piece n place short are.0, groups_grown old piece n places short are.1) refl

-- ---- a transaction that ends

pub with_place : (groups : List (List (List ℕ))) (bytes : List ℕ) (place : Place) (n : ℕ) → n ≤ length bytes → IsPlace bytes n place → place.from < place.to → with_group groups (lines_at bytes place) ≡ groups ++ lines_at bytes place ∷ []
with_place groups bytes place n short is some =
    let size = part_length bytes place.from place.to is.ordered (omega (arith, is.within, short)) in
    let long : (length (slice_range bytes place.from place.to) == 0) ≡ false = grind (arith, size, some) in
    closed_some groups (slice_range bytes place.from place.to) long

pub with_nothing : (groups : List (List (List ℕ))) (bytes : List ℕ) (place : Place) → place.to ≤ place.from → with_group groups (lines_at bytes place) ≡ groups
with_nothing groups bytes place order =
    let none = part_nothing bytes place.from place.to order in
    closed_none groups (slice_range bytes place.from place.to) (ap (λ (xs : List ℕ). length xs == 0) none)

pub closed_place : (bytes : List ℕ) (places : List Place) (place : Place) (n : ℕ) → n ≤ length bytes → IsPlace bytes n place → place.from < place.to → groups_at bytes (places ++ place ∷ []) ≡ with_group (groups_at bytes places) (lines_at bytes place)
closed_place bytes places place n short is some =
    map-append (lines_at bytes) places (place ∷ []) ∙ sym (with_place (groups_at bytes places) bytes place n short is some)

-- ---- one more record is noted

span_further : (n m : ℕ) (span : Span) → n ≤ m → IsSpan n span → IsSpan m span
span_further n m span more is = record { ordered = is.ordered; within = omega (arith, is.within, more) }

-- of the last transaction
pub lines_more : (bytes line after : List ℕ) (old : Place) (n then : ℕ) → old.from ≤ old.to → old.to ≡ n → IsWholeLines (slice_range bytes old.from old.to) → IsNext bytes n line after then
    → lines (slice_range bytes old.from then) ≡ lines_at bytes old ++ line ∷ []
lines_more bytes line after old n then order ends whole next =
    ap lines (part_joined bytes old.from old.to then order (omega (arith, ends, next.before))) ∙ whole (slice_range bytes old.to then)
    ∙ ap (λ ls. lines_at bytes old ++ ls) (ap (λ (k : ℕ). lines (slice_range bytes k then)) ends ∙ next.single)

pub places_more : (b : Bool) (old : Notes) (closed : List Place) (bytes line after : List ℕ) (then : ℕ) (sum : ℤ) → HasPlaces false old closed bytes → IsNext bytes old.judged line after then → sum ≡ old.latest.paid +ℤ paid line
    → HasPlaces b (record old { judged = then; latest = record { from = old.latest.from; to = then; paid = sum } }) closed bytes
places_more b old closed bytes line after then sum has next is =
    let ends = has.open_end refl in
    let more = lines_more bytes line after old.latest old.judged then has.latest.ordered ends has.whole next in
    let joined = part_joined bytes old.latest.from old.latest.to then has.latest.ordered (omega (arith, ends, next.before)) in
    let KeepsFrom : ℕ → Type 0 = λ k. IsWholeLines (slice_range bytes k then) in
    record {
      within = next.within;
      header = span_further old.judged then old.header (omega (arith, next.before)) has.header;
      trailer = span_further old.judged then old.trailer (omega (arith, next.before)) has.trailer;
      latest = record {
        ordered = omega (arith, has.latest.ordered, ends, next.before);
        within = omega arith;
        paid = is ∙ ap (λ (x : ℤ). x +ℤ paid line) has.latest.paid ∙ sym (total_paid_snoc (lines_at bytes old.latest) line) ∙ ap total_paid (sym more);
      };
      whole = subst IsWholeLines (sym joined) (whole_joined (slice_range bytes old.latest.from old.latest.to) (slice_range bytes old.latest.to then) has.whole (subst KeepsFrom (sym ends) next.whole));
      open_end = λ on. refl;
      groups = places_further bytes old.judged then closed (omega (arith, next.before)) has.groups;
    }

-- of a transaction that begins
pub places_begun : (b : Bool) (old : Notes) (closed more : List Place) (bytes line after : List ℕ) (then : ℕ) → HasPlaces false old closed bytes → ArePlaces bytes old.judged more → IsNext bytes old.judged line after then → paid line ≡ pos 0
    → HasPlaces b (record old { judged = then; latest = record { from = old.judged; to = then; paid = pos 0 } }) more bytes
places_begun b old closed more bytes line after then has are next none = record {
  within = next.within;
  header = span_further old.judged then old.header (omega (arith, next.before)) has.header;
  trailer = span_further old.judged then old.trailer (omega (arith, next.before)) has.trailer;
  latest = record { ordered = omega (arith, next.before); within = omega arith; paid = sym (ap total_paid next.single ∙ rw none refl) };
  whole = next.whole;
  open_end = λ on. refl;
  groups = places_further bytes old.judged then more (omega (arith, next.before)) are;
}

new_span : (bytes line after : List ℕ) (n then : ℕ) → IsNext bytes n line after then → IsSpan then (record { from = n; to = n + length line })
new_span bytes line after n then next = record { ordered = omega arith; within = next.line_within }

-- a header
pub places_headed : (b : Bool) (old : Notes) (closed : List Place) (bytes line after : List ℕ) (then : ℕ) → HasPlaces false old closed bytes → IsNext bytes old.judged line after then
    → HasPlaces b (record old { judged = then; header = record { from = old.judged; to = old.judged + length line }; latest = record { from = then; to = then; paid = pos 0 } }) closed bytes
places_headed b old closed bytes line after then has next =
    let nothing = part_nothing bytes then then (omega arith) in
    record {
      within = next.within;
      header = new_span bytes line after old.judged then next;
      trailer = span_further old.judged then old.trailer (omega (arith, next.before)) has.trailer;
      latest = record { ordered = omega arith; within = omega arith; paid = sym (ap (λ xs. total_paid (lines xs)) nothing ∙ ap total_paid lines_nil) };
      whole = subst IsWholeLines (sym nothing) whole_nothing;
      open_end = λ on. refl;
      groups = places_further bytes old.judged then closed (omega (arith, next.before)) has.groups;
    }

-- a trailer
pub places_ended : (old : Notes) (closed : List Place) (bytes line after : List ℕ) (then : ℕ) → HasPlaces false old closed bytes → IsNext bytes old.judged line after then
    → HasPlaces true (record old { judged = then; trailer = record { from = old.judged; to = old.judged + length line } }) closed bytes
places_ended old closed bytes line after then has next = record {
  within = next.within;
  header = span_further old.judged then old.header (omega (arith, next.before)) has.header;
  trailer = new_span bytes line after old.judged then next;
  latest = place_further bytes old.judged then old.latest (omega (arith, next.before)) has.latest;
  whole = has.whole;
  open_end = λ on. absurd (cc on);
  groups = places_further bytes old.judged then closed (omega (arith, next.before)) has.groups;
}

-- no lines behind a header
pub lines_none : (bytes : List ℕ) (n : ℕ) → lines (slice_range bytes n n) ≡ []
lines_none bytes n = ap lines (part_nothing bytes n n (omega arith)) ∙ lines_nil
