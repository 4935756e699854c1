-- Sorted ranges are disjoint where neighbours are apart.
use Rattle.std.proofs.Common.{◌≡◌, ℕ, suc, ◌+◌, ◌<◌, ◌≤◌, Bool, true, false, cond, ◌&&◌, List, [], ◌∷◌, refl, sym, ap, ◌∙◌, arith, Ordering, Less, Equal, Greater, nat_cmp, Option, Some, None, subst}
use Rattle.std.specs.Prelude.{nat_lt, nat_le, count_by}
use Rattle.std.specs.List.{All}
use native.Mathlib.Numerals.{unary_clauses}
use Rattle.std.specs.List.Sorted.{IsSorted, IsPermutation}
use Rattle.std.specs.Ordering.{ordering_then, is_lt, on, then_cmp}
use Rattle.std.specs.Cmp.{ranked}
use Rattle.std.proofs.lemmas.Bool.{and_parts}
use Rattle.std.proofs.lemmas.List.Sums.{sum_by-cons}
use Rattle.std.proofs.lemmas.List.Sorted.{sum_by-IsPermutation, All-permutation}
use Rattle.std.proofs.lemmas.List.Elements.{All-cons}
use Rattle.bsp_maps.specs.declared.spans.Span.{Span}
use Rattle.bsp_maps.specs.Spans.{contains, IsRange, AreDisjoint, above, apart_from}

all_head : {A : Type 0} (P : A → Type 0) (x : A) (xs : List A) → All P (x ∷ xs) → P x
all_head P x xs h = h 0 x (omega arith)

all_tail : {A : Type 0} (P : A → Type 0) (x : A) (xs : List A) → All P (x ∷ xs) → All P xs
all_tail P x xs h = λ k d l. h (suc k) d (omega arith)

-- a count, from the front
count_more : (n : ℕ) (s : Span) (ss : List Span) → count_by (contains n) (s ∷ ss) ≡ cond (contains n s) 1 0 + count_by (contains n) ss
count_more n s ss = sum_by-cons (λ x. cond (contains n x) 1 0) s ss

-- a number that is not above the end is in none
below : (n : ℕ) (e : Option ℕ) (s : Span) → above e s.first ≡ true → above e n ≡ false → nat_le s.first n ≡ false
below n None s a b = absurd (cc)
below n (Some e) s a b = grind arith

step_none : (n : ℕ) (s : Span) (ss : List Span) → nat_le s.first n ≡ false → count_by (contains n) ss ≡ 0 → count_by (contains n) (s ∷ ss) ≡ 0
step_none n s ss out none = count_more n s ss ∙ (rw (out, none) refl)

below_end : (n : ℕ) (s : Span) → nat_le s.first n ≡ false → nat_le s.first s.last ≡ true → nat_lt s.last n ≡ false
below_end n s a b = grind arith

none_below : (n : ℕ) (e : Option ℕ) (ss : List Span) → apart_from e ss ≡ true → above e n ≡ false → count_by (contains n) ss ≡ 0
none_below n e [] h b = refl
none_below n e (s ∷ ss) h b =
    let p = and_parts (above e s.first && nat_le s.first s.last) (apart_from (Some s.last) ss) h in
    let q = and_parts (above e s.first) (nat_le s.first s.last) p.0 in
    let out : nat_le s.first n ≡ false = below n e s q.0 b in
    step_none n s ss out (none_below n (Some s.last) ss p.1 (below_end n s out q.1))

in_one : (n : ℕ) (s : Span) (ss : List Span) (b : Bool) → contains n s ≡ b → (contains n s ≡ true → count_by (contains n) ss ≡ 0) → count_by (contains n) ss ≤ 1 → count_by (contains n) (s ∷ ss) ≤ 1
in_one n s ss true is none once = let e : count_by (contains n) (s ∷ ss) ≡ 1 = count_more n s ss ∙ ap (λ b. cond b 1 0 + count_by (contains n) ss) is ∙ ap (λ m. 1 + m) (none is) in omega arith
in_one n s ss false is none once = let e : count_by (contains n) (s ∷ ss) ≡ 0 + count_by (contains n) ss = count_more n s ss ∙ ap (λ b. cond b 1 0 + count_by (contains n) ss) is in omega arith

inside : (n : ℕ) (s : Span) → contains n s ≡ true → nat_lt s.last n ≡ false
inside n s h = let p = and_parts (nat_le s.first n) (nat_le n s.last) h in grind arith

pub at_most_once : (e : Option ℕ) (ss : List Span) → apart_from e ss ≡ true → (n : ℕ) → count_by (contains n) ss ≤ 1
at_most_once e [] h n = omega arith
at_most_once e (s ∷ ss) h n =
    let p = and_parts (above e s.first && nat_le s.first s.last) (apart_from (Some s.last) ss) h in
    in_one n s ss (contains n s) refl (λ is. none_below n (Some s.last) ss p.1 (inside n s is)) (at_most_once (Some s.last) ss p.1 n)

range_from : (s : Span) → nat_le s.first s.last ≡ true → s.first ≤ s.last
range_from s h = grind arith

range_to : (s : Span) → s.first ≤ s.last → nat_le s.first s.last ≡ true
range_to s h = grind arith

at_place : {A : Type 0} (P : A → Type 0) (x : A) (xs : List A) → P x → All P xs → All P (x ∷ xs)
at_place P x xs p ps = All-cons P x xs p ps

pub all_ranges : (e : Option ℕ) (ss : List Span) → apart_from e ss ≡ true → All IsRange ss
all_ranges e [] h = λ k d l. absurd (omega arith)
all_ranges e (s ∷ ss) h =
    let p = and_parts (above e s.first && nat_le s.first s.last) (apart_from (Some s.last) ss) h in
    let q = and_parts (above e s.first) (nat_le s.first s.last) p.0 in
    at_place IsRange s ss (range_from s q.1) (all_ranges (Some s.last) ss p.1)

-- ---- the other way

abbrev pub span_cmp : Span → Span → Ordering
span_cmp = then_cmp (on (λ s. s.first) nat_cmp) (on (λ s. s.last) nat_cmp)

not_less : (a b : ℕ) (r o : Ordering) → r ≡ nat_cmp b a → is_lt (ordering_then r o) ≡ false → a ≤ b
not_less a b Less o e h = absurd (cc)
not_less a b Equal o e h = let k : b ≡ a = ranked b a Equal e in omega arith
not_less a b Greater o e h = let k : a < b = ranked b a Greater e in omega arith

more : (n : ℕ) (s : Span) (ss : List Span) → count_by (contains n) ss ≤ count_by (contains n) (s ∷ ss)
more n s ss = let e = count_more n s ss in omega arith

-- the first of the next is in both where they meet
met : (s t : Span) (ss : List Span) → s.first ≤ t.first → t.first ≤ t.last → count_by (contains t.first) (s ∷ t ∷ ss) ≤ 1 → (b : Bool) → nat_lt s.last t.first ≡ b → b ≡ true
met s t ss up range once true is = refl
met s t ss up range once false is =
    let in_s : contains t.first s ≡ true = grind arith in
    let in_t : contains t.first t ≡ true = grind arith in
    let two : count_by (contains t.first) (s ∷ t ∷ ss) ≡ 1 + count_by (contains t.first) (t ∷ ss) = count_more t.first s (t ∷ ss) ∙ ap (λ b. cond b 1 0 + count_by (contains t.first) (t ∷ ss)) in_s in
    let one : count_by (contains t.first) (t ∷ ss) ≡ 1 + count_by (contains t.first) ss = count_more t.first t ss ∙ ap (λ b. cond b 1 0 + count_by (contains t.first) ss) in_t in
    absurd (omega arith)

next_above : (s : Span) (ss : List Span) → IsSorted span_cmp (s ∷ ss) → All IsRange (s ∷ ss) → ((n : ℕ) → count_by (contains n) (s ∷ ss) ≤ 1) → apart_from None ss ≡ true → apart_from (Some s.last) ss ≡ true
next_above s [] up ranges once h = refl
next_above s (t ∷ ss) up ranges once h =
    let le : s.first ≤ t.first = not_less s.first t.first (nat_cmp t.first s.first) (nat_cmp t.last s.last) refl (up 0 s (omega arith) (omega arith)) in
    let range : t.first ≤ t.last = ranges 1 s (omega arith) in
    rw (met s t ss le range (once t.first) (nat_lt s.last t.first) refl) h

sorted_tail : (s : Span) (ss : List Span) → IsSorted span_cmp (s ∷ ss) → IsSorted span_cmp ss
sorted_tail s ss up k d l m = let h = simp unary_clauses at (up (suc k) d (omega arith) (omega arith)) in simp unary_clauses h

pub apart : (ss : List Span) → IsSorted span_cmp ss → All IsRange ss → ((n : ℕ) → count_by (contains n) ss ≤ 1) → apart_from None ss ≡ true
apart [] up ranges once = refl
apart (s ∷ ss) up ranges once =
    let rest = apart ss (sorted_tail s ss up) (all_tail IsRange s ss ranges) (λ n. let m = more n s ss in let o = once n in omega arith) in
    rw (range_to s (all_head IsRange s ss ranges)) (next_above s ss up ranges once rest)

-- sorted or not, they have the same numbers
pub same_disjoint : (ss ts : List Span) → IsPermutation ss ts → AreDisjoint ss → AreDisjoint ts
same_disjoint ss ts p d = record {
  ranges = All-permutation IsRange ss ts p d.ranges;
  once = λ n. subst (λ m. m ≤ 1) (sym (sum_by-IsPermutation (λ x. cond (contains n x) 1 0) ss ts p)) (d.once n);
}

pub disjoint_back : (ss ts : List Span) → IsPermutation ss ts → IsPermutation ts ss → AreDisjoint ts → AreDisjoint ss
disjoint_back ss ts p q d = same_disjoint ts ss q d

pub decided : (ss ts : List Span) (b : Bool) → IsPermutation ss ts → IsPermutation ts ss → IsSorted span_cmp ts → b ≡ apart_from None ts → (b ≡ true → AreDisjoint ss) × (AreDisjoint ss → b ≡ true)
decided ss ts b p q up is = (
  (λ h. let a : apart_from None ts ≡ true = sym is ∙ h in same_disjoint ts ss q (record { ranges = all_ranges None ts a; once = at_most_once None ts a })),
  (λ d. let e = same_disjoint ss ts p d in is ∙ apart ts up e.ranges e.once),
)
