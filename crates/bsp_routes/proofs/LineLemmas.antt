-- A head, from one LF to the next.
use Rattle.std.proofs.Common.{◌≡◌, ℕ, ◌+◌, ◌≤◌, Bool, true, false, List, [], ◌∷◌, ◌++◌, length, if◌then◌else◌, Option, Some, None, refl, sym, ap, ◌∙◌, arith, nat_lt, not, ◌&&◌, ◌||◌, ◌==◌, ◌-◌, ◌<◌, drop, get_or, slice_range, zero, suc, inl, inr, subst, append-nil, append_assoc, length-drop}
use Rattle.std.specs.Option.{option_map}
use Rattle.std.specs.List.{list_any}
use Rattle.std.proofs.lemmas.List.{drop-drop, drop_more, get_or-drop, get_or-take, get_or_default, take-append-drop, length-take-le, take_rest}
use Rattle.std.proofs.lemmas.Bool.{cases_Bool, cond-false, cond-true, eqb-true, false≢true}
use Rattle.std.proofs.Math.Nat.{eq-or-lt_of_le}
use Rattle.std.proofs.lemmas.List.Folds.{list_any_none}
use Rattle.memchr.specs.Find.{is_byte, NoneBefore, Nowhere, Passes, places_between, places_from}
use Rattle.bsp_routes.specs.Scan.{head_len_from, after_byte, after_bytes}

-- ---- a run of bytes without an LF

not_either : (a b : Bool) → (a || b) ≡ false → (a ≡ false) × (b ≡ false)
not_either true b h = absurd (cc h)
not_either false b h = (refl, h)

none_added : (r : Option ℕ) → r ≡ option_map (λ n. 0 + n) r
none_added None = refl
none_added (Some n) = ap Some (omega arith)

added : (a b c : ℕ) (r : Option ℕ) → a + b ≡ c → option_map (λ n. a + n) (option_map (λ n. b + n) r) ≡ option_map (λ n. c + n) r
added a b c None e = refl
added a b c (Some n) e = ap Some (omega (arith, e))

one_added : (a c : ℕ) (r : Option ℕ) → a + 1 ≡ c → option_map (λ n. n + 1) (option_map (λ n. a + n) r) ≡ option_map (λ n. c + n) r
one_added a c None e = refl
one_added a c (Some n) e = ap Some (omega (arith, e))

added_one : (a c : ℕ) (r : Option ℕ) → a + 1 ≡ c → option_map (λ n. a + n) (option_map (λ n. n + 1) r) ≡ option_map (λ n. c + n) r
added_one a c None e = refl
added_one a c (Some n) e = ap Some (omega (arith, e))

over_run : (run more : List ℕ) (seen : Bool) (line : ℕ) → list_any (is_byte 10) run ≡ false → head_len_from seen line (run ++ more) ≡ option_map (λ n. length run + n) (head_len_from seen (after_bytes line run) more)
over_run [] more seen line h = none_added _
over_run (b ∷ run) more seen line h =
    let parts = not_either (b == 10) (list_any (is_byte 10) run) h in
    ap (λ (t : Bool). if t then (if seen && nat_lt line 2 then Some 1 else option_map (λ n. n + 1) (head_len_from (seen || not (nat_lt line 2)) 0 (run ++ more))) else option_map (λ n. n + 1) (head_len_from seen (after_byte line b) (run ++ more))) parts.0
    ∙ ap (option_map (λ n. n + 1)) (over_run run more seen (after_byte line b) parts.1)
    ∙ one_added (length run) _ _ (omega arith)

no_and : (a : Bool) → (a && false) ≡ false
no_and true = refl
no_and false = refl

is_false : (b : Bool) → ¬ (b ≡ true) → b ≡ false
is_false true denied = absurd (denied refl)
is_false false denied = refl

-- a line that has more than one CR has more, whatever comes
pub after_more : (bytes : List ℕ) → after_bytes 2 bytes ≡ 2
after_more [] = refl
after_more (b ∷ bytes) = ap (λ (t : Bool). after_bytes (if t then 1 else 2) bytes) (no_and (b == 13)) ∙ after_more bytes

after_second : (line b c : ℕ) → after_byte (after_byte line b) c ≡ 2
after_second line b c = elim (b == 13 && line == 0) as (λ t. after_byte (if t then 1 else 2) c ≡ 2) [
  | true ↦ ap (λ (t : Bool). if t then 1 else 2) (no_and (c == 13))
  | false ↦ ap (λ (t : Bool). if t then 1 else 2) (no_and (c == 13))
]

pub after_two : (line : ℕ) (bytes : List ℕ) → 2 ≤ length bytes → 2 ≡ after_bytes line bytes
after_two line [] h = absurd (omega arith)
after_two line (b ∷ []) h = absurd (omega arith)
after_two line (b ∷ (c ∷ bytes)) h = sym (ap (λ (l : ℕ). after_bytes l bytes) (after_second line b c) ∙ after_more bytes)

-- What a search that began in some state answers is what one answers that is at start, in this state.
abbrev pub IsAt : Bool → ℕ → List ℕ → ℕ → Bool → ℕ → Type 0
IsAt seen0 line0 bytes start seen line = (more : List ℕ) → head_len_from seen0 line0 (bytes ++ more) ≡ option_map (λ n. start + n) (head_len_from seen line (drop start bytes ++ more))

-- ---- from LF to LF

abbrev pub is_end : List ℕ → ℕ → Type 0
is_end bytes k = Passes (is_byte 10) bytes k

-- the places of LF from start on
abbrev pub ends_from : List ℕ → ℕ → List ℕ
ends_from bytes start = places_between (is_byte 10) bytes start (length bytes)

-- k is the first of the places of LF from start on, and those are behind it
pub record IsNextEnd (bytes : List ℕ) (start k : ℕ) (later : List ℕ) : Type 0 where
  pub first : NoneBefore (is_end bytes) start (length bytes) k
  pub here : get_or bytes k 0 ≡ 10
  pub behind : later ≡ ends_from bytes (k + 1)

only_later : (bytes : List ℕ) (i m : ℕ) → (get_or bytes i 0 == 10) ≡ false → i ≤ m → (i + 1 ≤ m → is_end bytes m → ⊥) → is_end bytes m → ⊥
only_later bytes i m other low denied is = elim (eq-or-lt_of_le low) [
  | inl same ↦ false≢true (sym other ∙ subst (is_end bytes) (sym same) is)
  | inr above ↦ denied (omega arith) is
]

first_place : (bytes : List ℕ) (i n k : ℕ) (later : List ℕ) → places_from (is_byte 10) bytes i n ≡ k ∷ later → NoneBefore (is_end bytes) i (i + n) k × (is_end bytes k × (later ≡ places_between (is_byte 10) bytes (k + 1) (i + n)))
unfolding places_from
first_place bytes i zero k later h = absurd (cc h)
first_place bytes i (suc n) k later h =
    let sum : (i + 1) + n ≡ i + suc n = omega arith in
    let width : (i + suc n) - (i + 1) ≡ n = omega arith in
    elim (cases_Bool (get_or bytes i 0 == 10)) [
      | inl is ↦ (let e : i ∷ places_from (is_byte 10) bytes (i + 1) n ≡ k ∷ later = sym (cond-true _ _ _ is) ∙ h in
          let same : i ≡ k = cc e in
          let rest : places_from (is_byte 10) bytes (i + 1) n ≡ later = cc e in
          (record { low = omega arith; high = omega arith; before = λ m low high. absurd (omega arith) }, (subst (is_end bytes) same is, sym rest ∙ ap (places_from (is_byte 10) bytes (i + 1)) (sym width) ∙ ap (λ (m : ℕ). places_between (is_byte 10) bytes (m + 1) (i + suc n)) same)))
      | inr other ↦ (let more = first_place bytes (i + 1) n k later (sym (cond-false _ _ _ other) ∙ h) in
          let low = more.0.low in
          let high = more.0.high in
          (record { low = omega arith; high = omega arith; before = λ m from to. only_later bytes i m other from (λ above. more.0.before m above to) }, (more.1.0, more.1.1 ∙ ap (places_between (is_byte 10) bytes (k + 1)) sum)))
    ]

no_place : (bytes : List ℕ) (i n : ℕ) → places_from (is_byte 10) bytes i n ≡ [] → Nowhere (is_end bytes) i (i + n)
unfolding places_from
no_place bytes i zero h m low high = absurd (omega arith)
no_place bytes i (suc n) h m low high =
    elim (cases_Bool (get_or bytes i 0 == 10)) [
      | inl is ↦ absurd (cc (sym (cond-true _ _ _ is) ∙ h))
      | inr other ↦ only_later bytes i m other low (λ above. no_place bytes (i + 1) n (sym (cond-false _ _ _ other) ∙ h) m above (omega arith))
    ]

pub next_end : (bytes : List ℕ) (start k : ℕ) (ends later : List ℕ) → start ≤ length bytes → ends ≡ ends_from bytes start → ends ≡ k ∷ later → IsNextEnd bytes start k later
next_end bytes start k ends later within is e =
    let sum : start + (length bytes - start) ≡ length bytes = omega arith in
    let at = first_place bytes start (length bytes - start) k later (sym is ∙ e) in
    record {
      first = subst (λ (n : ℕ). NoneBefore (is_end bytes) start n k) sum at.0;
      here = eqb-true _ 10 at.1.0;
      behind = at.1.1 ∙ ap (places_between (is_byte 10) bytes (k + 1)) sum;
    }

pub no_more_ends : (bytes : List ℕ) (start : ℕ) → start ≤ length bytes → [] ≡ ends_from bytes start → Nowhere (is_end bytes) start (length bytes)
no_more_ends bytes start within is =
    let sum : start + (length bytes - start) ≡ length bytes = omega arith in
    subst (λ (n : ℕ). Nowhere (is_end bytes) start n) sum (no_place bytes start (length bytes - start) (sym is))

module _ (bytes : List ℕ) (start end : ℕ) (later : List ℕ) (at : IsNextEnd bytes start end later) (seen : Bool) (line : ℕ) where
  abbrev run : List ℕ
  run = slice_range bytes start end

  run_len : length run ≡ end - start
  run_len = let high = at.first.high in length-take-le (end - start) (drop start bytes) (omega (arith, length-drop start bytes))

  no_end : list_any (is_byte 10) run ≡ false
  no_end = list_any_none (is_byte 10) run (λ k d below.
      let high = at.first.high in
      let small : k < end - start = omega (arith, below, run_len) in
      ap (is_byte 10) (get_or-take (end - start) (drop start bytes) k d small ∙ get_or-drop start bytes k d ∙ get_or_default bytes (start + k) d 0 (omega arith))
      ∙ is_false _ (at.first.before (start + k) (omega arith) (omega arith)))

  cut : drop start bytes ≡ run ++ (10 ∷ drop (end + 1) bytes)
  cut =
      let low = at.first.low in
      let sum : start + (end - start) ≡ end = omega arith in
      sym (take-append-drop (end - start) (drop start bytes))
      ∙ ap (λ (l : List ℕ). run ++ l) (drop-drop (end - start) start bytes ∙ ap (λ (n : ℕ). drop n bytes) sum ∙ drop_more bytes end 0 at.first.high ∙ ap (λ (b : ℕ). b ∷ drop (end + 1) bytes) at.here)

  abbrev step : Bool → Option ℕ → Option ℕ
  step ends r = option_map (λ n. (end - start) + n) (if ends then Some 1 else option_map (λ n. n + 1) r)

  -- as far as the LF, and what is behind it
  next_line : (l : ℕ) (ends : Bool) → l ≡ after_bytes line run → ends ≡ (seen && nat_lt l 2) → (more : List ℕ)
      → head_len_from seen line (drop start bytes ++ more) ≡ step ends (head_len_from (seen || not (nat_lt l 2)) 0 (drop (end + 1) bytes ++ more))
  next_line l ends is ends_is more =
      ap (head_len_from seen line) (ap (λ (xs : List ℕ). xs ++ more) cut ∙ append_assoc run _ more)
      ∙ over_run run _ seen line no_end
      ∙ ap (λ (n : ℕ). option_map (λ k. n + k) (head_len_from seen (after_bytes line run) (10 ∷ (drop (end + 1) bytes ++ more)))) run_len
      ∙ ap (λ (m : ℕ). option_map (λ n. (end - start) + n) (head_len_from seen m (10 ∷ (drop (end + 1) bytes ++ more)))) (sym is)
      ∙ ap (λ (t : Bool). step t (head_len_from (seen || not (nat_lt l 2)) 0 (drop (end + 1) bytes ++ more))) (sym ends_is)

  module _ (seen0 : Bool) (line0 : ℕ) (before : IsAt seen0 line0 bytes start seen line) (l : ℕ) (is : l ≡ after_bytes line run) where
    -- the head ends with this line
    pub ends_here : true ≡ (seen && nat_lt l 2) → Some (end + 1) ≡ head_len_from seen0 line0 bytes
    ends_here does =
        let low = at.first.low in
        let sum : start + ((end - start) + 1) ≡ end + 1 = omega arith in
        sym (ap (head_len_from seen0 line0) (sym (append-nil bytes)) ∙ before [] ∙ ap (option_map (λ n. start + n)) (next_line l true is does []) ∙ ap Some sum)

    -- it does not
    pub goes_on : false ≡ (seen && nat_lt l 2) → (seen2 : Bool) (line2 : ℕ) → seen2 ≡ (seen || not (nat_lt l 2)) → line2 ≡ 0 → IsAt seen0 line0 bytes (end + 1) seen2 line2
    goes_on does_not seen2 line2 seen_is line_is more =
        let low = at.first.low in
        let sum : start + ((end - start) + 1) ≡ end + 1 = omega arith in
        before more
        ∙ ap (option_map (λ n. start + n)) (next_line l false is does_not more ∙ added_one (end - start) _ _ refl)
        ∙ added start _ _ _ sum
        ∙ ap (λ (s : Bool). option_map (λ n. (end + 1) + n) (head_len_from s 0 (drop (end + 1) bytes ++ more))) (sym seen_is)
        ∙ ap (λ (m : ℕ). option_map (λ n. (end + 1) + n) (head_len_from seen2 m (drop (end + 1) bytes ++ more))) (sym line_is)

-- the bytes behind the last LF
module _ (bytes : List ℕ) (start : ℕ) (within : start ≤ length bytes) (none : [] ≡ ends_from bytes start) (seen : Bool) (line : ℕ) (seen0 : Bool) (line0 : ℕ) (before : IsAt seen0 line0 bytes start seen line) (l : ℕ) (is : l ≡ after_bytes line (slice_range bytes start (length bytes))) where
  pub rest_left : (more : List ℕ) → head_len_from seen0 line0 (bytes ++ more) ≡ option_map (λ n. length bytes + n) (head_len_from seen l more)
  rest_left more =
      let rest : List ℕ = drop start bytes in
      let width : start + length rest ≡ length bytes = omega (arith, length-drop start bytes) in
      let free : list_any (is_byte 10) rest ≡ false = list_any_none (is_byte 10) rest (λ k d below. ap (is_byte 10) (get_or-drop start bytes k d ∙ get_or_default bytes (start + k) d 0 (omega (arith, width, below))) ∙ is_false _ (no_more_ends bytes start within none (start + k) (omega arith) (omega (arith, width, below)))) in
      before more
      ∙ ap (option_map (λ n. start + n)) (over_run rest more seen line free)
      ∙ added start (length rest) _ _ width
      ∙ ap (λ (m : ℕ). option_map (λ n. length bytes + n) (head_len_from seen m more)) (sym (is ∙ ap (after_bytes line) (take_rest bytes start)))

  pub rest_none : None ≡ head_len_from seen0 line0 bytes
  rest_none = sym (ap (head_len_from seen0 line0) (sym (append-nil bytes)) ∙ rest_left [])
