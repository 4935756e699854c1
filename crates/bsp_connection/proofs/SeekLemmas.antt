-- A head that does not end in a first part of what came.
use Rattle.std.proofs.Common.{◌≡◌, ℕ, ◌+◌, ◌<◌, ◌≤◌, Bool, true, false, List, [], ◌∷◌, length, take, drop, if◌then◌else◌, Option, Some, None, refl, sym, ap, ◌∙◌, subst, add-one, arith, nat_lt, not, ◌&&◌, ◌||◌, ◌==◌}
use Rattle.std.specs.Option.{option_map}
use Rattle.std.proofs.lemmas.List.{length-take-le, take-append-drop}
use Rattle.bsp_routes.proofs.ScanLemmas.{head_len-more, head_len-le}
use Rattle.bsp_routes.specs.Scan.{after_byte, head_len, head_len_from}

no_some : (o : Option ℕ) → ((n : ℕ) → o ≡ Some n → ⊥) → o ≡ None
no_some None f = refl
no_some (Some n) f = absurd (f n refl)

none_some : (n : ℕ) → Some n ≡ None → ⊥
none_some n e = cc

beyond : {limit len size : ℕ} (n : ℕ) → n ≤ size → Some n ≡ Some len → size ≡ limit → limit < len → ⊥
beyond {limit} {len} {size} n le same is less =
    let e : n ≡ len = cc in
    omega (arith, le, e, is, less)

-- where a head ends in the first part, it ends there in the whole
in_whole : (bytes : List ℕ) (limit n : ℕ) → head_len (take limit bytes) ≡ Some n → head_len bytes ≡ Some n
in_whole bytes limit n e = subst (λ (l : List ℕ). head_len l ≡ Some n) (take-append-drop limit bytes) (head_len-more (take limit bytes) (drop limit bytes) n e)

pub too_long : (bytes : List ℕ) (limit len : ℕ) → limit ≤ length bytes → head_len bytes ≡ Some len → limit < len → head_len (take limit bytes) ≡ None
too_long bytes limit len long e less =
    let size = length-take-le limit bytes long in
    no_some (head_len (take limit bytes)) (λ n f. beyond n (head_len-le (take limit bytes) n f) (sym (in_whole bytes limit n f) ∙ e) size less)

pub not_yet : (bytes : List ℕ) (limit : ℕ) → head_len bytes ≡ None → head_len (take limit bytes) ≡ None
not_yet bytes limit e = no_some (head_len (take limit bytes)) (λ n f. none_some n (sym (in_whole bytes limit n f) ∙ e))

-- ---- a head is found in its own bytes

map_some : (r : Option ℕ) (n : ℕ) → option_map (λ k. k + 1) r ≡ Some n → (m : ℕ) × (r ≡ Some m) × (n ≡ m + 1)
map_some None n e = cc
map_some (Some m) n e = (m, refl, cc)

one_byte : (b : ℕ) (bytes : List ℕ) (seen : Bool) (line n : ℕ) → ((s : Bool) (l k : ℕ) → head_len_from s l bytes ≡ Some k → head_len_from s l (take k bytes) ≡ Some k) → head_len_from seen line (b ∷ bytes) ≡ Some n
    → (m : ℕ) × (n ≡ m + 1) × (head_len_from seen line (b ∷ take m bytes) ≡ Some (m + 1))
one_byte b bytes seen line n ih e =
    elim (b == 10) as (λ t. (if t then (if seen && nat_lt line 2 then Some 1 else option_map (λ n. n + 1) (head_len_from (seen || not (nat_lt line 2)) 0 bytes)) else option_map (λ n. n + 1) (head_len_from seen (after_byte line b) bytes)) ≡ Some n
    → (m : ℕ) × (n ≡ m + 1) × ((if t then (if seen && nat_lt line 2 then Some 1 else option_map (λ n. n + 1) (head_len_from (seen || not (nat_lt line 2)) 0 (take m bytes))) else option_map (λ n. n + 1) (head_len_from seen (after_byte line b) (take m bytes))) ≡ Some (m + 1))) [
      | true ↦ elim (seen && nat_lt line 2) as (λ t. (if t then Some 1 else option_map (λ n. n + 1) (head_len_from (seen || not (nat_lt line 2)) 0 bytes)) ≡ Some n
          → (m : ℕ) × (n ≡ m + 1) × ((if t then Some 1 else option_map (λ n. n + 1) (head_len_from (seen || not (nat_lt line 2)) 0 (take m bytes))) ≡ Some (m + 1))) [
            | true ↦ λ h. let one : 1 ≡ n = cc in (0, sym one, refl)
            | false ↦ λ h. let m = map_some _ n h in (m.0, m.2, ap (option_map (λ k. k + 1)) (ih (seen || not (nat_lt line 2)) 0 m.0 m.1))
          ]
      | false ↦ λ h. let m = map_some _ n h in (m.0, m.2, ap (option_map (λ k. k + 1)) (ih seen (after_byte line b) m.0 m.1))
    ] e

exact_from : (bytes : List ℕ) (seen : Bool) (line n : ℕ) → head_len_from seen line bytes ≡ Some n → head_len_from seen line (take n bytes) ≡ Some n
exact_from [] seen line n e = cc
exact_from (b ∷ bytes) seen line n e =
    let s = one_byte b bytes seen line n (exact_from bytes) e in
    let cut : take (s.0 + 1) (b ∷ bytes) ≡ b ∷ take s.0 bytes = ap (λ (k : ℕ). take k (b ∷ bytes)) (add-one s.0) in
    subst (λ (k : ℕ). head_len_from seen line (take k (b ∷ bytes)) ≡ Some k) (sym s.1) (ap (head_len_from seen line) cut ∙ s.2)

pub exact : (bytes : List ℕ) (n : ℕ) → head_len bytes ≡ Some n → head_len (take n bytes) ≡ Some n
exact bytes n e = exact_from bytes false 0 n e
