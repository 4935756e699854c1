-- How far a head goes, in a text and in a longer one.
use Rattle.std.proofs.Common.{◌≡◌, ℕ, ◌+◌, ◌≤◌, Bool, true, false, List, [], ◌∷◌, ◌++◌, length, if◌then◌else◌, Option, Some, None, refl, sym, ap, ◌∙◌, arith, nat_lt, not, ◌&&◌, ◌||◌, ◌==◌}
use Rattle.std.specs.Option.{option_map}
use Rattle.bsp_routes.specs.Scan.{head_len, head_len_from, after_byte}

map_some : (r : Option ℕ) (n : ℕ) → option_map (λ k. k + 1) r ≡ Some n → (m : ℕ) × (r ≡ Some m) × (n ≡ m + 1)
map_some None n e = cc
map_some (Some m) n e = (m, refl, cc)

pub more_from : (bytes more : List ℕ) (seen : Bool) (line n : ℕ) → head_len_from seen line bytes ≡ Some n → head_len_from seen line (bytes ++ more) ≡ Some n
more_from [] more seen line n e = cc
more_from (b ∷ bytes) more seen line n e =
    elim (b == 10) as (λ t. (if t then (if seen && nat_lt line 2 then Some 1 else option_map (λ n. n + 1) (head_len_from (seen || not (nat_lt line 2)) 0 bytes)) else option_map (λ n. n + 1) (head_len_from seen (after_byte line b) bytes)) ≡ Some n
    → (if t then (if seen && nat_lt line 2 then Some 1 else option_map (λ n. n + 1) (head_len_from (seen || not (nat_lt line 2)) 0 (bytes ++ more))) else option_map (λ n. n + 1) (head_len_from seen (after_byte line b) (bytes ++ more))) ≡ Some n) [
      | true ↦ elim (seen && nat_lt line 2) as (λ t. (if t then Some 1 else option_map (λ n. n + 1) (head_len_from (seen || not (nat_lt line 2)) 0 bytes)) ≡ Some n
          → (if t then Some 1 else option_map (λ n. n + 1) (head_len_from (seen || not (nat_lt line 2)) 0 (bytes ++ more))) ≡ Some n) [
            | true ↦ λ h. h
            | false ↦ λ h. let m = map_some _ n h in ap (option_map (λ k. k + 1)) (more_from bytes more (seen || not (nat_lt line 2)) 0 m.0 m.1) ∙ ap Some (sym m.2)
          ]
      | false ↦ λ h. let m = map_some _ n h in ap (option_map (λ k. k + 1)) (more_from bytes more seen (after_byte line b) m.0 m.1) ∙ ap Some (sym m.2)
    ] e

pub within_from : (bytes : List ℕ) (seen : Bool) (line n : ℕ) → head_len_from seen line bytes ≡ Some n → n ≤ length bytes
within_from [] seen line n e = cc
within_from (b ∷ bytes) seen line n e =
    elim (b == 10) as (λ t. (if t then (if seen && nat_lt line 2 then Some 1 else option_map (λ n. n + 1) (head_len_from (seen || not (nat_lt line 2)) 0 bytes)) else option_map (λ n. n + 1) (head_len_from seen (after_byte line b) bytes)) ≡ Some n
    → n ≤ length (b ∷ bytes)) [
      | true ↦ elim (seen && nat_lt line 2) as (λ t. (if t then Some 1 else option_map (λ n. n + 1) (head_len_from (seen || not (nat_lt line 2)) 0 bytes)) ≡ Some n
          → n ≤ length (b ∷ bytes)) [
            | true ↦ λ h. let one : 1 ≡ n = cc in omega arith
            | false ↦ λ h. let m = map_some _ n h in let below = within_from bytes (seen || not (nat_lt line 2)) 0 m.0 m.1 in let is = m.2 in omega arith
          ]
      | false ↦ λ h. let m = map_some _ n h in let below = within_from bytes seen (after_byte line b) m.0 m.1 in let is = m.2 in omega arith
    ] e

pub head_len-more : (bytes more : List ℕ) (n : ℕ) → head_len bytes ≡ Some n → head_len (bytes ++ more) ≡ Some n
head_len-more bytes more n e = more_from bytes more false 0 n e

pub head_len-le : (bytes : List ℕ) (n : ℕ) → head_len bytes ≡ Some n → n ≤ length bytes
head_len-le bytes n e = within_from bytes false 0 n e
