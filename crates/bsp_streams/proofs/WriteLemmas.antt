-- Texts that are written in parts.
use Rattle.std.proofs.Common.{◌≡◌, ℕ, ◌+◌, ◌-◌, List, [], ◌++◌, length, take, drop, sym, ap, ◌∙◌, arith, subst, append_assoc, append-nil, IsErr, Option, None, Some, Result, Ok, Err}
use Rattle.std.proofs.Math.Seq.{take-add}
use Rattle.std.proofs.lemmas.List.{take_all, length-drop, take-append-drop}
use Rattle.std.specs.Io.KnownBytes.{Appends, Keeps}
use Rattle.std.proofs.KnownBytes.{Appends-trans, Appends-kept}
use Rattle.bsp_streams.specs.Written.{IsWritten}

-- so many bytes were written, and then some of the others
pub appends_more : (a b c : Option (List ℕ)) (bytes : List ℕ) (k n : ℕ) → Appends a b (take k bytes) → Appends b c (take n (take (length bytes - k) (drop k bytes))) → Appends a c (take (k + n) bytes)
appends_more a b c bytes k n first second =
    let whole : take (length bytes - k) (drop k bytes) ≡ drop k bytes = take_all _ _ (simp length-drop (omega arith)) in
    subst (Appends a c) (sym (take-add k n bytes)) (Appends-trans a b c _ _ first (subst (λ (l : List ℕ). Appends b c (take n l)) whole second))

-- the writer kept what it had
pub kept_part : (a b c : Option (List ℕ)) (bytes : List ℕ) (k : ℕ) → Appends a b (take k bytes) → Keeps b c → (front : List ℕ) × (back : List ℕ) × (bytes ≡ front ++ back) × Appends a c front
kept_part a b c bytes k h same = (take k bytes, drop k bytes, sym (take-append-drop k bytes), Appends-kept a b c _ h same)

kept_none : (a b : Option (List ℕ)) → Appends a b [] → Keeps a b
kept_none None b h = tt
kept_none (Some x) None h = absurd h
kept_none (Some x) (Some y) h = h ∙ append-nil x

-- a write that took no byte
pub took_none : (a b : Option (List ℕ)) (n : ℕ) (bytes : List ℕ) → n ≡ 0 → Appends a b (take n bytes) → Keeps a b
took_none a b n bytes e h = kept_none a b (subst (λ (k : ℕ). Appends a b (take k bytes)) e h)

-- a fault in the second part
later_part : (a b c : Option (List ℕ)) (first second : List ℕ) → Appends a b first → (front : List ℕ) × (back : List ℕ) × (second ≡ front ++ back) × Appends b c front
    → (front : List ℕ) × (back : List ℕ) × (first ++ second ≡ front ++ back) × Appends a c front
later_part a b c first second h w = (first ++ w.0, w.1, ap (λ l. first ++ l) w.2 ∙ sym (append_assoc first w.0 w.1), Appends-trans a b c _ _ h w.3)

-- two parts, the first of which was written
pub both_parts : {E : Type 0} (a b c : Option (List ℕ)) (first second : List ℕ) (r : Result (Unit {0}) E) → Appends a b first → IsWritten b c second r → IsWritten a c (first ++ second) r
both_parts a b c first second (Ok u) h w = Appends-trans a b c first second h w
both_parts a b c first second (Err e) h w = later_part a b c first second h w

-- two parts, in the first of which a write failed
pub first_part : {F : Type 0} (a b : Option (List ℕ)) (first second : List ℕ) (r : Result (Unit {0}) F) → ((front : List ℕ) × (back : List ℕ) × (first ≡ front ++ back) × Appends a b front) → IsErr r
    → IsWritten a b (first ++ second) r
first_part a b first second (Ok u) w is = cc
first_part a b first second (Err e) w is = (w.0, w.1 ++ second, ap (λ l. l ++ second) w.2 ∙ append_assoc w.0 w.1 second, w.3)
