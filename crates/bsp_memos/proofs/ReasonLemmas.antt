-- Lemmas on the reasons of memos.
use Rattle.std.proofs.Common.{◌≡◌, ℕ, ◌-◌, ◌<◌, ◌≤◌, true, ◌&&◌, List, [], ◌∷◌, ◌++◌, length, take, drop, replicate, zero, suc, refl, sym, ap, ◌∙◌, arith, nat_le}
use Rattle.std.specs.Int.{is_in_range}
use Rattle.std.specs.List.{list_all}
use Rattle.std.specs.Str.{IsAscii, IsUtf8}
use Rattle.std.proofs.lemmas.Bool.{and_parts, eqb-true, eq-eqb}
use Rattle.std.specs.Bool.{Decides}
use Rattle.std.specs.Str.{bytes_eq}
use Rattle.std.specs.Cmp.Lexicographic.{bytes_decides}
use Rattle.std.proofs.Common.{eqb}
use Rattle.std.proofs.lemmas.Bool.Decides.{same_from_decides}
use Rattle.std.proofs.lemmas.Grind.{common_steps}
use Rattle.std.proofs.lemmas.List.{drop-replicate}
use Rattle.std.proofs.lemmas.Str.{IsUtf8-from_ascii}
use Rattle.std.proofs.Math.Seq.{take-append_seam}
use Rattle.bsp_memos.specs.Reasons.{is_reason, IsFilled}

printable-lt : (b : ℕ) → is_in_range 32 126 b ≡ true → b < 128
printable-lt b h = grind (arith, common_steps)

printable-ascii : (text : List ℕ) → list_all (is_in_range 32 126) text ≡ true → IsAscii text
printable-ascii [] h i = omega arith
printable-ascii (b ∷ text) h zero = printable-lt b (and_parts (is_in_range 32 126 b) (list_all (is_in_range 32 126) text) h).0
printable-ascii (b ∷ text) h (suc i) = printable-ascii text (and_parts (is_in_range 32 126 b) (list_all (is_in_range 32 126) text) h).1 i

-- the characters of a reason are UTF-8
pub reason-utf8 : (text : List ℕ) → is_reason text ≡ true → IsUtf8 text
reason-utf8 text h = IsUtf8-from_ascii text (printable-ascii text (and_parts (nat_le 1 (length text) && nat_le (length text) 40) (list_all (is_in_range 32 126) text) h).1)

-- a reason in front of spaces
pub filled : (text : List ℕ) → length text ≤ 40 → is_reason text ≡ true → IsFilled (length text) (text ++ drop (length text) (replicate 40 32))
filled text bound h =
    let front : take (length text) (text ++ drop (length text) (replicate 40 32)) ≡ text = take-append_seam text (drop (length text) (replicate 40 32)) in
    record {
      bound = bound;
      reason = rw (front, h) refl;
      width = ap length front;
      filled = rw (front, drop-replicate {X = ℕ} (length text) 40 32) refl;
    }

decided : (own other : List ℕ) →
    Decides (bytes_eq (own ++ replicate (40 - length own) 32) (other ++ replicate (40 - length other) 32) && eqb (length own) (length other)) (own ≡ other)
decided own other = (
  (λ h.
      let p = and_parts (bytes_eq (own ++ replicate (40 - length own) 32) (other ++ replicate (40 - length other) 32)) (eqb (length own) (length other)) h in
      let whole = (bytes_decides (own ++ replicate (40 - length own) 32) (other ++ replicate (40 - length other) 32)).0 p.0 in
      let long = eqb-true (length own) (length other) p.1 in
      sym (take-append_seam own (replicate (40 - length own) 32)) ∙ ap (take (length own)) whole
      ∙ ap (λ n. take n (other ++ replicate (40 - length other) 32)) long ∙ take-append_seam other (replicate (40 - length other) 32)),
  (λ e. rw (e, (bytes_decides (other ++ replicate (40 - length other) 32) (other ++ replicate (40 - length other) 32)).1 refl, eq-eqb (length other) (length other) refl) refl),
)

-- the test of two reasons with their spaces is that of the reasons
pub same_reason : (own other : List ℕ) →
    (bytes_eq (own ++ replicate (40 - length own) 32) (other ++ replicate (40 - length other) 32) && eqb (length own) (length other)) ≡ bytes_eq own other
same_reason own other = same_from_decides _ _ (decided own other) (bytes_decides own other)
