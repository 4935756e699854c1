-- The first character that is not printable.
use Rattle.std.proofs.Common.{◌≡◌, ℕ, ◌+◌, ◌-◌, ◌<◌, true, false, List, length, get_or, take, refl, sym, ap, ◌∙◌, arith}
use Rattle.std.specs.List.{list_all}
use Rattle.std.proofs.Math.Seq.{take-length}
use Rattle.std.proofs.lemmas.List.Folds.{list_all_at, list_all_more}
use Rattle.bsp_fields.specs.Columns.{is_printable}
use Rattle.bsp_explain.specs.Reasons.{IsUnprintable}

pub unprintable_at : (line : List ℕ) (index : ℕ) → length line ≡ 136 → index < 136 → is_printable (get_or line index 0) ≡ false → list_all is_printable (take index line) ≡ true → IsUnprintable line (index + 1) (get_or line index 0) × (list_all is_printable line ≡ false)
unprintable_at line index wide inside unprintable before =
    let back : index + 1 - 1 ≡ index = omega arith in (
      record {
        wide = wide;
        from = omega arith;
        to = omega arith;
        is = ap (λ k. get_or line k 0) back;
        unprintable = unprintable;
        before = ap (λ k. list_all is_printable (take k line)) back ∙ before;
      },
      list_all_at is_printable line index 0 (omega (arith, wide)) unprintable,
    )

pub printable_more : (line : List ℕ) (index : ℕ) → length line ≡ 136 → index < 136 → is_printable (get_or line index 0) ≡ true → list_all is_printable (take index line) ≡ true → list_all is_printable (take (index + 1) line) ≡ true
printable_more line index wide inside printable before =
    list_all_more is_printable line index 0 (omega (arith, wide)) ∙ rw (before, printable) refl

pub printable_all : (line : List ℕ) (index : ℕ) → length line ≡ 136 → index ≡ 136 → list_all is_printable (take index line) ≡ true → list_all is_printable line ≡ true
printable_all line index wide last before =
    let whole : take index line ≡ line = ap (λ k. take k line) (last ∙ sym wide) ∙ take-length line in
    ap (list_all is_printable) (sym whole) ∙ before
