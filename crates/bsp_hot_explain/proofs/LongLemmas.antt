-- A line that is longer than a record, by its first characters.
use Rattle.std.proofs.Common.{◌≡◌, ℕ, ◌+◌, ◌-◌, ◌<◌, ◌≤◌, true, false, List, ◌++◌, length, take, drop, Option, Some, None, refl, sym, ap, ◌∙◌, arith, length-drop}
use Rattle.std.specs.Prelude.{codes, nat_lt}
use Rattle.std.specs.Str.{bytes_eq}
use Rattle.std.proofs.lemmas.List.{length-append, take-append-le, drop-append-le}
use Rattle.bsp_fields.specs.Columns.{columns}
use Rattle.bsp_hot_check.specs.declared.model.Standing.{Standing}
use Rattle.bsp_hot_check.specs.Judging.{step_line}
use Rattle.bsp_hot_check.proofs.Judging.{narrow_line}
use Rattle.bsp_hot_check.proofs.PieceLemmas.{wide_long}
use Rattle.bsp_hot_records.specs.declared.name.RecordName.{RecordName}
use Rattle.bsp_hot_records.specs.Records.{name_of}
use Rattle.bsp_hot_explain.specs.HotReasons.{with_letters, record_name}

columns_kept : (from to : ℕ) (head more : List ℕ) → from - 1 ≤ to → to ≤ length head → columns from to (head ++ more) ≡ columns from to head
columns_kept from to head more order end =
    ap (take (to - (from - 1))) (drop-append-le (from - 1) head more (omega (arith, order, end)))
    ∙ take-append-le (to - (from - 1)) (drop (from - 1) head) more (omega (arith, length-drop (from - 1) head, order, end))

pub long_foreign : (at : Standing) (head more : List ℕ) (width : ℕ) → at.records ≡ 0 → 136 < width → 12 < length head → bytes_eq (columns 1 3 head) (codes "BFH") ≡ false → length (head ++ more) ≡ width
    → (at.records ≡ 0) × (bytes_eq (columns 1 3 (head ++ more)) (codes "BFH") ≡ false) × (step_line at (head ++ more) ≡ None)
long_foreign at head more width none long some other is = (
  none,
  ap (λ (text : List ℕ). bytes_eq text (codes "BFH")) (columns_kept 1 3 head more (omega arith) (omega (arith, some))) ∙ other,
  narrow_line at (head ++ more) (wide_long (head ++ more) (omega (arith, long, is))),
)

not_short : (text : List ℕ) → 12 < length text → nat_lt (length text) 13 ≡ false
not_short text some = grind (arith, some)

with_same : (name : Option RecordName) (line other : List ℕ) → columns 1 3 line ≡ columns 1 3 other → with_letters name line ≡ with_letters name other
with_same None line other same = refl
with_same (Some name) line other same = rw same refl

pub long_name : (head more : List ℕ) → 12 < length head → record_name head ≡ record_name (head ++ more)
unfolding record_name
long_name head more some =
    let longer : 12 < length (head ++ more) = omega (arith, some, length-append head more) in
    let name = columns_kept 12 13 head more (omega arith) (omega (arith, some)) in
    let letters = columns_kept 1 3 head more (omega arith) (omega (arith, some)) in
    rw (not_short head some, not_short (head ++ more) longer, name) (with_same (name_of (columns 12 13 head)) head (head ++ more) (sym letters))
