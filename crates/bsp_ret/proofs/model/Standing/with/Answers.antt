use Rattle.std.proofs.Common.{◌≡◌, ◌<◌, ◌≤◌, ◌+◌, ◌*◌, ◌^◌, ℕ, ℤ, ◌+ℤ◌, arith, refl, unsigned_abs, to_z, of_z}
use Rattle.std.specs.Int.{w64, w128}
use Rattle.std.specs.Prelude.{FitsSigned}
use Rattle.std.proofs.lemmas.Int.{ints, to_z-of_z, fits_signed_from_abs}
use Rattle.bsp_ret.proofs.model.Standing.with.Goals as goal

size_more : (x y : ℤ) → unsigned_abs (x +ℤ y) ≤ unsigned_abs x + unsigned_abs y
size_more x y = omega (arith, ints)

-- the sum with one more amount, in the places of the program
as_stored : (records : ℕ) (sum amount : ℤ) → records < 2 ^ 63 → unsigned_abs sum ≤ records * 10 ^ 11 → unsigned_abs amount ≤ 99_999_999_999
    → to_z w128 (of_z w128 sum) +ℤ to_z w128 (of_z w128 (to_z w64 (of_z w64 amount))) ≡ sum +ℤ amount
as_stored records sum amount room small bound =
    let before = to_z-of_z w128 sum (fits_signed_from_abs w128 sum (omega arith)) in
    let narrow = to_z-of_z w64 amount (fits_signed_from_abs w64 amount (omega arith)) in
    let wide = to_z-of_z w128 amount (fits_signed_from_abs w128 amount (omega arith)) in
    rw (before, narrow, wide) refl

sum_fits : (records : ℕ) (sum amount : ℤ) → records < 2 ^ 63 → unsigned_abs sum ≤ records * 10 ^ 11 → unsigned_abs amount ≤ 99_999_999_999 → FitsSigned w128 (sum +ℤ amount)
sum_fits records sum amount room small bound = fits_signed_from_abs w128 (sum +ℤ amount) (omega (arith, size_more sum amount))

pub overflow_add-result-in-Form : goal.overflow_add-result-in-Form
overflow_add-result-in-Form c =
    let at = c.args.self in
    rw (as_stored at.records at.sum c.get.result c.requires.room c.requires.small c.get.ensures.bound)
    (sum_fits at.records at.sum c.get.result c.requires.room c.requires.small c.get.ensures.bound)

-- the same sum, in the places of the program
as_kept : (records : ℕ) (sum : ℤ) → records < 2 ^ 63 → unsigned_abs sum ≤ records * 10 ^ 11 → to_z w128 (of_z w128 sum) ≡ sum
as_kept records sum room small = to_z-of_z w128 sum (fits_signed_from_abs w128 sum (omega arith))

le_more : (a b : ℕ) → a ≤ b → a ≤ b + 1
le_more a b h = omega arith

le_both : (a b : ℕ) → a ≤ b → a + 1 ≤ b + 1
le_both a b h = omega arith

small_more : (records : ℕ) (sum : ℤ) → unsigned_abs sum ≤ records * 10 ^ 11 → unsigned_abs sum ≤ (records + 1) * 10 ^ 11
small_more records sum small = omega arith

small_with : (records : ℕ) (sum amount : ℤ) → unsigned_abs sum ≤ records * 10 ^ 11 → unsigned_abs amount ≤ 99_999_999_999 → unsigned_abs (sum +ℤ amount) ≤ (records + 1) * 10 ^ 11
small_with records sum amount small bound = omega (arith, size_more sum amount)

pub returns-in-Form : goal.returns-in-Form
returns-in-Form c =
    let at = c.args.self in
    let stored = as_stored at.records at.sum c.get.result c.requires.room c.requires.small c.get.ensures.bound in
    let fits = to_z-of_z w128 (at.sum +ℤ c.get.result) (sum_fits at.records at.sum c.get.result c.requires.room c.requires.small c.get.ensures.bound) in
    rw (stored, fits)
    record {
      standing = rw (c.get.ensures.value, c.kind.ensures, c.in-Form.is) refl;
      records = refl;
      counted = le_more at.transactions at.records c.requires.counted;
      small = small_with at.records at.sum c.get.result c.requires.small c.get.ensures.bound;
    }

pub returns-in-Header : goal.returns-in-Header
returns-in-Header c =
    let at = c.args.self in
    let kept = as_kept at.records at.sum c.requires.room c.requires.small in
    rw (kept, kept)
    record {
      standing = rw (c.kind.ensures, c.in-Header.is) refl;
      records = refl;
      counted = le_more at.transactions at.records c.requires.counted;
      small = small_more at.records at.sum c.requires.small;
    }

pub returns-in-Sale : goal.returns-in-Sale
returns-in-Sale c =
    let at = c.args.self in
    let kept = as_kept at.records at.sum c.requires.room c.requires.small in
    rw (kept, kept)
    record {
      standing = rw (c.kind.ensures, c.in-Sale.is) refl;
      records = refl;
      counted = le_both at.transactions at.records c.requires.counted;
      small = small_more at.records at.sum c.requires.small;
    }

pub returns-in-Related : goal.returns-in-Related
returns-in-Related c =
    let at = c.args.self in
    let kept = as_kept at.records at.sum c.requires.room c.requires.small in
    rw (kept, kept)
    record {
      standing = rw (c.only_with.ensures, c.kind.ensures, c.in-Related.is) refl;
      records = refl;
      counted = le_more at.transactions at.records c.requires.counted;
      small = small_more at.records at.sum c.requires.small;
    }
