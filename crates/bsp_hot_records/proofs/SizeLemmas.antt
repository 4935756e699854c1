-- Sums fit the program's numbers.
use Rattle.std.proofs.Common.{◌≡◌, ◌<◌, ◌≤◌, ℕ, ◌+◌, ◌-◌, ◌*◌, ◌^◌, ℤ, ◌+ℤ◌, arith, to_z, of_z}
use Rattle.std.specs.Int.{w64, w128}
use Rattle.std.specs.Int.RustNames.{unsigned_abs}
use Rattle.std.proofs.lemmas.Int.{ints, to_z-of_z, fits_signed_from_abs}
use Rattle.bsp_hot_records.specs.declared.totals.Sums.{Sums}
use Rattle.bsp_hot_records.specs.Sums.{no_sums, one_document, add, AreSmall}

-- the size of a sum
pub abs_plus : (x y : ℤ) → unsigned_abs (x +ℤ y) ≤ unsigned_abs x + unsigned_abs y
abs_plus x y = omega (arith, ints)

-- a number in the places of an `i128`
pub stored : (z : ℤ) → unsigned_abs z < 2 ^ 127 → to_z w128 (of_z w128 z) ≡ z
stored z h = to_z-of_z w128 z (fits_signed_from_abs w128 z h)

-- an amount in the places of an `i64`
pub amount_stored : (z : ℤ) → unsigned_abs z ≤ 99_999_999_999 → to_z w64 (of_z w64 z) ≡ z
amount_stored z h = to_z-of_z w64 z (fits_signed_from_abs w64 z (omega arith))

pub added : (x y : ℤ) → unsigned_abs x ≤ 2 ^ 63 * 10 ^ 11 → unsigned_abs y ≤ (2 ^ 63 - 1) * 10 ^ 11 → to_z w128 (of_z w128 (to_z w128 (of_z w128 x) +ℤ to_z w128 (of_z w128 y))) ≡ x +ℤ y
added x y p q =
    let a = stored x (omega arith) in
    let b = stored y (omega arith) in
    let c = stored (x +ℤ y) (omega (arith, abs_plus x y)) in
    rw (a, b) c

pub small_more : (n m : ℕ) (s : Sums) → n ≤ m → AreSmall n s → AreSmall m s
small_more n m s more h = record {
  documents = omega arith;
  cash = omega arith;
  credit = omega arith;
  commission = omega arith;
  tax = omega arith;
}

pub no_small : (n : ℕ) → AreSmall n no_sums
no_small n = record { documents = omega arith; cash = omega arith; credit = omega arith; commission = omega arith; tax = omega arith }

pub one_small : AreSmall 1 one_document
one_small = record { documents = omega arith; cash = omega arith; credit = omega arith; commission = omega arith; tax = omega arith }

-- both together
pub small_add : (n m : ℕ) (s t : Sums) → AreSmall n s → AreSmall m t → AreSmall (n + m) (add s t)
unfolding add
small_add n m s t h also = record {
  documents = omega arith;
  cash = omega (arith, abs_plus s.cash t.cash);
  credit = omega (arith, abs_plus s.credit t.credit);
  commission = omega (arith, abs_plus s.commission t.commission);
  tax = omega (arith, abs_plus s.tax t.tax);
}

pub one_longer : (n : ℕ) (s : Sums) → AreSmall n s → AreSmall (n + 1) s
one_longer n s h = small_more n (n + 1) s (omega arith) h
