-- Commission: the part of a basis that a rate in hundredths of a percent gives, as a whole number of minor units.
use Rattle.std.specs.Prelude.{ℕ, ℤ, pos, negsuc, suc, ◌+◌, ◌*◌, ◌/◌, ◌*ℤ◌, ◌-ℤ◌, ◌≤◌, nat_le, nat_lt, ◌&&◌, ◌||◌, Bool, neg_ℤ, unsigned_abs}

-- how far an amount is from rate * basis / 10,000, in parts of a twenty thousandth
abbrev pub distance : ℕ → ℤ → ℤ → ℕ
distance rate basis amount = 2 * unsigned_abs (pos 10_000 *ℤ amount -ℤ pos rate *ℤ basis)

-- one of the whole numbers nearest to it, and of two such the one of greater size
pub record IsCommission (rate : ℕ) (basis amount : ℤ) : Type 0 where
  pub nearest : distance rate basis amount ≤ 10_000
  pub greater : (other : ℤ) → distance rate basis other ≤ 10_000 → unsigned_abs other ≤ unsigned_abs amount

-- the same as a test: nearer than half way, or half way and not towards zero
unfoldable pub is_commission : ℕ → ℤ → ℤ → Bool
is_commission rate basis amount =
    nat_lt (distance rate basis amount) 10_000
    || (nat_le (distance rate basis amount) 10_000 && nat_le (unsigned_abs (pos rate *ℤ basis)) (unsigned_abs (pos 10_000 *ℤ amount)))

-- this number: the size of the basis times the rate by 10,000, halves upwards, with the sign of the basis
unfoldable pub commission_on : ℕ → ℤ → ℤ
commission_on rate (pos n) = pos ((rate * n + 5_000) / 10_000)
commission_on rate (negsuc n) = neg_ℤ (pos ((rate * suc n + 5_000) / 10_000))
