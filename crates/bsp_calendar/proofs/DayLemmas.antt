-- Lemmas on days in order.
use Rattle.std.proofs.Common.{◌≡◌, true, false, arith, ℤ, pos, ◌+ℤ◌, ◌≤ℤ◌, ◌<ℤ◌}
use Rattle.std.specs.Prelude.{int_le, int_lt}
use Rattle.std.specs.Ordering.{int_eq}
use Rattle.std.proofs.lemmas.Int.{ints}
use Rattle.std.proofs.lemmas.Bool.Decides.{Decides-int_eq}

-- what the tests of two numbers say
pub up_to_true : (a b : ℤ) → int_le a b ≡ true → a ≤ℤ b
up_to_true a b h = grind (arith, ints)

pub up_to_from : (a b : ℤ) → a ≤ℤ b → int_le a b ≡ true
up_to_from a b h = grind (arith, ints)

pub not_up_to : (a b : ℤ) → int_le a b ≡ false → b <ℤ a
not_up_to a b h = grind (arith, ints)

pub not_up_to_from : (a b : ℤ) → b <ℤ a → int_le a b ≡ false
not_up_to_from a b h = grind (arith, ints)

pub before_true : (a b : ℤ) → int_lt a b ≡ true → a <ℤ b
before_true a b h = grind (arith, ints)

pub before_from : (a b : ℤ) → a <ℤ b → int_lt a b ≡ true
before_from a b h = grind (arith, ints)

pub not_before : (a b : ℤ) → int_lt a b ≡ false → b ≤ℤ a
not_before a b h = grind (arith, ints)

pub not_before_from : (a b : ℤ) → a ≤ℤ b → int_lt b a ≡ false
not_before_from a b h = grind (arith, ints)

-- the number after another is above it
pub next_above : (a b : ℤ) → int_eq b (a +ℤ pos 1) ≡ true → a <ℤ b
next_above a b h =
    let e : b ≡ a +ℤ pos 1 = (Decides-int_eq b (a +ℤ pos 1)).0 h in omega (arith, ints)

-- numbers in order
pub up_to_next : (a b c : ℤ) → a ≤ℤ b → b <ℤ c → a <ℤ c
up_to_next a b c h k = omega (arith, ints)

pub below_weaker : (a b : ℤ) → a <ℤ b → a ≤ℤ b
below_weaker a b h = omega (arith, ints)

pub below_trans : (a b c : ℤ) → a <ℤ b → b ≤ℤ c → a <ℤ c
below_trans a b c h k = omega (arith, ints)

pub up_to_trans : (a b c : ℤ) → a ≤ℤ b → b ≤ℤ c → a ≤ℤ c
up_to_trans a b c h k = omega (arith, ints)

pub up_to_itself : (a : ℤ) → int_le a a ≡ true
up_to_itself a = up_to_from a a (omega (arith, ints))
