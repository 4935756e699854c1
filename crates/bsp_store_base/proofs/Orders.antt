-- Codes in decimal digits, as ORDER BY compares them, and the rows of a table in that order.
use Rattle.std.proofs.Common.{◌≡◌, ℕ, zero, suc, ◌+◌, ◌/◌, ◌%◌, ◌^◌, ◌<◌, List, [], ◌∷◌, ◌++◌, map, length, Bool, true, false, refl, sym, ap, ap₂, ◌∙◌, arith, Ordering, Less, Equal, Greater, nat_cmp, int_cmp, pos, lt-ltb}
use Rattle.bsp_store_base.proofs.Std.{AllByRecursion, bool_cmp, nat_tests, ordering_then, slice_cmp}
use Rattle.bsp_store_base.specs.Sqlite.{IsAscending, Key, Row, Term, Text, value_cmp}
use Rattle.bsp_store_base.proofs.Sqlite.{all_of, then-Equal, value_cmp-Int, value_cmp-Text}
use Rattle.bsp_rows.specs.Decimal.{fixed_digits}
use Rattle.bsp_rows.proofs.DecimalLemmas.{length-fixed_digits}
use Rattle.bsp_store_base.specs.Columns.{code_digits, flag, count, placed}
use Rattle.bsp_store_base.proofs.Rising.{IsBefore, rows_rise}
use Rattle.bsp_store_columns.proofs.ReadBack.{code_digits-fits}

-- ---- one column

then_assoc : (a b c : Ordering) → ordering_then a (ordering_then b c) ≡ ordering_then (ordering_then a b) c
then_assoc Less b c = refl
then_assoc Equal b c = refl
then_assoc Greater b c = refl

-- texts of one length, and what follows them
slice_cmp-append : (xs ys us vs : List ℕ) → length xs ≡ length ys → slice_cmp nat_cmp (xs ++ us) (ys ++ vs) ≡ ordering_then (slice_cmp nat_cmp xs ys) (slice_cmp nat_cmp us vs)
slice_cmp-append [] [] us vs same = refl
slice_cmp-append [] (y ∷ ys) us vs same = absurd (omega arith)
slice_cmp-append (x ∷ xs) [] us vs same = absurd (omega arith)
slice_cmp-append (x ∷ xs) (y ∷ ys) us vs same = ap (ordering_then (nat_cmp x y)) (slice_cmp-append xs ys us vs (omega arith)) ∙ then_assoc (nat_cmp x y) (slice_cmp nat_cmp xs ys) (slice_cmp nat_cmp us vs)

-- two numbers are compared by all digits but the last, and then by the last
by_tens : (a b : ℕ) → ordering_then (nat_cmp (a / 10) (b / 10)) (nat_cmp (48 + a % 10) (48 + b % 10)) ≡ nat_cmp a b
by_tens a b = grind (arith, nat_tests)

-- the digits of numbers that fit in a width are in the order of the numbers
fixed_digits-order : (w a b : ℕ) → a < 10 ^ w → b < 10 ^ w → slice_cmp nat_cmp (fixed_digits w a) (fixed_digits w b) ≡ nat_cmp a b
fixed_digits-order zero a b low below = let first : a ≡ 0 = omega arith in let second : b ≡ 0 = omega arith in rw (first, second) refl
fixed_digits-order (suc w) a b low below =
    let shorter : a / 10 < 10 ^ w = grind arith in
    let short : b / 10 < 10 ^ w = grind arith in
    slice_cmp-append (fixed_digits w (a / 10)) (fixed_digits w (b / 10)) _ _ (length-fixed_digits w (a / 10) ∙ sym (length-fixed_digits w (b / 10)))
    ∙ ap₂ ordering_then (fixed_digits-order w (a / 10) (b / 10) shorter short) (then-Equal (nat_cmp (48 + a % 10) (48 + b % 10)))
    ∙ by_tens a b

pub code_order : (w a b : ℕ) → a < 10 ^ w → b < 10 ^ w → value_cmp (Text (code_digits w a)) (Text (code_digits w b)) ≡ nat_cmp a b
code_order w a b low below =
    value_cmp-Text (code_digits w a) (code_digits w b) ∙ ap₂ (slice_cmp nat_cmp) (code_digits-fits w a low) (code_digits-fits w b below) ∙ fixed_digits-order w a b low below

pub flag_order : (a b : Bool) → value_cmp (flag a) (flag b) ≡ bool_cmp a b
flag_order true true = value_cmp-Int (pos 1) (pos 1)
flag_order true false = value_cmp-Int (pos 1) (pos 0)
flag_order false true = value_cmp-Int (pos 0) (pos 1)
flag_order false false = value_cmp-Int (pos 0) (pos 0)

below_count : (a b : ℕ) → a < b → int_cmp (pos a) (pos b) ≡ Less
below_count a b less = rw (lt-ltb a b less) refl

-- a place is before each later one
pub place_order : (a b : ℕ) → a < b → ordering_then (value_cmp (count a) (count b)) Equal ≡ Less
place_order a b less = then-Equal (value_cmp (count a) (count b)) ∙ value_cmp-Int (pos a) (pos b) ∙ below_count a b less

-- ---- the columns of a key

pub one_order : (r s : Ordering) → r ≡ s → ordering_then r Equal ≡ s
one_order r s first = then-Equal r ∙ first

pub two_orders : (r s p q : Ordering) → r ≡ s → p ≡ q → ordering_then r (ordering_then p Equal) ≡ ordering_then s q
two_orders r s p q first second = ap₂ ordering_then first (one_order p q second)

pub three_orders : (r s p q x y : Ordering) → r ≡ s → p ≡ q → x ≡ y → ordering_then r (ordering_then p (ordering_then x Equal)) ≡ ordering_then s (ordering_then q y)
three_orders r s p q x y first second third = ap₂ ordering_then first (two_orders p q x y second third)

-- ---- places

all_later : {A : Type 0} (at before : ℕ) (xs : List A) → at < before + 1 → AllByRecursion (λ (e : ℕ × A). at < e.0) (placed before xs)
all_later at before [] low = tt
all_later at before (x ∷ xs) low = (low, all_later at (before + 1) xs (omega arith))

places_rise : {A : Type 0} (before : ℕ) (xs : List A) → IsAscending (λ (a b : ℕ × A). a.0 < b.0) (placed before xs)
places_rise before [] = tt
places_rise before (x ∷ xs) = (all_later (before + 1) (before + 1) xs (omega arith), places_rise (before + 1) xs)

-- the rows of what is placed, where ORDER BY goes by the place
pub placed_rise : {A : Type 0} (order : List (Term × Key)) (row_of : ℕ × A → Row) → ((a b : ℕ × A) → a.0 < b.0 → IsBefore order (row_of a) (row_of b)) → (xs : List A) → IsAscending (IsBefore order) (map row_of (placed 0 xs))
placed_rise {A} order row_of step xs = rows_rise (λ (e : ℕ × A). Unit {0}) (λ a b. a.0 < b.0) (IsBefore order) row_of (λ a b here there less. step a b less) (placed 0 xs) (all_of _ (λ e. tt) (placed 0 xs)) (places_rise 0 xs)
