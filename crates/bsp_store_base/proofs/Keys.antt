-- Codes in decimal digits, as the WHERE of a key compares its columns.
use Rattle.bsp_store_base.proofs.Std.{◌&&◌, ◌+◌, ◌<◌, ◌^◌, ◌∙◌, ◌≡◌, ap, ap₂, arith, Bool, bool_cmp, bytes_eq, bytes_eq-Decides, cond_both, Decides, Equal, Equal-is, false, Greater, is_eq, is_eq-slice_cmp, Less, ltb-true, nat_cmp, nat_cmp-IsAntisymmetric, nat_cmp_total, nat_lt, Ordering, ordering_then, pos, pow-le-pow_right, pow-suc, refl, same_from_decides, subst, suc, sym, tied_itself, true, zero, ℕ}
use Rattle.bsp_store_base.specs.Sqlite.{Binary, Compare, Eq, Text, binary, is_true}
use Rattle.bsp_rows.specs.Decimal.{number_of}
use Rattle.bsp_rows.proofs.DecimalLemmas.{number_of-fixed_digits}
use Rattle.bsp_store_base.specs.Columns.{code_digits, flag}
use Rattle.bsp_store_base.proofs.Values.{same_text, same_int, and_true}

-- ---- the number of the digits

below_power : (n : ℕ) → n < 10 ^ n
below_power zero = omega arith
below_power (suc n) = omega (arith, below_power n, pow-suc 10 n)

-- a width that any number fits in
below_wide : (w n : ℕ) → n < 10 ^ (w + suc n)
below_wide w n = omega (arith, below_power n, pow-le-pow_right {n = 10} (omega arith) {i = n} {j = w + suc n} (omega arith))

pub number_of-code_digits : (w n : ℕ) → number_of (code_digits w n) ≡ n
number_of-code_digits w n =
    cond_both (nat_lt n (10 ^ w)) _ _ (λ ds. number_of ds ≡ n) (λ e. number_of-fixed_digits w n (ltb-true n (10 ^ w) e)) (λ e. number_of-fixed_digits (w + suc n) n (below_wide w n))

pub one_code : (w a k : ℕ) → code_digits w a ≡ code_digits w k → a ≡ k
one_code w a k e = sym (number_of-code_digits w a) ∙ ap number_of e ∙ number_of-code_digits w k

-- ---- one column

texts_decide : (w a k : ℕ) → Decides (bytes_eq (code_digits w a) (code_digits w k)) (k ≡ a)
texts_decide w a k =
    let d = bytes_eq-Decides (code_digits w a) (code_digits w k) in
    (λ e. sym (one_code w a k (d.0 e)), λ e. d.1 (ap (code_digits w) (sym e)))

numbers_decide : (k a : ℕ) → Decides (is_eq (nat_cmp k a)) (k ≡ a)
numbers_decide k a =
    let d = Equal-is (nat_cmp k a) in
    (λ e. nat_cmp-IsAntisymmetric k a (d.0 e), λ e. d.1 (subst (λ x. nat_cmp k x ≡ Equal) e (tied_itself nat_cmp_total k)))

pub code_is : (w a k : ℕ) → is_true (binary (Compare Eq Binary) (Text (code_digits w a)) (Text (code_digits w k))) ≡ is_eq (nat_cmp k a)
code_is w a k =
    same_text (code_digits w a) (code_digits w k) ∙ is_eq-slice_cmp (code_digits w a) (code_digits w k)
    ∙ same_from_decides {P = k ≡ a} (bytes_eq (code_digits w a) (code_digits w k)) (is_eq (nat_cmp k a)) (texts_decide w a k) (numbers_decide k a)

pub flag_is : (a k : Bool) → is_true (binary (Compare Eq Binary) (flag a) (flag k)) ≡ is_eq (bool_cmp k a)
flag_is true true = same_int (pos 1) (pos 1)
flag_is true false = same_int (pos 1) (pos 0)
flag_is false true = same_int (pos 0) (pos 1)
flag_is false false = same_int (pos 0) (pos 0)

-- ---- the columns of a key

pub one_column : (t : Bool) (r : Ordering) → t ≡ is_eq r → (t && true) ≡ is_eq r
one_column t r e = and_true t ∙ e

both : (r s : Ordering) → (is_eq r && is_eq s) ≡ is_eq (ordering_then r s)
both Less s = refl
both Equal s = refl
both Greater s = refl

pub two_columns : (t u : Bool) (r s : Ordering) → t ≡ is_eq r → u ≡ is_eq s → (t && (u && true)) ≡ is_eq (ordering_then r s)
two_columns t u r s first second = ap₂ ◌&&◌ first (one_column u s second) ∙ both r s

pub three_columns : (t u v : Bool) (r s q : Ordering) → t ≡ is_eq r → u ≡ is_eq s → v ≡ is_eq q → (t && (u && (v && true))) ≡ is_eq (ordering_then r (ordering_then s q))
three_columns t u v r s q first second third = ap₂ ◌&&◌ first (two_columns u v s q second third) ∙ both r (ordering_then s q)
