-- No two days of the calendar have one number.
use Rattle.std.proofs.Common.{◌≡◌, inl, inr, ap, subst, IsTrue, Option, Some, None, ◌≢◌, MatchOption}
use Rattle.std.specs.Int.Signed.{◌<ℤ◌, <ℤ_irrefl}
use Rattle.sqlite_value.specs.declared.value.Value.TheVariants.{Int}
use Rattle.sqlite_value.specs.declared.value.Value.{Value}
use Rattle.bsp_rows.specs.CivilDay.{CivilDay, is_day}
use Rattle.bsp_rows.specs.Days.{day_number}
use Rattle.bsp_rows.proofs.DayOrderLemmas.{cases_days}

-- a column has the number of one day
pub same_day : (v : Value) (a b : CivilDay) → IsTrue (is_day a) → IsTrue (is_day b) → v ≡ Int (day_number a) → v ≡ Int (day_number b) → a ≡ b
same_day v a b ha hb at_a at_b =
    let same : day_number a ≡ day_number b = cc in
    elim (cases_days a b ha hb) [
      | inl less ↦ absurd (<ℤ_irrefl (subst (λ n. n <ℤ day_number b) same less.1))
      | inr other ↦ elim other [
        | inl more ↦ absurd (<ℤ_irrefl (subst (λ n. day_number b <ℤ n) same more.1))
        | inr one ↦ one
      ]
    ]

-- the day that is read of a column is the one whose number is there
pub read_back : (v : Value) (r : Option CivilDay) → MatchOption r ((d : CivilDay) → IsTrue (is_day d) → v ≢ Int (day_number d)) (λ d. (v ≡ Int (day_number d)) × IsTrue (is_day d))
    → (d : CivilDay) → IsTrue (is_day d) → v ≡ Int (day_number d) → r ≡ Some d
read_back v None none d has at = absurd (none d has at)
read_back v (Some e) is d has at = ap Some (same_day v e d is.1 has is.0 at)
