-- Why the audit's tests of memos answer what they are asked.
use Rattle.std.proofs.Common.{◌≡◌, ℕ, zero, suc, ◌==◌, Bool, true, false, cond, List, [], ◌∷◌, map, length, take, Some, None, refl, sym, ap, subst, ◌∙◌, inl, inr}
use Rattle.std.specs.Bool.{Decides}
use Rattle.std.specs.List.{Contains, find}
use Rattle.std.proofs.lemmas.Bool.{both_ways, eqb-true, eq-eqb, false_from_ne_true}
use Rattle.bsp_calendar.specs.Published.{Published, is_closed, period_of}
use Rattle.bsp_calendar.specs.SoundPlan.{IsSoundPlan}
use Rattle.bsp_calendar.specs.declared.entries.Period.{Period}
use Rattle.bsp_calendar.proofs.ListLemmas.{contains_head, contains_tail, contains_cases, contains_none}
use Rattle.bsp_calendar.proofs.ListedLemmas.{contains_any}
use Rattle.bsp_memos.specs.declared.fields.MemoFields.{MemoFields}
use Rattle.bsp_rows.specs.Audit.{IsRightlyBilled}
use Rattle.bsp_rows.specs.Sound.{IsSoundBilling}
use Rattle.bsp_rows.proofs.RowLemmas.{contains_map}

-- ---- closed periods are published

in_front : {A : Type 0} (n : ℕ) (xs : List A) (x : A) → Contains (take n xs) x → Contains xs x
in_front zero xs x h = contains_none x h
in_front (suc n) [] x h = contains_none x h
in_front (suc n) (y ∷ ys) x h =
    elim (contains_cases y (take n ys) x h) [
      | inl here ↦ subst (λ (z : _). Contains (y ∷ ys) z) here (contains_head y ys)
      | inr there ↦ contains_tail y ys x (in_front n ys x there)
    ]

found_by : {A : Type 0} (p : A → Bool) (y : A) (ys : List A) (x : A) → p x ≡ true → (Contains ys x → find p ys ≡ None → ⊥) → Contains (y ∷ ys) x → (b : Bool) → p y ≡ b → cond b (Some y) (find p ys) ≡ None → ⊥
found_by p y ys x passes rest in' true is h = absurd (cc h)
found_by p y ys x passes rest in' false is h =
    elim (contains_cases y ys x in') [
      | inl here ↦ both_ways (p x) (ap p (sym here) ∙ is) passes
      | inr there ↦ rest there h
    ]

found : {A : Type 0} (p : A → Bool) (xs : List A) (x : A) → Contains xs x → p x ≡ true → find p xs ≡ None → ⊥
found p [] x in' passes h = contains_none x in'
found p (y ∷ ys) x in' passes h = found_by p y ys x passes (λ there none. found p ys x there passes none) in' (p y) refl h

unpublished : (p : Published) (code : ℕ) → IsSoundPlan p → period_of p code ≡ None → is_closed p code ≡ true → ⊥
unpublished p code s none closed =
    let (other, in', same) = contains_any (λ (x : ℕ). code == x) p.closed closed in
    let first : Contains (map (λ (q : Period). q.code) (take (length p.closed) p.periods)) other = subst (λ (codes : List ℕ). Contains codes other) s.closed_first in' in
    let (q, there, is) = contains_map (λ (q : Period). q.code) (take (length p.closed) p.periods) other first in
    found (λ (q : Period). q.code == code) p.periods q (in_front (length p.closed) p.periods q there) (eq-eqb q.code code (is ∙ sym (eqb-true code other same))) none

-- a period that is not published is not closed
pub not_closed : (p : Published) (code : ℕ) → IsSoundPlan p → period_of p code ≡ None → false ≡ is_closed p code
not_closed p code s none = sym (false_from_ne_true (is_closed p code) (λ h. unpublished p code s none h))

-- ---- a billing

pub billing_by : (p : Published) (m : MemoFields) (period : ℕ) (b : Bool) → is_closed p period ≡ true → Decides b (IsRightlyBilled p m) → Decides b (IsSoundBilling p m period)
billing_by p m period b closed d = (
  (λ h. let r = d.0 h in record { closed = closed; terms = r.terms; there = r.there; rightly = r.rightly }),
  (λ s. d.1 (record { terms = s.terms; there = s.there; rightly = s.rightly })),
)

pub billing_open : (p : Published) (m : MemoFields) (period : ℕ) (b : Bool) → b ≡ is_closed p period → b ≡ false → Decides b (IsSoundBilling p m period)
billing_open p m period b is no' = ((λ h. absurd (both_ways b no' h)), (λ s. is ∙ s.closed))
