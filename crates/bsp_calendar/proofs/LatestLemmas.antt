-- Lemmas on the entry that begins last.
use Rattle.std.proofs.Common.{◌≡◌, ℕ, Bool, true, false, cond, List, [], ◌∷◌, Some, None, refl, inl, inr}
use Rattle.std.specs.Prelude.{Option, MatchOption}
use Rattle.std.specs.List.{filter, Contains}
use Rattle.std.proofs.lemmas.Bool.{false_from_ne_true}
use Rattle.bsp_fields.specs.CivilDay.{CivilDay}
use Rattle.bsp_fields.specs.Days.{day_number}
use Rattle.bsp_calendar.specs.DayOrder.{is_up_to, is_before}
use Rattle.bsp_calendar.specs.Published.{later_of, latest, number_or_zero, IsLatest}
use Rattle.bsp_calendar.proofs.ListLemmas.{contains_head, contains_tail, contains_cases, contains_none, contains_filter, filter_contains, filter_holds}
use Rattle.bsp_calendar.proofs.DayLemmas.{up_to_true, up_to_from, before_true, not_before, below_weaker, up_to_trans, up_to_itself}

module _ {A : Type 0} (from : A → CivilDay) where
  -- an entry of the list, after which none begins
  pub record BeginsLast (xs : List A) (x : A) : Type 0 where
    pub among : Contains xs x
    pub last : (y : A) → Contains xs y → is_up_to (from y) (from x) ≡ true

  begins_last_later : (x y : A) (xs : List A) → BeginsLast xs y → (b : Bool) → is_before (from x) (from y) ≡ b → BeginsLast (x ∷ xs) (cond b y x)
  begins_last_later x y xs h true before = record {
    among = contains_tail x xs y h.among;
    last = λ z in'. elim (contains_cases x xs z in') [
      | inl here ↦ rw (← here) (up_to_from (day_number (from x)) (day_number (from y)) (below_weaker _ _ (before_true (day_number (from x)) (day_number (from y)) before)))
      | inr there ↦ h.last z there
    ];
  }
  begins_last_later x y xs h false before = record {
    among = contains_head x xs;
    last = λ z in'. elim (contains_cases x xs z in') [
      | inl here ↦ rw (← here) (up_to_itself (day_number (from x)))
      | inr there ↦ up_to_from (day_number (from z)) (day_number (from x)) (up_to_trans _ _ _ (up_to_true (day_number (from z)) (day_number (from y)) (h.last z there)) (not_before (day_number (from x)) (day_number (from y)) before))
    ];
  }

  begins_last_first : (x : A) (xs : List A) (l : Option A) → MatchOption l (xs ≡ []) (BeginsLast xs) → BeginsLast (x ∷ xs) (later_of from l x)
  begins_last_first x xs None h = rw h (record {
    among = contains_head x [];
    last = λ z in'. elim (contains_cases x [] z in') [
      | inl here ↦ rw (← here) (up_to_itself (day_number (from x)))
      | inr there ↦ contains_none z there
    ];
  })
  begins_last_first x xs (Some y) h = begins_last_later x y xs h (is_before (from x) (from y)) refl

  -- the latest of a list
  pub latest_is : (xs : List A) → MatchOption (latest from xs) (xs ≡ []) (BeginsLast xs)
  latest_is [] = refl
  latest_is (x ∷ xs) = begins_last_first x xs (latest from xs) (latest_is xs)

  -- ---- the number that holds, in the two forms of a contract

  number_of : (number : A → ℕ) (test : A → Bool) (xs : List A) (l : Option A) → MatchOption l (filter test xs ≡ []) (BeginsLast (filter test xs)) → IsLatest from number test xs (number_or_zero number l)
  number_of number test xs None h =
      inr (refl, λ s in'. false_from_ne_true (test s) (λ passes. contains_none s (rw h at (contains_filter test xs s in' passes))))
  number_of number test xs (Some x) h =
      inl (x, filter_contains test xs x h.among, filter_holds test xs x h.among, refl, λ s in' passes. h.last s (contains_filter test xs s in' passes))

  pub latest_number : (number : A → ℕ) (test : A → Bool) (xs : List A) → IsLatest from number test xs (number_or_zero number (latest from (filter test xs)))
  latest_number number test xs = number_of number test xs (latest from (filter test xs)) (latest_is (filter test xs))
