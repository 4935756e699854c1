-- The first comparison that differs.
use Rattle.std.proofs.Common.{◌≡◌, ℕ, ◌+◌, ◌<◌, ◌≤◌, true, false, List, [], ◌∷◌, ◌++◌, length, get_or, drop, refl, sym, add-one, Some, None, inl, inr}
use Rattle.std.specs.Prelude.{not}
use Rattle.std.specs.Option.{option_or}
use Rattle.std.proofs.Math.Seq.{drop-cons}
use Rattle.std.proofs.Math.ListN.{drop_of_length-le}
use Rattle.std.proofs.lemmas.List.Folds.{find-append}
use Rattle.std.proofs.lemmas.Bool.{cases_Bool}
use Rattle.bsp_hot_explain.specs.declared.comparison.Comparison.{Comparison}
use Rattle.bsp_hot_explain.specs.Comparisons.{is_same, all_same, first_differing}

pub nothing_left : (cs : List Comparison) (i : ℕ) → length cs ≤ i → first_differing (drop i cs) ≡ None
unfolding first_differing
nothing_left cs i last = rw (drop_of_length-le cs {i = i} last) refl

pub passed_at : (cs : List Comparison) (i : ℕ) (d : Comparison) → i < length cs → is_same (get_or cs i d) ≡ true → first_differing (drop i cs) ≡ first_differing (drop (i + 1) cs)
unfolding first_differing
passed_at cs i d inside same = rw (add-one, drop-cons cs i d inside, same) refl

pub stopped_at : (cs : List Comparison) (i : ℕ) (d : Comparison) → i < length cs → is_same (get_or cs i d) ≡ false → first_differing (drop i cs) ≡ Some (get_or cs i d)
unfolding first_differing
stopped_at cs i d inside differs = rw (drop-cons cs i d inside, differs) refl

pub first_of_two : (a b : List Comparison) → option_or (first_differing a) (first_differing b) ≡ first_differing (a ++ b)
unfolding first_differing
first_of_two a b = sym (find-append (λ c. not (is_same c)) a b)

-- where none differs, all are the same
pub none_differs : (cs : List Comparison) → first_differing cs ≡ None → all_same cs ≡ true
unfolding first_differing all_same
none_differs [] none = refl
none_differs (c ∷ cs) none =
    elim (cases_Bool (is_same c)) [
      | inl same ↦ rw same (none_differs cs (rw same at none))
      | inr differs ↦ let some : Some c ≡ None = rw differs at none in absurd cc
    ]

pub some_differs : (cs : List Comparison) (found : Comparison) → first_differing cs ≡ Some found → all_same cs ≡ false
unfolding first_differing all_same
some_differs [] found some = absurd cc
some_differs (c ∷ cs) found some =
    elim (cases_Bool (is_same c)) [
      | inl same ↦ rw same (some_differs cs found (rw same at some))
      | inr differs ↦ rw differs refl
    ]
