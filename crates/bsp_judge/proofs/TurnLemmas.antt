-- Lemmas on items that are taken in two parts.
use Rattle.std.proofs.Common.{ℕ, ◌+◌, List, [], ◌∷◌, ◌++◌, length, ap, ◌∙◌, sym, subst, append_assoc}
use Rattle.std.specs.List.{FoldsTo}
use Rattle.std.proofs.lemmas.List.{length-append}
use Rattle.bsp_plan_trial.specs.Turns.{StopsAt}

-- what is taken in two parts
pub folds_append : {S X : Type 0} (Takes : S → X → S → Type 0) (start : S) (xs : List X) (mid : S) (ys : List X) (now : S) → FoldsTo Takes start xs mid → FoldsTo Takes mid ys now → FoldsTo Takes start (xs ++ ys) now
folds_append Takes start [] mid ys now is more = subst (λ k. FoldsTo Takes k ys now) (sym is) more
folds_append Takes start (x ∷ xs) mid ys now is more = (is.0, is.1, folds_append Takes is.0 xs mid ys now is.2 more)

-- so it is with more items before them, which are taken
pub stops_after : {S X : Type 0} {Takes : S → X → S → Type 0} {Stops : S → X → Type 0} {start mid : S} (xs ys : List X) (place : ℕ) → FoldsTo Takes start xs mid → StopsAt Takes Stops mid ys place → StopsAt Takes Stops start (xs ++ ys) (length xs + place)
stops_after {X = X} {Takes = Takes} {start = start} {mid = mid} xs ys place taken is = record {
  before = xs ++ is.before;
  item = is.item;
  rest = is.rest;
  are = ap (λ (l : List X). xs ++ l) is.are ∙ sym (append_assoc xs is.before (is.item ∷ is.rest));
  place_is = ap (λ (n : ℕ). length xs + n) is.place_is ∙ sym (length-append xs is.before);
  state = is.state;
  taken = folds_append Takes start xs mid is.before is.state taken is.taken;
  stops = is.stops;
}
