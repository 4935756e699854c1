-- Counts of keys, one more at a time.
use Rattle.std.proofs.Common.{◌≡◌, ℕ, suc, ◌+◌, ◌<◌, ◌≤◌, Bool, true, false, cond, List, [], ◌∷◌, length, get_or, refl, sym, ap, ◌∙◌, arith, Ordering, Option, Some}
use Rattle.std.specs.Prelude.{count_by, drop, unwrap_or}
use Rattle.std.specs.Ordering.{eq_by_cmp, is_eq}
use Rattle.std.specs.Cmp.{IsTotalOrder, tied_itself}
use Rattle.std.proofs.lemmas.List.Sums.{sum_by-cons, count_by-le-length}
use Rattle.std.specs.Map.{lookup}
use Rattle.std.specs.BTreeMap.{BTreeMap, get, is_at}
use Rattle.bsp_maps.proofs.RuleLemmas.{equal}
use Rattle.std.proofs.Common.{add-one, drop-cons, length-drop}

module _ {K : Type 0} (R : K → K → Ordering) (o : IsTotalOrder R) where
  -- what is left, from the next on
  pub next_count : (q : K) (keys : List K) (i : ℕ) (key : K) → i < length keys → key ≡ get_or keys i key → count_by (eq_by_cmp R q) (drop i keys) ≡ cond (eq_by_cmp R q key) 1 0 + count_by (eq_by_cmp R q) (drop (i + 1) keys)
  next_count q keys i key l is =
      ap (count_by (eq_by_cmp R q)) (drop-cons keys i key l)
      ∙ sum_by-cons (λ x. cond (eq_by_cmp R q x) 1 0) (get_or keys i key) (drop (suc i) keys)
      ∙ ap (λ x. cond (eq_by_cmp R q x) 1 0 + count_by (eq_by_cmp R q) (drop (suc i) keys)) (sym is)
      ∙ (rw add-one refl)

  -- a key that ties has the same value
  same_value : (q key : K) → eq_by_cmp R q key ≡ true → (es : List (K × ℕ)) → lookup (is_at (R q)) es ≡ lookup (is_at (R key)) es
  same_value q key tie [] = refl
  same_value q key tie (e ∷ es) = ap (λ r. cond (is_eq r) (Some e.1) (lookup (is_at (R q)) es)) (o.congr q key e.0 (equal (R q key) tie)) ∙ ap (cond (is_eq (R key e.0)) (Some e.1)) (same_value q key tie es)

  pub same_value_at : (q key : K) → eq_by_cmp R q key ≡ true → (m : BTreeMap K ℕ) → get R m q ≡ get R m key
  same_value_at q key tie m = same_value q key tie m.entries

  pub itself : (key : K) → eq_by_cmp R key key ≡ true
  itself key = ap is_eq (tied_itself o key)

-- a count was raised
pub raised : (b : Bool) (old : Option ℕ) (left rest total count : ℕ) (here : Option ℕ) → count ≡ unwrap_or here 0 → (b ≡ true → old ≡ here) → left ≡ cond b 1 0 + rest → unwrap_or old 0 + left ≡ total → unwrap_or (cond b (Some (count + 1)) old) 0 + rest ≡ total
raised true old left rest total count here c same e h = let k : unwrap_or old 0 ≡ count = ap (λ w. unwrap_or w 0) (same refl) ∙ sym c in omega arith
raised false old left rest total count here c same e h = omega arith

pub bounded : (b : Bool) (old : Option ℕ) (count limit : ℕ) → count < limit → unwrap_or old 0 ≤ limit → unwrap_or (cond b (Some (count + 1)) old) 0 ≤ limit
bounded true old count limit l h = omega arith
bounded false old count limit l h = h

pub too_many : (b : Bool) (left rest total count here limit : ℕ) → b ≡ true → left ≡ cond b 1 0 + rest → here + left ≡ total → count ≡ here → limit ≤ count → total ≤ limit → false ≡ true
too_many true left rest total count here limit t e h c l m = absurd (omega arith)
too_many false left rest total count here limit t e h c l m = t

pub at_end : {K : Type 0} (p : K → Bool) (keys : List K) (i here limit : ℕ) → length keys ≤ i → here + count_by p (drop i keys) ≡ count_by p keys → here ≤ limit → count_by p keys ≤ limit
at_end p keys i here limit past h l = let a = count_by-le-length p (drop i keys) in let b = length-drop i keys in omega arith
