-- A rule of each entry.
use Rattle.std.proofs.Common.{◌≡◌, Bool, true, false, cond, List, [], ◌∷◌, refl, sym, ap, ◌∙◌, Ordering, Less, Equal, Greater, Some}
use Rattle.std.specs.List.{list_all}
use Rattle.std.specs.Map.{lookup}
use Rattle.std.specs.Ordering.{is_eq}
use Rattle.std.specs.BTreeMap.{is_at}
use Rattle.std.specs.FinMap.{IsAntisymmetric}
use Rattle.std.proofs.lemmas.Bool.{and_parts}

pub equal : (r : Ordering) → is_eq r ≡ true → r ≡ Equal
equal Less h = absurd (cc)
equal Equal h = refl
equal Greater h = absurd (cc)

module _ {K V : Type 0} (R : K → K → Ordering) (exact : IsAntisymmetric R) (holds : K → V → Bool) where
  found : (e : K × V) (es : List (K × V)) (k : K) (v : V) (b : Bool) → is_at (R k) e.0 ≡ b → holds e.0 e.1 ≡ true → (lookup (is_at (R k)) es ≡ Some v → holds k v ≡ true) → cond b (Some e.1) (lookup (is_at (R k)) es) ≡ Some v → holds k v ≡ true
  found e es k v true at h rest is =
      let same : k ≡ e.0 = exact k e.0 (equal (R k e.0) at) in
      let value : e.1 ≡ v = cc in
      ap (λ (q : K). holds q v) same ∙ sym (ap (holds e.0) value) ∙ h
  found e es k v false at h rest is = rest is

  pub held : (es : List (K × V)) (k : K) (v : V) → list_all (λ (e : K × V). holds e.0 e.1) es ≡ true → lookup (is_at (R k)) es ≡ Some v → holds k v ≡ true
  held [] k v all is = absurd (cc is)
  held (e ∷ es) k v all is =
      let p = and_parts (holds e.0 e.1) (list_all (λ (e : K × V). holds e.0 e.1) es) all in
      found e es k v (is_at (R k) e.0) refl p.0 (held es k v p.1) is
