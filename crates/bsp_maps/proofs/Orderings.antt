-- Tests of orderings, keys that tie by their parts, and what is behind a key in sorted entries.
use Rattle.std.proofs.Common.{◌≡◌, Bool, true, false, cond, ◌&&◌, List, [], ◌∷◌, refl, ap, ◌∙◌, Ordering, Less, Equal, Greater, Some, None}
use Rattle.std.specs.Prelude.{T}
use Rattle.std.specs.Ordering.{bool_cmp, is_eq, is_lt, ordering_then}
use Rattle.std.specs.Cmp.{IsTotalOrder}
use Rattle.std.specs.FinMap.{find}
use Rattle.std.specs.FinMap.Entries.{below_all}

-- ---- two tests

pub both : (a b : Bool) → T a → T b → T (a && b)
both true b p q = q
both false b p q = p

pub first : (a b : Bool) → T (a && b) → T a
first true b p = tt
first false b p = p

pub second : (a b : Bool) → T (a && b) → T b
second true b p = p
second false b p = absurd p

-- ---- orderings

pub less : (r : Ordering) → T (is_lt r) → r ≡ Less
less Less p = refl
less Equal p = absurd p
less Greater p = absurd p

-- keys that tie do so in each part
pub then_equal : (a b : Ordering) → ordering_then a b ≡ Equal → (a ≡ Equal) × (b ≡ Equal)
then_equal Less b e = absurd (cc)
then_equal Equal b e = (refl, e)
then_equal Greater b e = absurd (cc)

pub bool_exact : (x y : Bool) → bool_cmp x y ≡ Equal → x ≡ y
bool_exact false false e = refl
bool_exact false true e = absurd (cc)
bool_exact true false e = absurd (cc)
bool_exact true true e = refl

-- ---- sorted entries

-- behind a key that ties none does
pub none_behind : {K V : Type 0} (R : K → K → Ordering) (o : IsTotalOrder R) (q x : K) (es : List (K × V)) → R q x ≡ Equal → T (below_all R x es) → find R q es ≡ None
none_behind R o q x [] tie up = refl
none_behind R o q x (e ∷ es) tie up =
    let l : R q e.0 ≡ Less = o.congr q x e.0 tie ∙ less (R x e.0) (first (is_lt (R x e.0)) (below_all R x es) up) in
    ap (λ r. cond (is_eq r) (Some e.1) (find R q es)) l ∙ none_behind R o q x es tie (second (is_lt (R x e.0)) (below_all R x es) up)
