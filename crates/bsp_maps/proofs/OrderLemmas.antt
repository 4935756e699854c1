-- The map of sorted entries has them in their order.
use Rattle.std.proofs.Common.{◌≡◌, List, [], ◌∷◌, refl, sym, ap, length, ◌∙◌, arith, Ordering, Less}
use Rattle.std.specs.Cmp.{IsTotalOrder}
use Rattle.std.specs.List.{AllByRecursion}
use Rattle.std.specs.List.Sorted.{IsStrictlySortedBy}
use Rattle.std.specs.Map.{keys_of}
use Rattle.std.specs.FinMap.{empty, entries, from_entries, entries-insert, len-empty, len-entries}
use Rattle.std.specs.FinMap.Entries.{put, by_order}

put_front : {K X : Type 0} (R : K → K → Ordering) (k : K) (v : X) (es : List (K × X)) → AllByRecursion (λ y. R k y ≡ Less) (keys_of es) → put R k v es ≡ (k, v) ∷ es
put_front R k v [] all = refl
put_front R k v (e ∷ es) all = ap (λ o. by_order o ((k, v) ∷ e ∷ es) ((e.0, v) ∷ es) (e ∷ put R k v es)) all.0

pub no_length : {A : Type 0} (es : List A) → length es ≡ 0 → es ≡ []
no_length [] e = refl
no_length (x ∷ es) e = absurd (omega arith)

pub no_entries : {K X : Type 0} (R : K → K → Ordering) → entries (from_entries {X = X} {R = R} []) ≡ []
no_entries {K} {X} R = no_length _ (sym (len-entries (empty {X = X} {R = R})) ∙ len-empty R X)

-- sorted entries are the map's
pub in_order : {K X : Type 0} {R : K → K → Ordering} (o : IsTotalOrder R) (es : List (K × X)) → IsStrictlySortedBy R (keys_of es) → entries (from_entries {R = R} es) ≡ es
unfolding IsStrictlySortedBy
in_order {R = R} o [] up = no_entries R
in_order {R = R} o (e ∷ es) up = entries-insert o (from_entries es) e.0 e.1 ∙ ap (put R e.0 e.1) (in_order o es up.1) ∙ put_front R e.0 e.1 es up.0
