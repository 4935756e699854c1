-- Tables that are ours from a place on, and the name of the index of a key.
use Rattle.bsp_store_base.proofs.Std.{[], ◌++◌, ◌+◌, ◌-◌, ◌↔◌, ◌∙◌, ◌∷◌, ◌≡◌, ◌≤◌, add-one, ap, append_cancel_right, ap₂, arith, Bool, drop, get_or, IsTrue, length, List, slice_get, Some, subst, suc, sym, take, take_all, zero, ℕ}
use Rattle.sqlite_schema.specs.declared.schema.Table.{Table}

joined : (ts : List Table) (at : ℕ) (t : Table) (others : List Table) (n : ℕ) → slice_get ts at ≡ Some t → others ≡ take n (drop (at + 1) ts) → t ∷ others ≡ take (suc n) (drop at ts)
joined [] at t others n is more = absurd (cc is)
joined (x ∷ ts) zero t others n is more = let same : x ≡ t = cc in ap₂ ◌∷◌ (sym same) more
joined (x ∷ ts) (suc at) t others n is more = joined ts at t others n is (more ∙ ap (λ k. take n (drop k (x ∷ ts))) (add-one (suc at)) ∙ sym (ap (λ k. take n (drop k ts)) (add-one at)))

parted : (ts : List Table) (at : ℕ) (t : Table) (others : List Table) (n : ℕ) → t ∷ others ≡ take (suc n) (drop at ts) → others ≡ take n (drop (at + 1) ts)
parted [] zero t others n is = absurd (cc is)
parted [] (suc at) t others n is = absurd (cc is)
parted (x ∷ ts) zero t others n is = cc
parted (x ∷ ts) (suc at) t others n is = parted ts at t others n is ∙ ap (λ k. take n (drop k ts)) (add-one at) ∙ sym (ap (λ k. take n (drop k (x ∷ ts))) (add-one (suc at)))

-- the first table is at its place, and the others are at those after it
pub from_place : (ours tables : List Table) (at : ℕ) (t : Table) → 1 ≤ length tables → t ≡ get_or tables 0 t → slice_get ours at ≡ Some t → (r : Bool)
    → (let others = take (length tables - 1) (drop 1 tables) in IsTrue r ↔ (others ≡ take (length others) (drop (at + 1) ours))) → IsTrue r ↔ (tables ≡ take (length tables) (drop at ours))
from_place ours [] at t some first is r more = absurd (omega arith)
from_place ours (x ∷ tables) at t some first is r more =
    let here : slice_get ours at ≡ Some x = is ∙ ap Some first in
    let whole : take (length (x ∷ tables) - 1) tables ≡ tables = take_all (length (x ∷ tables) - 1) tables (omega arith) in
    let all : IsTrue r ↔ (tables ≡ take (length tables) (drop (at + 1) ours)) = subst (λ l. IsTrue r ↔ (l ≡ take (length l) (drop (at + 1) ours))) whole more in
    (λ holds. joined ours at x tables (length tables) here (all.0 holds), λ are. all.1 (parted ours at x tables (length tables) are))

-- a name with a first part and a last one
pub named : (first last name rest found table : List ℕ) (r : Bool) → name ≡ first ++ rest → rest ≡ found ++ last → (IsTrue r → found ≡ table) × (found ≡ table → IsTrue r)
    → ((rest other : List ℕ) → first ++ rest ≡ first ++ other → rest ≡ other) → IsTrue r ↔ (name ≡ first ++ (table ++ last))
named first last name rest found table r begins ends same cancel = (
  λ holds. begins ∙ ap (λ l. first ++ l) (ends ∙ ap (λ l. l ++ last) (same.0 holds)),
  λ is. same.1 (append_cancel_right found table last (sym ends ∙ cancel rest (table ++ last) (sym begins ∙ is))),
)
