-- The memos that are counted at an airline and an agent are those that it issued to it.
use Rattle.std.proofs.Common.{◌≡◌, ℕ, ◌==◌, ◌&&◌, Ordering, Less, Equal, Greater, nat_cmp, count_by, refl, ◌∙◌, arith}
use Rattle.std.specs.Ordering.{is_eq, ordering_then}
use Rattle.std.specs.FinMap.{FinMap, entries}
use Rattle.std.specs.Prelude.{Some}
use Rattle.bsp_rows.proofs.KeyLemmas.{is_eq-nat_cmp}
use Rattle.bsp_rows.specs.MemoFields.{MemoFields}
use Rattle.bsp_maps.specs.Counts.{row_count}
use Rattle.bsp_maps.specs.Indexes.{is_place}
use Rattle.bsp_rows.specs.declared.keys.MemoKey.{MemoKey}
use Rattle.bsp_rows.specs.Rows.{memo_cmp}
use Rattle.bsp_rows.specs.Sound.{is_issued_to}
use Rattle.bsp_memory_tables.specs.Places.{parties_cmp, parties_of}

both_equal : (a b : Ordering) → is_eq (ordering_then a b) ≡ (is_eq b && is_eq a)
both_equal Less Less = refl
both_equal Less Equal = refl
both_equal Less Greater = refl
both_equal Equal Less = refl
both_equal Equal Equal = refl
both_equal Equal Greater = refl
both_equal Greater Less = refl
both_equal Greater Equal = refl
both_equal Greater Greater = refl

same_number : (x y : ℕ) → (x == y) ≡ (y == x)
same_number x y = grind arith

issued_there : (agent airline : ℕ) (e : MemoKey × MemoFields) → is_place parties_cmp (Some (parties_of e.0 e.1)) (record { airline = airline; agent = agent }) ≡ is_issued_to agent airline e
issued_there agent airline e =
    both_equal (nat_cmp airline e.0.airline) (nat_cmp agent e.1.agent)
    ∙ ((λ i. is_eq-nat_cmp agent e.1.agent i && is_eq-nat_cmp airline e.0.airline i)
    ∙ (λ i. same_number agent e.1.agent i && same_number airline e.0.airline i))

pub counted_parties : (agent airline : ℕ) (memos : FinMap memo_cmp MemoFields) → row_count parties_cmp parties_of memos (record { airline = airline; agent = agent }) ≡ count_by (is_issued_to agent airline) (entries memos)
counted_parties agent airline memos i = count_by (λ e. issued_there agent airline e i) (entries memos)
