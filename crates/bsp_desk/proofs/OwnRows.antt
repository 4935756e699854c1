-- An agent's own items and memos are those of all rows that bear it.
use Rattle.std.proofs.Common.{◌≡◌, ℕ, ◌==◌, Bool, List, [], ◌∷◌, cond, map, refl, sym, ap, ◌∙◌}
use Rattle.std.specs.List.{Contains, filter}
use Rattle.std.specs.FinMap.{entries, get, values}
use Rattle.bsp_rows.proofs.ListLemmas.{contains_head, contains_tail}
use Rattle.bsp_rows.specs.Part.{agent_part}
use Rattle.bsp_rows.specs.Rows.{Rows, agent_items}
use Rattle.bsp_rows.specs.Sound.{Sound}
use Rattle.bsp_rows.specs.declared.keys.ItemKey.{ItemKey}
use Rattle.bsp_rows.proofs.KeyOrders.{item_exact, item_total}
use Rattle.bsp_rows.proofs.MapLemmas.{entry_get}
use Rattle.bsp_rows.proofs.PartLaws.{filter-map}
use Rattle.bsp_rows.proofs.PartLemmas.{kept_entries}
use Rattle.bsp_rules.specs.declared.rows.Item.{Item}
use Rattle.bsp_desk_sales.proofs.Unchanged.{part_memos}

-- two tests that agree at each element of a list keep the same elements
pub filter_alike : {X : Type 0} (p q : X → Bool) (xs : List X) → ((x : X) → Contains xs x → p x ≡ q x) → filter p xs ≡ filter q xs
filter_alike p q [] same = refl
filter_alike {X} p q (x ∷ xs) same =
    let first : p x ≡ q x = same x (contains_head x xs) in
    let rest : filter p xs ≡ filter q xs = filter_alike p q xs (λ y h. same y (contains_tail x xs y h)) in
    ap (λ b. cond b (x ∷ filter p xs) (filter p xs)) first ∙ ap (λ (ys : List X). cond (q x) (x ∷ ys) ys) rest

-- the book's look-up is the part's list
pub part_items : (agent : ℕ) (rows : Rows) → agent_items agent rows ≡ values (agent_part agent rows).items
part_items agent rows = ap (map (λ (e : ItemKey × Item). e.1)) (sym (kept_entries item_total item_exact (λ (e : ItemKey × Item). e.0.agent == agent) rows.items))

-- of sound rows an item at an agent's key bears the agent
pub own_items : (agent : ℕ) (rows : Rows) → Sound rows → values (agent_part agent rows).items ≡ filter (λ i. i.agent == agent) (values rows.items)
own_items agent rows sound =
    let alike = filter_alike (λ (e : ItemKey × Item). e.0.agent == agent) (λ (e : ItemKey × Item). e.1.agent == agent) (entries rows.items) (λ e within.
    let there : get rows.items e.0 ≡ _ = entry_get item_total item_exact rows.items e.0 e.1 within in
    ap (λ (k : ItemKey). k.agent == agent) (sym (sound.items.each e.0 e.1 there).right.keyed)) in
    sym (part_items agent rows)
    ∙ (ap (map (λ (e : ItemKey × Item). e.1)) alike
    ∙ sym (filter-map (λ (i : Item). i.agent == agent) (λ (e : ItemKey × Item). e.1) (entries rows.items)))

pub own_memos : (agent : ℕ) (rows : Rows) → values (agent_part agent rows).memos ≡ filter (λ m. m.agent == agent) (values rows.memos)
own_memos agent rows = part_memos agent rows
