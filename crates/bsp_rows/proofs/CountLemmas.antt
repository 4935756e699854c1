-- What is counted among the items and the memos, by key and in lists.
use Rattle.std.proofs.Common.{◌≡◌, ℕ, ◌+◌, ◌==◌, Bool, true, false, ◌&&◌, cond, List, [], ◌∷◌, map, count_by, refl, sym, ap, ◌∙◌, arith}
use Rattle.std.specs.List.{Contains, filter}
use Rattle.std.specs.FinMap.{get, entries, values}
use Rattle.std.proofs.lemmas.List.Sums.{sum_by-cons, length-filter}
use Rattle.bsp_calendar.specs.Published.{Published, target_of}
use Rattle.bsp_calendar.proofs.ListLemmas.{contains_head, contains_tail}
use Rattle.bsp_ret_records.specs.declared.transactions.Transaction.{Transaction}
use Rattle.bsp_rules.specs.declared.facts.Facts.{Facts}
use Rattle.bsp_rules.specs.declared.rows.Item.{Item}
use Rattle.bsp_rules.specs.declared.rows.Range.{Range}
use Rattle.bsp_rules.specs.FactsOf.{facts_in, count_in, counts}
use Rattle.bsp_rules.specs.Selected.{selected, without_count}
use Rattle.bsp_rules.proofs.SelectedLemmas.{facts_selected}
use Rattle.bsp_memos.specs.declared.fields.MemoFields.{MemoFields}
use Rattle.bsp_statement.specs.Tallies.{is_item_under}
use Rattle.bsp_rows.specs.declared.keys.ItemKey.{ItemKey}
use Rattle.bsp_rows.specs.declared.keys.MemoKey.{MemoKey}
use Rattle.bsp_rows.specs.declared.keys.TallyKey.{TallyKey}
use Rattle.bsp_rows.specs.Rows.{Rows, agent_items, key_of, ranges_of}
use Rattle.bsp_rows.specs.Tallies.{key_tally, tally_of}
use Rattle.bsp_rows.specs.Laws.{FactsAreByKey, FactsAreWithoutTarget, ItemsAreDistinct, issued_count}
use Rattle.bsp_rows.specs.Sound.{Sound, is_counted, is_issued_to}
use Rattle.bsp_rows.proofs.ClearedLemmas.{count_is}
use Rattle.bsp_rows.proofs.KeyOrders.{item_total, item_exact}
use Rattle.bsp_rows.proofs.MapLemmas.{entry_get, same_Some}
use Rattle.bsp_rows.proofs.RowLemmas.{item_among}
use Rattle.bsp_fields.specs.Decimal.{number_of}

-- ---- items

count_of : (registered : Bool) (ranges : List Range) (items : List Item) (t : Transaction) (p : Published) → (facts_in registered ranges items t p).count ≡ count_in items t.document.airline (target_of p t.issued)
unfolding facts_in
count_of registered ranges items t p = refl

-- the facts over selected items, with the count of all, are the facts over all
facts_counted : (registered : Bool) (ranges : List Range) (items : List Item) (t : Transaction) (p : Published) (n : ℕ) → n ≡ count_in items t.document.airline (target_of p t.issued) → record (facts_in registered ranges (selected t items) t p) { count = n } ≡ facts_in registered ranges items t p
facts_counted registered ranges items t p n is =
    let all = facts_in registered ranges items t p in
    let few = facts_in registered ranges (selected t items) t p in
    let same : without_count all ≡ without_count few = facts_selected all registered ranges items t p refl in
    let count : n ≡ all.count = is ∙ sym (count_of registered ranges items t p) in
    ap (λ (f : Facts). record f { count = n }) (sym same) ∙ (λ i. record all { count = count i })

one_step : (k : TallyKey) (e : ItemKey × Item) → e.0.agent ≡ e.1.agent → is_item_under (key_tally k) e.1 ≡ is_counted k.agent k.airline k.period e
one_step k e same = ap (λ (a : ℕ). (a == k.agent) && counts k.airline k.period e.1) (sym same)

pub count_under : (k : TallyKey) (es : List (ItemKey × Item)) → ((e : ItemKey × Item) → Contains es e → e.0.agent ≡ e.1.agent) → count_by (is_item_under (key_tally k)) (map (λ e. e.1) es) ≡ count_by (is_counted k.agent k.airline k.period) es
count_under k [] own = refl
count_under k (e ∷ es) own =
    sum_by-cons (λ (i : Item). cond (is_item_under (key_tally k) i) 1 0) e.1 (map (λ x. x.1) es)
    ∙ ((λ i. cond (one_step k e (own e (contains_head e es)) i) 1 0 + count_under k es (λ x in'. own x (contains_tail e es x in')) i)
    ∙ sym (sum_by-cons (λ (x : ItemKey × Item). cond (is_counted k.agent k.airline k.period x) 1 0) e es))

-- of sound rows the tally counts what the documents limit counts
pub accepted_count : (rows : Rows) (k : TallyKey) → Sound rows → (tally_of k rows).accepted ≡ count_by (is_counted k.agent k.airline k.period) (entries rows.items)
accepted_count rows k s =
    length-filter (is_item_under (key_tally k)) (values rows.items)
    ∙ count_under k (entries rows.items) (λ e in'. sym (ap (λ (x : ItemKey). x.agent) (s.items.each e.0 e.1 (entry_get item_total item_exact rows.items e.0 e.1 in')).right.keyed))

pub facts_by_key : FactsAreByKey
facts_by_key rows registered agent period t s target =
    let k : TallyKey = record { agent = agent; airline = t.document.airline; period = period } in
    facts_counted registered (ranges_of agent rows) (agent_items agent rows) t rows.published (tally_of k rows).accepted
    (accepted_count rows k s ∙ (sym (count_is agent t.document.airline period (entries rows.items)) ∙ ap (count_in (agent_items agent rows) t.document.airline) (sym target)))

pub facts_without_target : FactsAreWithoutTarget
facts_without_target rows registered agent t none =
    facts_counted registered (ranges_of agent rows) (agent_items agent rows) t rows.published 0 (ap (count_in (agent_items agent rows) t.document.airline) (sym none))

pub items_distinct : ItemsAreDistinct
items_distinct rows agent s i j hi hj same canx =
    let (k, at, own) = item_among rows agent i hi in
    let (l, there, other) = item_among rows agent j hj in
    let keyed = (s.items.each k i at).right.keyed in
    let beside = (s.items.each l j there).right.keyed in
    let agents : i.agent ≡ j.agent = ap (λ (x : ItemKey). x.agent) keyed ∙ (own ∙ (sym other ∙ sym (ap (λ (x : ItemKey). x.agent) beside))) in
    let keys : key_of i ≡ key_of j = λ n. record { agent = agents n; number = number_of (same n); is_canx = canx n } in
    let one : k ≡ l = sym keyed ∙ (keys ∙ beside) in
    same_Some i j (sym at ∙ (ap (get rows.items) one ∙ there))

-- ---- memos

issued_step : (agent airline : ℕ) (e : MemoKey × MemoFields) (es : List (MemoKey × MemoFields)) → count_by (λ m. m.agent == agent) (map (λ x. x.1) (filter (λ x. x.0.airline == airline) es)) ≡ count_by (is_issued_to agent airline) es → (own : Bool) → (e.0.airline == airline) ≡ own →
    count_by (λ m. m.agent == agent) (map (λ x. x.1) (cond own (e ∷ filter (λ x. x.0.airline == airline) es) (filter (λ x. x.0.airline == airline) es))) ≡ cond (is_issued_to agent airline e) 1 0 + count_by (is_issued_to agent airline) es
issued_step agent airline e es rest true is =
    sum_by-cons (λ (m : MemoFields). cond (m.agent == agent) 1 0) e.1 (map (λ x. x.1) (filter (λ x. x.0.airline == airline) es))
    ∙ ((λ i. cond (e.1.agent == agent) 1 0 + rest i) ∙ ap (λ b. cond b 1 0 + count_by (is_issued_to agent airline) es) (sym (ap (λ b. (e.1.agent == agent) && b) is ∙ and_true (e.1.agent == agent)))) where
      and_true : (b : Bool) → (b && true) ≡ b
      and_true true = refl
      and_true false = refl
issued_step agent airline e es rest false is =
    let nothing : count_by (is_issued_to agent airline) es ≡ 0 + count_by (is_issued_to agent airline) es = omega arith in
    rest ∙ (nothing ∙ ap (λ b. cond b 1 0 + count_by (is_issued_to agent airline) es) (sym (ap (λ b. (e.1.agent == agent) && b) is ∙ and_false (e.1.agent == agent)))) where
      and_false : (b : Bool) → (b && false) ≡ false
      and_false true = refl
      and_false false = refl

issued_in : (agent airline : ℕ) (es : List (MemoKey × MemoFields)) → count_by (λ m. m.agent == agent) (map (λ x. x.1) (filter (λ x. x.0.airline == airline) es)) ≡ count_by (is_issued_to agent airline) es
issued_in agent airline [] = refl
issued_in agent airline (e ∷ es) =
    issued_step agent airline e es (issued_in agent airline es) (e.0.airline == airline) refl
    ∙ sym (sum_by-cons (λ (x : MemoKey × MemoFields). cond (is_issued_to agent airline x) 1 0) e es)

pub issued_counted : (agent airline : ℕ) (rows : Rows) → issued_count agent airline rows ≡ count_by (is_issued_to agent airline) (entries rows.memos)
issued_counted agent airline rows = issued_in agent airline (entries rows.memos)
