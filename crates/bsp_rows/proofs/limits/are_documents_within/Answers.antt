use Rattle.std.proofs.Common.{◌≡◌, ℕ, ◌+◌, ◌≤◌, cond, refl, sym, ap, ◌∙◌, Option, Some, subst}
use Rattle.std.specs.Prelude.{count_by, map, unwrap_or}
use Rattle.std.specs.Ordering.{eq_by_cmp}
use Rattle.std.specs.Cmp.{eq_by_cmp_equiv}
use Rattle.std.specs.BTreeMap.{get, values}
use Rattle.std.specs.Map.Iter.{deref}
use Rattle.std.proofs.lemmas.Map.Iter.{rest_all}
use Rattle.bsp_maps.proofs.CountLemmas.{raised, bounded, too_many, same_value_at, itself}
use Rattle.bsp_rows.specs.Tallies.{item_tally_key, tally_cmp}
use Rattle.bsp_rows.specs.declared.keys.TallyKey.{TallyKey}
use Rattle.bsp_rows.proofs.CountedLemmas.{count_end, count_more}
use Rattle.bsp_rows.proofs.KeyOrders.{tally_total}
use Rattle.bsp_rows.proofs.limits.are_documents_within.Goals as goal

pub returns-then-count-limit : goal.returns-then-count-limit
returns-then-count-limit c =
    let key = c.of_item-key.result in (
      (λ e. absurd (cc e)),
      (λ h. too_many (eq_by_cmp tally_cmp key key) _ _ _ c.unwrap_or-count.result (unwrap_or (get tally_cmp c.loop-item.counts key) 0) c.args.limit (itself tally_cmp tally_total key)
          (count_more item_tally_key (eq_by_cmp tally_cmp key) c.in-Some.item.now key c.loop-item.item-iterator c.next.new.self c.in-Some.ensures.steps c.of_item-key.ensures) (c.loop-item.invariant.counted key)
          (c.unwrap_or-count.ensures ∙ ap (λ (o : Option ℕ). unwrap_or o 0) (c.copied.ensures ∙ c.get.ensures.value)) c.if-count-limit.true (h key)),
    )

pub loop-item-preserved : goal.loop-item-preserved
loop-item-preserved c =
    let key = c.of_item-key.result in
    let count = c.unwrap_or-count.result in
    let now = λ (q : TallyKey). c.in_ok-insert.ensures.updates.0 q ∙ ap (λ b. cond b (Some (count + 1)) (get tally_cmp c.loop-item.counts q)) ((eq_by_cmp_equiv tally_total).symm key q) in
    record {
      counted = λ q. ap (λ (w : Option ℕ). unwrap_or w 0 + count_by (eq_by_cmp tally_cmp q) (map item_tally_key c.next.new.self)) (now q)
          ∙ raised (eq_by_cmp tally_cmp q key) (get tally_cmp c.loop-item.counts q) _ (count_by (eq_by_cmp tally_cmp q) (map item_tally_key c.next.new.self)) _ count (get tally_cmp c.loop-item.counts key)
          (c.unwrap_or-count.ensures ∙ ap (λ (w : Option ℕ). unwrap_or w 0) (c.copied.ensures ∙ c.get.ensures.value))
          (λ t. same_value_at tally_cmp tally_total q key t c.loop-item.counts)
          (count_more item_tally_key (eq_by_cmp tally_cmp q) c.in-Some.item.now key c.loop-item.item-iterator c.next.new.self c.in-Some.ensures.steps c.of_item-key.ensures) (c.loop-item.invariant.counted q);
      within = λ q. subst (λ (w : Option ℕ). unwrap_or w 0 ≤ c.args.limit) (sym (now q)) (bounded (eq_by_cmp tally_cmp q key) (get tally_cmp c.loop-item.counts q) count c.args.limit c.if-count-limit.false (c.loop-item.invariant.within q));
    }

pub returns : goal.returns
returns c = (
  (λ _ k. count_end item_tally_key (eq_by_cmp tally_cmp k) c.loop-item.item-iterator (unwrap_or (get tally_cmp c.loop-item.counts k) 0) _ c.args.limit (rest_all deref c.loop-item.item-iterator c.next.new.self c.next.result c.in-None.is c.next.ensures.steps) (c.loop-item.invariant.counted k) (c.loop-item.invariant.within k)),
  (λ _. refl),
)
