-- What is looked up for an agent or an airline, by its part of the rows.
use Rattle.std.proofs.Common.{◌≡◌, ℕ, ◌==◌, Bool, true, false, cond, List, [], ◌∷◌, map, refl, sym, ap, ◌∙◌}
use Rattle.std.specs.List.{filter}
use Rattle.std.specs.declared.cmp.Ordering.{Ordering}
use Rattle.std.specs.Cmp.{IsTotalOrder}
use Rattle.std.specs.FinMap.{FinMap, IsAntisymmetric, entries, values}
use Rattle.bsp_rules.specs.Selected.{selected}
use Rattle.bsp_rules.specs.declared.rows.Item.{Item}
use Rattle.bsp_memos.specs.declared.fields.MemoFields.{MemoFields}
use Rattle.bsp_memos.specs.Owed.{is_billed_in}
use Rattle.bsp_statement.proofs.ListLemmas.{filter_filter}
use Rattle.bsp_rows.specs.Laws.{AgentPartIsEnough, AirlinePartIsEnough}
use Rattle.bsp_rows.specs.Part.{AgentPart, AirlinePart, agent_part, airline_part, kept}
use Rattle.bsp_rows.specs.Rows.{Rows, agent_items, airline_memos, is_in, is_of_airline, range_of, ranges_of}
use Rattle.bsp_rows.specs.declared.keys.ItemKey.{ItemKey}
use Rattle.bsp_rows.specs.declared.keys.MemoKey.{MemoKey}
use Rattle.bsp_rows.specs.declared.keys.RangeKey.{RangeKey}
use Rattle.bsp_rows.proofs.KeyOrders.{item_total, item_exact, memo_total, memo_exact, range_total, range_exact}
use Rattle.bsp_rows.proofs.PartLemmas.{kept_entries}

pub filter-map : {A B : Type 0} (p : B → Bool) (f : A → B) (xs : List A) → filter p (map f xs) ≡ map f (filter (λ x. p (f x)) xs)
filter-map p f [] = refl
filter-map p f (x ∷ xs) =
    elim (p (f x)) as (λ b. cond b (f x ∷ filter p (map f xs)) (filter p (map f xs)) ≡ map f (cond b (x ∷ filter (λ y. p (f y)) xs) (filter (λ y. p (f y)) xs)))
    [ true ↦ ap (λ l. f x ∷ l) (filter-map p f xs) | false ↦ filter-map p f xs ]

module _ {K X : Type 0} {R : K → K → Ordering} (o : IsTotalOrder R) (exact : IsAntisymmetric R) where
  -- the values of the entries that pass are those that are kept
  values_kept : (test : K × X → Bool) (m : FinMap R X) → map (λ e. e.1) (filter test (entries m)) ≡ values (kept test m)
  values_kept test m = ap (map (λ (e : K × X). e.1)) (sym (kept_entries o exact test m))

  -- the same of a test of values
  by_value : (test : X → Bool) (m : FinMap R X) → filter test (values m) ≡ values (kept (λ e. test e.1) m)
  by_value test m = filter-map test (λ (e : K × X). e.1) (entries m) ∙ values_kept (λ e. test e.1) m

-- ---- an agent

own_ranges : (agent : ℕ) (rows : Rows) → ranges_of agent rows ≡ map range_of (entries (agent_part agent rows).ranges)
own_ranges agent rows = ap (map range_of) (sym (kept_entries range_total range_exact (λ (e : RangeKey × ℕ). e.0.agent == agent) rows.ranges))

own_items : (agent : ℕ) (rows : Rows) → agent_items agent rows ≡ values (agent_part agent rows).items
own_items agent rows = values_kept item_total item_exact (λ (e : ItemKey × Item). e.0.agent == agent) rows.items

own_memos : (agent : ℕ) (rows : Rows) → filter (λ m. m.agent == agent) (values rows.memos) ≡ values (agent_part agent rows).memos
own_memos agent rows = by_value memo_total memo_exact (λ (m : MemoFields). m.agent == agent) rows.memos

pub agent_enough : AgentPartIsEnough
agent_enough agent rows others same =
    let items : agent_items agent rows ≡ agent_items agent others = own_items agent rows ∙ (ap (λ (p : AgentPart). values p.items) same ∙ sym (own_items agent others)) in
    record {
      token = ap (λ (p : AgentPart). p.token) same;
      ranges = own_ranges agent rows ∙ (ap (λ (p : AgentPart). map range_of (entries p.ranges)) same ∙ sym (own_ranges agent others));
      items = items;
      in_period = λ period. ap (filter (is_in period)) items;
      bearing = λ t. ap (selected t) items;
      memos = own_memos agent rows ∙ (ap (λ (p : AgentPart). values p.memos) same ∙ sym (own_memos agent others));
    }

-- ---- an airline

bearing_items : (airline period : ℕ) (rows : Rows) → filter (is_of_airline airline period) (values rows.items) ≡ filter (is_in period) (values (airline_part airline rows).items)
bearing_items airline period rows =
    sym (filter_filter (λ (i : Item). i.transaction.document.airline == airline) (is_in period) (values rows.items))
    ∙ ap (filter (is_in period)) (by_value item_total item_exact (λ (i : Item). i.transaction.document.airline == airline) rows.items)

issued_memos : (airline : ℕ) (rows : Rows) → airline_memos airline rows ≡ values (airline_part airline rows).memos
issued_memos airline rows = values_kept memo_total memo_exact (λ (e : MemoKey × MemoFields). e.0.airline == airline) rows.memos

pub airline_enough : AirlinePartIsEnough
airline_enough airline rows others same =
    let memos : airline_memos airline rows ≡ airline_memos airline others = issued_memos airline rows ∙ (ap (λ (p : AirlinePart). values p.memos) same ∙ sym (issued_memos airline others)) in
    record {
      token = ap (λ (p : AirlinePart). p.token) same;
      items = λ period. bearing_items airline period rows ∙ (ap (λ (p : AirlinePart). filter (is_in period) (values p.items)) same ∙ sym (bearing_items airline period others));
      memos = memos;
      billed = λ period. ap (filter (is_billed_in period)) memos;
    }
