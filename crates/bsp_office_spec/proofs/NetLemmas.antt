-- The nets that ledgers give are those of all rows.
use Rattle.std.proofs.Common.{◌≡◌, ℕ, ℤ, ◌==◌, Bool, cond, List, [], ◌∷◌, map, refl, sym, ap, ap₂, ◌∙◌, Ordering}
use Rattle.std.specs.Cmp.{IsTotalOrder}
use Rattle.std.specs.FinMap.{FinMap, IsAntisymmetric, entries, values}
use Rattle.std.specs.List.{Contains, filter}
use Rattle.bsp_rows.proofs.ListLemmas.{contains_head, contains_tail}
use Rattle.bsp_rows.specs.RulesAmounts.{sum_of}
use Rattle.bsp_rows.specs.Item.{Item}
use Rattle.bsp_rows.specs.MemoFields.{MemoFields}
use Rattle.bsp_rows.specs.Nets.{agent_net, airline_net, net_of_rows}
use Rattle.bsp_rows.proofs.SideLemmas.{agents_side, airlines_side}
use Rattle.bsp_rows.specs.Part.{kept}
use Rattle.bsp_rows.specs.Rows.{Rows, key_of, memo_key}
use Rattle.bsp_rows.specs.Sound.{Sound}
use Rattle.bsp_rows.specs.declared.keys.ItemKey.{ItemKey}
use Rattle.bsp_rows.specs.declared.keys.MemoKey.{MemoKey}
use Rattle.bsp_rows.proofs.KeyOrders.{item_exact, item_total, memo_exact, memo_total}
use Rattle.bsp_rows.proofs.MapLemmas.{entry_get}
use Rattle.bsp_rows.proofs.PartLaws.{filter-map}
use Rattle.bsp_rows.proofs.PartLemmas.{kept_entries}
use Rattle.bsp_office_spec.specs.AirlineLedger.{airline_ledger_of}
use Rattle.bsp_office_spec.specs.Laws.{NetsAlwaysAddUp, airline_ledger_net, ledger_net}
use Rattle.bsp_office_spec.specs.Ledger.{ledger_of}
use Rattle.bsp_office_spec.proofs.Unchanged.{airline_items}

-- the values that a test of entries keeps, where each entry passes it as its value passes another
module _ {K X : Type 0} {R : K → K → Ordering} (o : IsTotalOrder R) (exact : IsAntisymmetric R) (test : K × X → Bool) (other : X → Bool) where
  same_filter : (es : List (K × X)) → ((e : K × X) → Contains es e → test e ≡ other e.1) → filter test es ≡ filter (λ e. other e.1) es
  same_filter [] same = refl
  same_filter (e ∷ es) same =
      ap₂ (λ (b : Bool) (l : List (K × X)). cond b (e ∷ l) l) (same e (contains_head e es)) (same_filter es (λ d among. same d (contains_tail e es d among)))

  kept_values : (m : FinMap R X) → ((e : K × X) → Contains (entries m) e → test e ≡ other e.1) → values (kept test m) ≡ filter other (values m)
  kept_values m same =
      ap (map (λ (e : K × X). e.1)) (kept_entries o exact test m ∙ same_filter (entries m) same) ∙ sym (filter-map other (λ (e : K × X). e.1) (entries m))

module _ (rows : Rows) (s : Sound rows) where
  item_is : (e : ItemKey × Item) → Contains (entries rows.items) e → key_of e.1 ≡ e.0
  item_is e among = (s.items.each e.0 e.1 (entry_get item_total item_exact rows.items e.0 e.1 among)).right.keyed

  memo_is : (e : MemoKey × MemoFields) → Contains (entries rows.memos) e → memo_key e.1 ≡ e.0
  memo_is e among = (s.memos.each e.0 e.1 (entry_get memo_total memo_exact rows.memos e.0 e.1 among)).keyed

  -- a ledger's net is that of all rows for its agent, or its airline
  pub agents_net : (code agent : ℕ) → ledger_net code (ledger_of agent rows) ≡ agent_net agent code (values rows.items) (values rows.memos)
  agents_net code agent =
      ap₂ (net_of_rows code)
      (kept_values item_total item_exact (λ (e : ItemKey × Item). e.0.agent == agent) (λ (i : Item). i.agent == agent) rows.items (λ e among. ap (λ (k : ItemKey). k.agent == agent) (sym (item_is e among))))
      (kept_values memo_total memo_exact (λ (e : MemoKey × MemoFields). e.1.agent == agent) (λ (m : MemoFields). m.agent == agent) rows.memos (λ e among. refl))

  pub airline_memos : (airline : ℕ) → values (airline_ledger_of airline rows).own.memos ≡ filter (λ m. m.airline == airline) (values rows.memos)
  airline_memos airline =
      kept_values memo_total memo_exact (λ (e : MemoKey × MemoFields). e.0.airline == airline) (λ (m : MemoFields). m.airline == airline) rows.memos (λ e among. ap (λ (k : MemoKey). k.airline == airline) (sym (memo_is e among)))

  pub airlines_net : (code airline : ℕ) → airline_ledger_net code (airline_ledger_of airline rows) ≡ airline_net airline code (values rows.items) (values rows.memos)
  airlines_net code airline = ap₂ (net_of_rows code) (airline_items airline rows) (airline_memos airline)

pub same_map : (f g : ℕ → ℤ) → ((n : ℕ) → f n ≡ g n) → (ns : List ℕ) → map f ns ≡ map g ns
same_map f g same [] = refl
same_map f g same (n ∷ ns) = ap₂ (λ (z : ℤ) (zs : List ℤ). z ∷ zs) (same n) (same_map f g same ns)

pub nets_add_up : NetsAlwaysAddUp
nets_add_up rows code s agents airlines once other_once have other_have =
    let items = values rows.items in
    let memos = values rows.memos in
    ap sum_of (same_map _ _ (agents_net rows s code) agents)
    ∙ (agents_side code items memos agents once have ∙ (sym (airlines_side code items memos airlines other_once other_have)
    ∙ sym (ap sum_of (same_map _ _ (airlines_net rows s code) airlines))))
