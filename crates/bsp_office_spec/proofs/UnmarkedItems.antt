-- What lives in a ledger follows from its items.
use Rattle.std.proofs.Common.{◌≡◌, ℕ, ◌==◌, ◌&&◌, ◌||◌, not, Bool, true, false, List, Option, Some, None, is_some, refl, sym, ap, subst, ◌∙◌}
use Rattle.std.specs.List.{Contains, filter}
use Rattle.std.specs.FinMap.{get, entries, values}
use Rattle.std.proofs.lemmas.Bool.{and_from, and_parts}
use Rattle.std.proofs.lemmas.Slice.Eq.{bytes_eq-Decides}
use Rattle.std.proofs.lemmas.Map.Made.{Contains-values_of}
use Rattle.bsp_rows.specs.Decimal.{number_of}
use Rattle.bsp_rows.specs.Item.{Item}
use Rattle.bsp_rows.specs.Part.{kept}
use Rattle.bsp_rows.specs.Rows.{Rows, canx_of}
use Rattle.bsp_rows.specs.RulesRows.{cancelled, has_number, is_canx}
use Rattle.bsp_rows.specs.Sound.{Sound}
use Rattle.bsp_rows.specs.declared.keys.ItemKey.{ItemKey}
use Rattle.bsp_rows.proofs.DocumentLemmas.{one_number}
use Rattle.bsp_rows.proofs.KeyOrders.{item_exact, item_total}
use Rattle.bsp_rows.proofs.ListLemmas.{contains_filter, filter_contains, filter_holds}
use Rattle.bsp_rows.proofs.ListedLemmas.{any_contains, contains_any}
use Rattle.bsp_rows.proofs.MapLemmas.{entry_get, get_entry}
use Rattle.bsp_rows.proofs.PartLemmas.{kept_entries}
use Rattle.bsp_rows.proofs.RowLemmas.{contains_map}
use Rattle.bsp_office_spec.specs.AirlineLedger.{airline_ledger_of}
use Rattle.bsp_office_spec.specs.Ledger.{ledger_of}
use Rattle.bsp_office_spec.specs.Unmarked.{LiveByTheList}
use Rattle.bsp_office_spec.proofs.Held.{one_owner}

-- of the rows that pass a test, where the CANX of a number passes it with what it ends
module _ (rows : Rows) (s : Sound rows) (test : ItemKey × Item → Bool) (closed : (k : ItemKey) (i j : Item) → get rows.items k ≡ Some i → get rows.items (canx_of k) ≡ Some j → test (k, i) ≡ true → test (canx_of k, j) ≡ true) where
  abbrev mine : List Item
  mine = values (kept test rows.items)

  held : (i : Item) → Contains mine i → (k : ItemKey) × (get rows.items k ≡ Some i) × (test (k, i) ≡ true)
  held i h =
      let ((k, j), in', e) = contains_map (λ (x : ItemKey × Item). x.1) (entries (kept test rows.items)) i h in
      let at : Contains (filter test (entries rows.items)) (k, j) = subst (λ (es : List (ItemKey × Item)). Contains es (k, j)) (kept_entries item_total item_exact test rows.items) in' in
      let there = entry_get item_total item_exact rows.items k j (filter_contains test (entries rows.items) (k, j) at) in
      (k, there ∙ ap (λ (x : Item). Some x) e, subst (λ (x : Item). test (k, x) ≡ true) e (filter_holds test (entries rows.items) (k, j) at))

  among : (k : ItemKey) (i : Item) → get rows.items k ≡ Some i → test (k, i) ≡ true → Contains mine i
  among k i there passes =
      Contains-values_of (entries (kept test rows.items)) k i
      (subst (λ (es : List (ItemKey × Item)). Contains es (k, i)) (sym (kept_entries item_total item_exact test rows.items))
      (contains_filter test (entries rows.items) (k, i) (get_entry item_total item_exact rows.items k i there) passes))

  -- a CANX of the list with the number is at the key of the number's CANX
  at_canx : (k : ItemKey) (i j : Item) → get rows.items k ≡ Some i → Contains mine j → (has_number i.transaction.document.number j && is_canx j) ≡ true → get rows.items (canx_of k) ≡ Some j
  at_canx k i j at in' passed =
      let (l, there, own) = held j in' in
      let both = and_parts (has_number i.transaction.document.number j) (is_canx j) passed in
      let mine_is = (s.items.each k i at).right.keyed in
      let its = (s.items.each l j there).right.keyed in
      let text : j.transaction.document.number ≡ i.transaction.document.number = (bytes_eq-Decides _ _).0 both.0 in
      let numbers : k.number ≡ l.number = sym (ap (λ (x : ItemKey). x.number) mine_is) ∙ (ap number_of (sym text) ∙ ap (λ (x : ItemKey). x.number) its) in
      let agents : k.agent ≡ l.agent = one_owner rows k l i j s at there numbers in
      let canx : true ≡ l.is_canx = sym both.1 ∙ ap (λ (x : ItemKey). x.is_canx) its in
      let key : canx_of k ≡ l = λ n. record { agent = agents n; number = numbers n; is_canx = canx n } in
      ap (get rows.items) key ∙ there

  none_found : (k : ItemKey) (i : Item) → get rows.items k ≡ Some i → get rows.items (canx_of k) ≡ None → (b : Bool) → cancelled i.transaction.document.number mine ≡ b → b ≡ false
  none_found k i at is false h = refl
  none_found k i at is true h =
      let (j, in', passed) = contains_any (λ x. has_number i.transaction.document.number x && is_canx x) mine h in
      let both : None ≡ Some j = sym is ∙ at_canx k i j at in' passed in
      absurd (cc both)

  found : (k : ItemKey) (i : Item) → get rows.items k ≡ Some i → test (k, i) ≡ true → (o : Option Item) → get rows.items (canx_of k) ≡ o → is_some o ≡ cancelled i.transaction.document.number mine
  found k i at passes None is = sym (none_found k i at is (cancelled i.transaction.document.number mine) refl)
  found k i at passes (Some j) is =
      let right = (s.items.each (canx_of k) j is).right in
      let own = (s.items.each k i at).right in
      let text : j.transaction.document.number ≡ i.transaction.document.number = one_number _ _ _ _ _ _ right.numbered own.numbered (ap (λ (x : ItemKey). x.number) right.keyed ∙ sym (ap (λ (x : ItemKey). x.number) own.keyed)) in
      let passed = and_from (has_number i.transaction.document.number j) (is_canx j) ((bytes_eq-Decides _ _).1 text) (ap (λ (x : ItemKey). x.is_canx) right.keyed) in
      sym (any_contains (λ x. has_number i.transaction.document.number x && is_canx x) mine j (among (canx_of k) j is (closed k i j at is passes)) passed)

  live : LiveByTheList mine
  live i h =
      let (k, at, passes) = held i h in
      let item = s.items.each k i at in
      item.tied.lives
      ∙ (ap (λ b. b || not (is_some (get rows.items (canx_of k)))) (sym (ap (λ (x : ItemKey). x.is_canx) item.right.keyed))
      ∙ ap (λ b. is_canx i || not b) (found k i at passes (get rows.items (canx_of k)) refl))

pub agent_live : (agent : ℕ) (rows : Rows) → Sound rows → LiveByTheList (values (ledger_of agent rows).own.items)
agent_live agent rows s = live rows s (λ e. e.0.agent == agent) (λ k i j at is p. p)

-- a CANX bears the airline of what it ends
pub airline_live : (airline : ℕ) (rows : Rows) → Sound rows → LiveByTheList (values (airline_ledger_of airline rows).own.items)
airline_live airline rows s =
    live rows s (λ e. e.1.transaction.document.airline == airline) (λ k i j at is p. ap (λ (n : ℕ). n == airline) ((s.items.each k i at).tied.cancelled j is) ∙ p)
