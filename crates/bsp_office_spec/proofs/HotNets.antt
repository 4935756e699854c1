-- The net of the totals of an airline's HOT file is that of its ledger.
use Rattle.std.proofs.Common.{◌≡◌, ℕ, ◌==◌, ◌&&◌, ◌||◌, Bool, true, false, cond, List, [], ◌∷◌, ◌++◌, map, Some, refl, sym, ap, ap₂, subst, ◌∙◌, pos}
use Rattle.std.specs.FinMap.{entries as entries_of, values}
use Rattle.std.specs.List.{Contains, filter}
use Rattle.std.proofs.lemmas.Bool.{and_parts, both_ways, eqb-true}
use Rattle.std.proofs.lemmas.List.Elements.{All-contains_itself}
use Rattle.bsp_rows.specs.Item.{Item}
use Rattle.bsp_rows.specs.MemoFields.{MemoFields}
use Rattle.bsp_rows.specs.Nets.{airline_net, net_of_rows}
use Rattle.bsp_rows.specs.Owed.{is_billed_in}
use Rattle.bsp_rows.specs.Period.{Period}
use Rattle.bsp_rows.specs.Published.{closed_period, is_closed, is_taxed, period_of}
use Rattle.bsp_rows.specs.Rows.{Rows, is_in}
use Rattle.bsp_rows.specs.RulesRows.{is_canx}
use Rattle.bsp_rows.specs.Sound.{Sound}
use Rattle.bsp_rows.specs.declared.keys.ItemKey.{ItemKey}
use Rattle.bsp_rows.proofs.KeyOrders.{item_exact, item_total}
use Rattle.bsp_rows.proofs.ListLemmas.{filter_contains, filter_holds}
use Rattle.bsp_rows.proofs.MapLemmas.{entry_get}
use Rattle.bsp_rows.proofs.RowLemmas.{contains_map}
use Rattle.bsp_rows.proofs.TaxTies.{untaxed_item}
use Rattle.bsp_hot_check.specs.FileForm.TheVariants.{One, Two}
use Rattle.bsp_hot_check.specs.Hot.{File, records_of}
use Rattle.bsp_hot.specs.Files.{AreTaxedAs, IsInOrder, form_of, net_of_records}
use Rattle.bsp_hot.specs.Rows.{Entry, entries, is_billed, is_reported, memo_entry, row_entry}
use Rattle.bsp_hot.proofs.NetLemmas.{net_over_rows}
use Rattle.bsp_office_spec.specs.AirlineLedger.{airline_ledger_of, hot_rows}
use Rattle.bsp_office_spec.specs.Laws.{HotFilesShowNets, airline_ledger_net}
use Rattle.bsp_office_spec.specs.Texts.{hot_entries}
use Rattle.bsp_office_spec.proofs.ClosedKept.{closed_of}
use Rattle.bsp_office_spec.proofs.NetLemmas.{airline_memos}
use Rattle.bsp_office_spec.proofs.Reports.{code_of}
use Rattle.bsp_office_spec.proofs.Unchanged.{airline_items}

-- ---- lists that are narrowed twice

module _ {X : Type 0} (p q : X → Bool) (within : (x : X) → p x ≡ true → q x ≡ true) where
  fails : (x : X) → q x ≡ false → (b : Bool) → p x ≡ b → p x ≡ false
  fails x h true is = absurd (both_ways (q x) h (within x is))
  fails x h false is = is

  narrow_step : (x : X) (xs : List X) → filter p (filter q xs) ≡ filter p xs → (b : Bool) → q x ≡ b → filter p (cond b (x ∷ filter q xs) (filter q xs)) ≡ filter p (x ∷ xs)
  narrow_step x xs rest true is = ap (λ (ys : List X). cond (p x) (x ∷ ys) ys) rest
  narrow_step x xs rest false is = rest ∙ sym (ap (λ (b : Bool). cond b (x ∷ filter p xs) (filter p xs)) (fails x is (p x) refl))

  -- what passes p is among what passes q
  narrowed : (xs : List X) → filter p (filter q xs) ≡ filter p xs
  narrowed [] = refl
  narrowed (x ∷ xs) = narrow_step x xs (narrowed xs) (q x) refl

module _ (rows : Rows) (airline code : ℕ) (q : Period) (s : Sound rows) (is : closed_period rows.published code ≡ Some q) where
  abbrev items : List Item
  items = values (airline_ledger_of airline rows).own.items

  abbrev memos : List MemoFields
  memos = values (airline_ledger_of airline rows).own.memos

  abbrev bears : Item → Bool
  bears i = i.transaction.document.airline == airline

  abbrev is_from : MemoFields → Bool
  is_from m = m.airline == airline

  there : period_of rows.published code ≡ Some q
  there = (closed_of (is_closed rows.published code) (period_of rows.published code) q is).1

  same_code : q.code ≡ code
  same_code = eqb-true q.code code (code_of (λ n. n == code) rows.published.periods q there)

  -- ---- the rows of the file

  reported_in : (i : Item) → is_reported airline q.code i ≡ true → is_in q.code i ≡ true
  reported_in i h = (and_parts (bears i) (i.period == q.code) (and_parts (bears i && (i.period == q.code)) (is_canx i || i.lives) h).0).1

  billed_in : (m : MemoFields) → is_billed airline q.code m ≡ true → is_billed_in q.code m ≡ true
  billed_in m h = (and_parts (is_from m) (is_billed_in q.code m) h).1

  -- they are those of all rows of the ledger
  same_entries : hot_entries airline (hot_rows (airline_ledger_of airline rows) q) ≡ entries airline q.code items memos
  same_entries =
      ap₂ (λ (is : List Item) (ms : List MemoFields). map row_entry is ++ map memo_entry ms)
      (narrowed (is_reported airline q.code) (is_in q.code) reported_in items)
      (narrowed (is_billed airline q.code) (is_billed_in q.code) billed_in memos)

  -- ---- their tax in form 1

  untaxed : is_taxed rows.published q ≡ false → (i : Item) → Contains (filter (is_reported airline q.code) items) i → i.tax ≡ pos 0
  untaxed form i among =
      let own = filter_contains (is_reported airline q.code) items i among in
      let all = filter_contains bears (values rows.items) i (subst (λ (xs : List Item). Contains xs i) (airline_items airline rows) own) in
      let (e, in', same) = contains_map (λ (x : ItemKey × Item). x.1) (entries_of rows.items) i all in
      let at = entry_get item_total item_exact rows.items e.0 e.1 in' ∙ ap (λ (x : Item). Some x) same in
      let sound = s.items.each e.0 i at in
      let period : i.period ≡ code = eqb-true i.period q.code (reported_in i (filter_holds (is_reported airline q.code) items i among)) ∙ same_code in
      (untaxed_item rows.published rows.items e.0 i q sound.in_time sound.taxed (ap (period_of rows.published) period ∙ there) form).1

  taxed_as : (b : Bool) → is_taxed rows.published q ≡ b → AreTaxedAs (cond b Two One) (filter (is_reported airline q.code) items)
  taxed_as true h = tt
  taxed_as false h = λ k d below. untaxed h _ (All-contains_itself (filter (is_reported airline q.code) items) k d below)

  -- ---- the net

  own_items : filter bears items ≡ items
  own_items = ap (filter bears) (airline_items airline rows) ∙ (narrowed bears bears (λ i h. h) (values rows.items) ∙ sym (airline_items airline rows))

  own_memos : filter is_from memos ≡ memos
  own_memos = ap (filter is_from) (airline_memos rows s airline) ∙ (narrowed is_from is_from (λ m h. h) (values rows.memos) ∙ sym (airline_memos rows s airline))

  own_net : airline_net airline q.code items memos ≡ airline_ledger_net code (airline_ledger_of airline rows)
  own_net = ap₂ (net_of_rows q.code) own_items own_memos ∙ ap (λ (n : ℕ). net_of_rows n items memos) same_code

pub hot_files_show : HotFilesShowNets
hot_files_show rows airline code q text s is shown =
    let made = shown.2 in
    let in_order = subst (λ (es : List Entry). IsInOrder es made.over.sorted) (same_entries rows airline code q s is) made.over.in_order in
    made.net
    ∙ (ap (λ (f : File). net_of_records (records_of f)) made.over.file_is
    ∙ (net_over_rows (form_of rows.published q) airline q.code (items rows airline code q s is) (memos rows airline code q s is) q shown.0.currency made.over.sorted (taxed_as rows airline code q s is (is_taxed rows.published q) refl) in_order
    ∙ own_net rows airline code q s is))
