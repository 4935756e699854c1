-- The nets of postings are the nets of the rows.
use Rattle.std.proofs.Common.{◌≡◌, ℕ, refl, ap, ◌∙◌, sym, Bool, true, false, ◌&&◌, List, [], ◌∷◌, map, arith, fold, cond}
use Rattle.std.specs.Prelude.{ℤ, pos, ◌+ℤ◌, ◌-ℤ◌}
use Rattle.std.specs.List.{filter}
use Rattle.std.proofs.lemmas.Int.{ints}
use Rattle.std.proofs.lemmas.List.Elements.{filter-append}
use Rattle.bsp_ret_records.specs.declared.codes.TransactionCode.{TransactionCode}
use Rattle.bsp_ret_records.specs.declared.codes.TransactionCode.TheVariants.{Tktt, Rfnd, Canx}
use Rattle.bsp_rules.specs.Amounts.{sum_of, amount_or_zero, commission_amount, net_of}
use Rattle.bsp_rules.specs.Nets.{lives_in, living_net}
use Rattle.bsp_rules.specs.declared.rows.Item.{Item}
use Rattle.bsp_memos.specs.declared.fields.MemoFields.{MemoFields}
use Rattle.bsp_memos.specs.Owed.{amount_owed, is_billed_in}
use Rattle.bsp_statement.specs.declared.posting.Posting.{Posting}
use Rattle.bsp_statement.specs.Postings.{is_document, is_counted, item_posting, memo_posting, item_postings, memo_postings, postings, is_of_agent, is_of_airline, of_agent, of_airline}
use Rattle.bsp_statement.specs.Nets.{net_of_postings, net_of_rows, agent_net, airline_net}
use Rattle.bsp_statement.proofs.SumLemmas.{sums, sums-append, sums_agree, sums-filter, sums-map}

abbrev pub net_of_posting : Posting → ℤ
net_of_posting p = ((p.cash -ℤ p.commission) -ℤ p.tax) +ℤ p.memos

-- one more of each: the net stays cash less commission less tax plus memos
net_more : (a b c d x y z w : ℤ) → (((a -ℤ b) -ℤ c) +ℤ d) +ℤ (((x -ℤ y) -ℤ z) +ℤ w) ≡ (((a +ℤ x) -ℤ (b +ℤ y)) -ℤ (c +ℤ z)) +ℤ (d +ℤ w)
net_more a b c d x y z w = omega (arith, ints)

pub net_folded : (a b c d : ℤ) (rows : List Posting) → fold ◌+ℤ◌ (((a -ℤ b) -ℤ c) +ℤ d) (map net_of_posting rows) ≡ ((fold ◌+ℤ◌ a (map (λ p. p.cash) rows) -ℤ fold ◌+ℤ◌ b (map (λ p. p.commission) rows)) -ℤ fold ◌+ℤ◌ c (map (λ p. p.tax) rows)) +ℤ fold ◌+ℤ◌ d (map (λ p. p.memos) rows)
net_folded a b c d [] = refl
net_folded a b c d (p ∷ rows) =
    ap (λ (start : ℤ). fold ◌+ℤ◌ start (map net_of_posting rows)) (net_more a b c d p.cash p.commission p.tax p.memos)
    ∙ net_folded (a +ℤ p.cash) (b +ℤ p.commission) (c +ℤ p.tax) (d +ℤ p.memos) rows

-- the net of postings is the sum of their nets
pub net_is_sum : (rows : List Posting) → net_of_postings rows ≡ sum_of (map net_of_posting rows)
net_is_sum rows = sym (net_folded (pos 0) (pos 0) (pos 0) (pos 0) rows)

no_memos : (x : ℤ) → x +ℤ pos 0 ≡ x
no_memos x = omega (arith, ints)

memos_alone : (x : ℤ) → ((pos 0 -ℤ pos 0) -ℤ pos 0) +ℤ x ≡ x
memos_alone x = omega (arith, ints)

-- an item, by the test of its side, by whether it lives in the period and by its code
item_agrees : (own lives : Bool) (i : Item) (code : TransactionCode) →
    cond (lives && is_document code) (cond own (((amount_or_zero i.transaction.cash -ℤ commission_amount i.transaction.amounts) -ℤ i.tax) +ℤ pos 0) (pos 0)) (pos 0)
    ≡ cond own (cond lives (net_of (record i { transaction = record i.transaction { code = code } })) (pos 0)) (pos 0)
item_agrees true true i Tktt = no_memos ((amount_or_zero i.transaction.cash -ℤ commission_amount i.transaction.amounts) -ℤ i.tax)
item_agrees true true i Rfnd = no_memos ((amount_or_zero i.transaction.cash -ℤ commission_amount i.transaction.amounts) -ℤ i.tax)
item_agrees true true i Canx = refl
item_agrees true false i code = refl
item_agrees false true i Tktt = refl
item_agrees false true i Rfnd = refl
item_agrees false true i Canx = refl
item_agrees false false i code = refl

memo_agrees : (own billed : Bool) (x : ℤ) → cond billed (cond own (((pos 0 -ℤ pos 0) -ℤ pos 0) +ℤ x) (pos 0)) (pos 0) ≡ cond own (cond billed x (pos 0)) (pos 0)
memo_agrees true true x = memos_alone x
memo_agrees true false x = refl
memo_agrees false true x = refl
memo_agrees false false x = refl

-- two filters, one after the other, count what passes both
twice : {R : Type 0} (f : R → ℤ) (first second : R → Bool) (rows : List R) → sums f (filter second (filter first rows)) ≡ sums (λ r. cond (first r) (cond (second r) (f r) (pos 0)) (pos 0)) rows
twice f first second rows = sums-filter f second (filter first rows) ∙ sums-filter (λ r. cond (second r) (f r) (pos 0)) first rows

module _ (own : Posting → Bool) (period : ℕ) where
  through : {R : Type 0} (posting : R → Posting) (counted : R → Bool) (rows : List R) → sums net_of_posting (filter own (map posting (filter counted rows))) ≡ sums (λ r. cond (counted r) (cond (own (posting r)) (net_of_posting (posting r)) (pos 0)) (pos 0)) rows
  through posting counted rows =
      sums-filter net_of_posting own (map posting (filter counted rows))
      ∙ sums-map (λ p. cond (own p) (net_of_posting p) (pos 0)) posting (filter counted rows)
      ∙ sums-filter (λ r. cond (own (posting r)) (net_of_posting (posting r)) (pos 0)) counted rows

  items_net : (items : List Item) → sums net_of_posting (filter own (item_postings period items)) ≡ living_net period (filter (λ i. own (item_posting i)) items)
  items_net items =
      through item_posting (is_counted period) items
      ∙ sums_agree _ _ (λ i. item_agrees (own (item_posting i)) (lives_in period i) i i.transaction.code) items
      ∙ sym (twice net_of (λ i. own (item_posting i)) (lives_in period) items)

  memos_net : (memos : List MemoFields) → sums net_of_posting (filter own (memo_postings period memos)) ≡ sums (λ m. amount_owed m.kind m.amount) (filter (is_billed_in period) (filter (λ m. own (memo_posting m)) memos))
  memos_net memos =
      through memo_posting (is_billed_in period) memos
      ∙ sums_agree _ _ (λ m. memo_agrees (own (memo_posting m)) (is_billed_in period m) (amount_owed m.kind m.amount)) memos
      ∙ sym (twice (λ m. amount_owed m.kind m.amount) (λ m. own (memo_posting m)) (is_billed_in period) memos)

  pub own_net : (items : List Item) (memos : List MemoFields) → net_of_postings (filter own (postings period items memos)) ≡ net_of_rows period (filter (λ i. own (item_posting i)) items) (filter (λ m. own (memo_posting m)) memos)
  own_net items memos =
      net_is_sum (filter own (postings period items memos))
      ∙ ap (λ (rows : List Posting). sums net_of_posting rows) (filter-append own (item_postings period items) (memo_postings period memos))
      ∙ sums-append net_of_posting (filter own (item_postings period items)) (filter own (memo_postings period memos))
      ∙ ap (λ (x : ℤ). x +ℤ sums net_of_posting (filter own (memo_postings period memos))) (items_net items)
      ∙ ap (λ (x : ℤ). living_net period (filter (λ i. own (item_posting i)) items) +ℤ x) (memos_net memos)

pub agent_net_is : (agent period : ℕ) (items : List Item) (memos : List MemoFields) → net_of_postings (of_agent agent (postings period items memos)) ≡ agent_net agent period items memos
agent_net_is agent period items memos = own_net (is_of_agent agent) period items memos

pub airline_net_is : (airline period : ℕ) (items : List Item) (memos : List MemoFields) → net_of_postings (of_airline airline (postings period items memos)) ≡ airline_net airline period items memos
airline_net_is airline period items memos = own_net (is_of_airline airline) period items memos
