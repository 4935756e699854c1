-- What the tallies that are asked for post is what the rows that are shown post.
use Rattle.std.proofs.Common.{◌≡◌, ℕ, ◌==◌, ◌&&◌, Bool, true, false, List, ◌++◌, map, Option, Some, None, refl, sym, ap, ◌∙◌}
use Rattle.std.specs.List.{filter}
use Rattle.std.specs.FinMap.{values}
use Rattle.std.proofs.lemmas.List.Elements.{filter_agree, filter-append}
use Rattle.bsp_rows.specs.Owed.{is_billed_in, is_period}
use Rattle.bsp_rows.specs.MemoFields.{MemoFields}
use Rattle.bsp_statement.proofs.ListLemmas.{filter_filter}
use Rattle.bsp_statement.specs.Postings.{is_counted, is_document, is_of_agent, item_posting, item_postings, memo_posting, memo_postings, of_agent, postings}
use Rattle.bsp_statement.specs.declared.posting.Posting.{Posting}
use Rattle.bsp_rows.specs.Laws.{is_billing_asked, is_item_asked}
use Rattle.bsp_rows.specs.Part.{agent_part}
use Rattle.bsp_rows.specs.Rows.{Rows}
use Rattle.bsp_rows.specs.Sound.{Sound}
use Rattle.bsp_rows.specs.declared.questions.Tallies.{Tallies}
use Rattle.bsp_rows.specs.declared.questions.Tallies.TheVariants.{In, OfAgentIn}
use Rattle.bsp_rows.proofs.PartLaws.{filter-map}
use Rattle.bsp_rules.specs.declared.rows.Item.{Item}
use Rattle.bsp_desk.proofs.OwnRows.{own_items, own_memos}

-- ---- tests

in_again : (p l d : Bool) → (p && ((l && p) && d)) ≡ ((l && p) && d)
in_again true l d = refl
in_again false true d = refl
in_again false false d = refl

own_again : (a p l d : Bool) → ((a && p) && ((l && p) && d)) ≡ (a && ((l && p) && d))
own_again true p l d = in_again p l d
own_again false p l d = refl

twice : (p : Bool) → (p && p) ≡ p
twice true = refl
twice false = refl

own_twice : (a p : Bool) → ((a && p) && p) ≡ (a && p)
own_twice true p = twice p
own_twice false p = refl

neither : (a : Bool) → false ≡ (a && false)
neither true = refl
neither false = refl

abbrev billed_as : MemoFields → Option ℕ → MemoFields
billed_as m billed = record m { billed = billed }

billed_here : (code : ℕ) (m : MemoFields) (billed : Option ℕ) → (is_billing_asked (In code) (billed_as m billed) && is_period code billed) ≡ is_period code billed
billed_here code m None = refl
billed_here code m (Some period) = twice (period == code)

billed_to : (agent code : ℕ) (m : MemoFields) (billed : Option ℕ) → (is_billing_asked (OfAgentIn agent code) (billed_as m billed) && is_period code billed) ≡ ((m.agent == agent) && is_period code billed)
billed_to agent code m None = neither (m.agent == agent)
billed_to agent code m (Some period) = own_twice (m.agent == agent) (period == code)

-- ---- rows

-- a filter before another is one filter
module _ {X : Type 0} (asked : X → Bool) (own : X → Bool) (test : X → Bool) (same : (x : X) → (asked x && test x) ≡ (own x && test x)) where
  asked_alike : (xs : List X) → filter test (filter asked xs) ≡ filter test (filter own xs)
  asked_alike xs = filter_filter asked test xs ∙ (filter_agree _ _ same xs ∙ sym (filter_filter own test xs))

asked_all : {X : Type 0} (asked test : X → Bool) → ((x : X) → (asked x && test x) ≡ test x) → (xs : List X) → filter test (filter asked xs) ≡ filter test xs
asked_all asked test same xs = filter_filter asked test xs ∙ filter_agree _ _ same xs

own_still : {X : Type 0} (own test : X → Bool) (xs : List X) → filter own (filter test (filter own xs)) ≡ filter test (filter own xs)
own_still own test xs =
    ap (filter own) (filter_filter own test xs)
    ∙ (filter_filter (λ x. own x && test x) own xs
    ∙ (filter_agree _ _ (λ x. still (own x) (test x)) xs
    ∙ sym (filter_filter own test xs))) where
      still : (a c : Bool) → ((a && c) && a) ≡ (a && c)
      still true true = refl
      still true false = refl
      still false c = refl

both : (code : ℕ) (items others : List Item) (memos other_memos : List MemoFields) → filter (is_counted code) items ≡ filter (is_counted code) others → filter (is_billed_in code) memos ≡ filter (is_billed_in code) other_memos → postings code items memos ≡ postings code others other_memos
both code items others memos other_memos same also =
    ap (λ (is : List Item). map item_posting is ++ memo_postings code memos) same
    ∙ ap (λ (ms : List MemoFields). item_postings code others ++ map memo_posting ms) also

-- the rows under the tallies that are asked for
abbrev pub asked_items : Tallies → Rows → List Item
asked_items which rows = filter (is_item_asked which) (values rows.items)

abbrev pub asked_memos : Tallies → Rows → List MemoFields
asked_memos which rows = filter (is_billing_asked which) (values rows.memos)

module _ (code : ℕ) (rows : Rows) where
  pub all_posted : postings code (asked_items (In code) rows) (asked_memos (In code) rows) ≡ postings code (values rows.items) (values rows.memos)
  all_posted = both code (asked_items (In code) rows) (values rows.items) (asked_memos (In code) rows) (values rows.memos)
      (asked_all (is_item_asked (In code)) (is_counted code) (λ i. in_again (i.period == code) i.lives (is_document i.transaction.code)) (values rows.items))
      (asked_all (is_billing_asked (In code)) (is_billed_in code) (λ m. billed_here code m m.billed) (values rows.memos))

module _ (agent code : ℕ) (rows : Rows) (sound : Sound rows) where
  abbrev items : List Item
  items = values (agent_part agent rows).items

  abbrev memos : List MemoFields
  memos = values (agent_part agent rows).memos

  abbrev is_own : Item → Bool
  is_own i = i.agent == agent

  abbrev is_to : MemoFields → Bool
  is_to m = m.agent == agent

  pub own_posted : postings code (asked_items (OfAgentIn agent code) rows) (asked_memos (OfAgentIn agent code) rows) ≡ postings code items memos
  own_posted = both code (asked_items (OfAgentIn agent code) rows) items (asked_memos (OfAgentIn agent code) rows) memos
      (asked_alike (is_item_asked (OfAgentIn agent code)) is_own (is_counted code) (λ i. own_again (i.agent == agent) (i.period == code) i.lives (is_document i.transaction.code)) (values rows.items)
      ∙ ap (filter (is_counted code)) (sym (own_items agent rows sound)))
      (asked_alike (is_billing_asked (OfAgentIn agent code)) is_to (is_billed_in code) (λ m. billed_to agent code m m.billed) (values rows.memos)
      ∙ ap (filter (is_billed_in code)) (sym (own_memos agent rows)))

  of_own : {X : Type 0} (posting : X → Posting) (own test : X → Bool) → ((x : X) → is_of_agent agent (posting x) ≡ own x) → (mine all : List X) → mine ≡ filter own all → filter (is_of_agent agent) (map posting (filter test mine)) ≡ map posting (filter test mine)
  of_own posting own test is mine all same =
      filter-map (is_of_agent agent) posting (filter test mine)
      ∙ ap (map posting) (filter_agree _ _ is (filter test mine)
      ∙ (ap (λ xs. filter own (filter test xs)) same
      ∙ (own_still own test all ∙ ap (filter test) (sym same))))

  -- each is the agent's
  pub own_alone : of_agent agent (postings code items memos) ≡ postings code items memos
  own_alone =
      filter-append (is_of_agent agent) (item_postings code items) (memo_postings code memos)
      ∙ (ap (λ (ps : List Posting). ps ++ filter (is_of_agent agent) (memo_postings code memos)) (of_own item_posting is_own (is_counted code) (λ i. refl) items (values rows.items) (own_items agent rows sound))
      ∙ ap (λ (ps : List Posting). item_postings code items ++ ps) (of_own memo_posting is_to (is_billed_in code) (λ m. refl) memos (values rows.memos) (own_memos agent rows)))
