-- What is shown of an agent's period, by the tallies of the agent in it.
use Rattle.std.proofs.Common.{◌≡◌, ℕ, ◌==◌, Bool, true, List, [], ◌∷◌, length, map, count_by, Option, Some, None, option_map, refl, sym, ap, subst, ◌∙◌, arith}
use Rattle.std.specs.FinMap.{values}
use Rattle.std.specs.List.{filter, sum_by}
use Rattle.std.specs.Prelude.{ℤ}
use Rattle.std.proofs.lemmas.Bool.{eqb-true}
use Rattle.std.proofs.lemmas.List.Sums.{length-filter, sum_by-append, sum_by-cons}
use Rattle.bsp_rows.proofs.ListLemmas.{find_contains}
use Rattle.bsp_rows.specs.Published.{Published, is_closed, period_of}
use Rattle.bsp_rows.specs.Period.{Period}
use Rattle.bsp_rows.specs.Owed.{is_billed_in}
use Rattle.bsp_rows.specs.MemoFields.{MemoFields}
use Rattle.bsp_messages.specs.Values.{period_in}
use Rattle.bsp_messages.specs.declared.answer.Answer.TheVariants as message
use Rattle.bsp_messages.specs.declared.answer.PeriodShown.{PeriodShown}
use Rattle.bsp_statement.proofs.ListLemmas.{filter_all}
use Rattle.bsp_statement.proofs.SideLemmas.{all_net}
use Rattle.bsp_statement.specs.Nets.{net_of_rows}
use Rattle.bsp_statement.specs.Postings.{is_counted, item_posting, item_postings, memo_posting, memo_postings, postings}
use Rattle.bsp_statement.specs.Tallies.{AreTallies, is_under, tally_postings}
use Rattle.bsp_statement.specs.declared.posting.Posting.{Posting}
use Rattle.bsp_statement.specs.declared.tally.Tally.{Tally}
use Rattle.bsp_rows.proofs.AskedTallies.{asked_tallies}
use Rattle.bsp_rows.proofs.MapLemmas.{same_Some}
use Rattle.bsp_rows.specs.Rows.{Rows}
use Rattle.bsp_rows.specs.Sound.{Sound}
use Rattle.bsp_rows.specs.Tallies.{tallies_of}
use Rattle.bsp_rows.specs.declared.questions.Tallies.TheVariants.{OfAgentIn}
use Rattle.bsp_rules.specs.declared.rows.Item.{Item}
use Rattle.bsp_statement.proofs.TallyFigures.{own_figures}
use Rattle.bsp_statement.specs.Sums.{figures_of}
use Rattle.bsp_desk_sales.specs.Ledger.{ledger_answer, ledger_of, period_answer, period_shown}
use Rattle.bsp_desk_sales.specs.Requests.AgentRequest.{AskPeriod}
use Rattle.bsp_desk_sales.specs.Texts.{Says}
use Rattle.bsp_desk.specs.Sums.{shown_over}
use Rattle.bsp_desk.proofs.PeriodRows.{asked_items, asked_memos, own_posted}

-- ---- the documents that rows post

of_items : (xs : List Item) → sum_by (λ p. p.documents) (map item_posting xs) ≡ length xs
of_items [] = refl
of_items (x ∷ xs) =
    let e = sum_by-cons (λ (p : Posting). p.documents) (item_posting x) (map item_posting xs) in
    let rest = of_items xs in
    omega (arith, e, rest)

of_memos : (xs : List MemoFields) → sum_by (λ p. p.documents) (map memo_posting xs) ≡ 0
of_memos [] = refl
of_memos (x ∷ xs) =
    let e = sum_by-cons (λ (p : Posting). p.documents) (memo_posting x) (map memo_posting xs) in
    let rest = of_memos xs in
    omega (arith, e, rest)

documents_of : (code : ℕ) (items : List Item) (memos : List MemoFields) → sum_by (λ p. p.documents) (postings code items memos) ≡ count_by (is_counted code) items
documents_of code items memos =
    let both = sum_by-append (λ (p : Posting). p.documents) (item_postings code items) (memo_postings code memos) in
    let first = of_items (filter (is_counted code) items) in
    let second = of_memos (filter (is_billed_in code) memos) in
    let counted = length-filter (is_counted code) items in
    omega (arith, both, first, second, counted)

-- ---- tallies

abbrev pub shown_as : Bool → ℕ → ℤ → ℕ → PeriodShown
shown_as closed documents net code = record { closed = closed; documents = documents; net = net; period = code }

module _ (items : List Item) (memos : List MemoFields) (tallies : List Tally) (are : AreTallies items memos tallies) (code : ℕ) where
  alike : (t : Tally) (p : Posting) → is_under t p ≡ true → true ≡ true
  alike t p below = refl

  same_figures : figures_of (tally_postings code tallies) ≡ figures_of (postings code items memos)
  same_figures =
      ap figures_of (sym (filter_all (tally_postings code tallies)))
      ∙ (own_figures items memos tallies are code (λ p. true) alike
      ∙ ap figures_of (filter_all (postings code items memos)))

  by_rows : (closed : Bool) → shown_over closed code (tally_postings code tallies) ≡ shown_over closed code (postings code items memos)
  by_rows closed = λ i. shown_as closed (same_figures i).documents (same_figures i).net code

-- ---- the period of a code

abbrev pub beside : Period → Bool → Period × Bool
beside q closed = (q, closed)

found_by : (p : Published) (code : ℕ) (found : Option Period) (q : Period) (closed : Bool) → Some (beside q closed) ≡ option_map (λ r. beside r (is_closed p code)) found → (found ≡ Some q) × (closed ≡ is_closed p code)
found_by p code None q closed h = absurd (cc h)
found_by p code (Some r) q closed h =
    let same = same_Some (beside q closed) (beside r (is_closed p code)) h in
    (ap (λ (e : Period × Bool). Some e.0) (sym same), ap (λ (e : Period × Bool). e.1) same)

module _ (rows : Rows) (text : List ℕ) (code : ℕ) (read : Some code ≡ period_in text) (plan : Published) (is : plan ≡ rows.published) (q : Period) (closed : Bool)
    (found : Some (beside q closed) ≡ option_map (λ r. beside r (is_closed plan code)) (period_of plan code)) (agent : ℕ) (sound : Sound rows) where
  abbrev items : List Item
  items = values (ledger_of agent rows).own.items

  abbrev memos : List MemoFields
  memos = values (ledger_of agent rows).own.memos

  at : period_of rows.published code ≡ Some q
  at = ap (λ (p : Published). period_of p code) (sym is) ∙ (found_by plan code (period_of plan code) q closed found).0

  numbered : code ≡ q.code
  numbered = sym (eqb-true q.code code (find_contains (λ (r : Period). r.code == code) rows.published.periods q at).1)

  over_rows : shown_over closed code (postings code items memos) ≡ shown_as (is_closed rows.published q.code) (count_by (is_counted q.code) items) (net_of_rows q.code items memos) q.code
  over_rows =
      (λ i. shown_as ((found_by plan code (period_of plan code) q closed found).1 i) (documents_of code items memos i) (all_net code items memos i) code)
      ∙ (ap (λ (p : Published). shown_as (is_closed p code) (count_by (is_counted code) items) (net_of_rows code items memos) code) is
      ∙ ap (λ (n : ℕ). shown_as (is_closed rows.published n) (count_by (is_counted n) items) (net_of_rows n items memos) n) numbered)

  pub period_says : (tallies : List Tally) (shown : PeriodShown) → tallies ≡ tallies_of (OfAgentIn agent code) rows → shown ≡ shown_over closed code (tally_postings code tallies) → Says (ledger_answer agent (ledger_of agent rows) (AskPeriod text)) (message.Period shown)
  period_says tallies shown asked sums =
      let are = subst (λ (ts : List Tally). AreTallies (asked_items (OfAgentIn agent code) rows) (asked_memos (OfAgentIn agent code) rows) ts) (sym asked) (asked_tallies (OfAgentIn agent code) rows) in
      let of_rows = sums ∙ (by_rows (asked_items (OfAgentIn agent code) rows) (asked_memos (OfAgentIn agent code) rows) tallies are code closed
      ∙ (ap (shown_over closed code) (own_posted agent code rows sound) ∙ over_rows)) in
      subst (λ (number : Option ℕ). Says (period_answer (ledger_of agent rows) number) (message.Period shown)) read
      (subst (λ (of_code : Option Period). Says (period_shown (ledger_of agent rows) of_code) (message.Period shown)) (sym at) (ap (λ (s : PeriodShown). message.Period s) of_rows))
