-- The messages that say what is shown, and that it leaves the rows.
use Rattle.std.proofs.Common.{◌≡◌, ℕ, ◌==◌, Bool, true, false, cond, List, Option, Some, refl, sym, ap, subst, ◌∙◌, inl, inr}
use Rattle.std.specs.FinMap.{values}
use Rattle.std.specs.Global.{Vec}
use Rattle.std.specs.Prelude.{String, string_bytes}
use Rattle.std.specs.Global.{Global}
use Rattle.std.proofs.lemmas.Bool.{eqb-true}
use Rattle.bsp_rows.proofs.ListLemmas.{find_contains}
use Rattle.bsp_rows.specs.Published.{Published, closed_period, is_closed, is_taxed, period_of}
use Rattle.bsp_rows.specs.Period.{Period}
use Rattle.bsp_rows.specs.Terms.{Terms}
use Rattle.bsp_hot.specs.Files.{IsTooWide, IsWritten, form_of}
use Rattle.bsp_hot.specs.Sound.{IsHotFileOver, KeepRules}
use Rattle.bsp_hot.proofs.OneFile.{one_file}
use Rattle.bsp_hot_check.specs.FileForm.{FileForm}
use Rattle.bsp_hot_check.specs.Hot.{Hot as AreHotLines}
use Rattle.bsp_rows.specs.Lines.{lines}
use Rattle.bsp_hot.specs.Rows.{Entry, entries}
use Rattle.bsp_rows.specs.MemoFields.{MemoFields}
use Rattle.bsp_rows.specs.Owed.{is_billed_in}
use Rattle.bsp_rules.specs.declared.rows.Item.{Item}
use Rattle.bsp_rows.specs.Rows.{is_in}
use Rattle.bsp_rows.proofs.MapLemmas.{same_Some}
use Rattle.std.specs.List.{filter}
use Rattle.bsp_rows.specs.declared.questions.Items.TheVariants as items
use Rattle.bsp_rows.specs.declared.questions.Memos.TheVariants as memos
use Rattle.bsp_rows.specs.Rows.{items_of, memos_of}
use Rattle.bsp_desk_sales.specs.AirlineLedger.{airline_answer, airline_ledger_of, hot_answer, hot_shown}
use Rattle.bsp_desk_sales.specs.HotRules.{KeepRulesOfSound}
use Rattle.bsp_desk_sales.specs.Requests.AirlineRequest.{AskHot}
use Rattle.bsp_desk.proofs.AirlineRows.{bearing_items, billed_memos}
use Rattle.bsp_messages.specs.Values.{period_in}
use Rattle.bsp_messages.specs.declared.answer.Answer.TheVariants as message
use Rattle.bsp_messages.specs.declared.refusal.RequestRefusal.TheVariants.{HotTooLarge}
use Rattle.bsp_statement.specs.Postings.{of_agent, postings}
use Rattle.bsp_statement.specs.declared.posting.Posting.{Posting}
use Rattle.bsp_rows.specs.Rows.{Rows}
use Rattle.bsp_rows.specs.Sound.{Sound}
use Rattle.bsp_rows.specs.declared.questions.Tallies.TheVariants.{In, OfAgentIn}
use Rattle.bsp_statement.specs.Reports.{IsSettlement, IsStatement, of_period}
use Rattle.bsp_statement.specs.declared.nets.Settlement.{Settlement as SettlementMade}
use Rattle.bsp_desk_sales.specs.Ledger.{ledger_answer, ledger_of, statement_answer, statement_shown}
use Rattle.bsp_desk_sales.specs.Requests.AgentRequest.{AskStatement}
use Rattle.bsp_desk_sales.specs.Requests.OfficeRequest.{AskSettlement}
use Rattle.bsp_desk_sales.specs.Step.{office_answer, settlement_answer, settlement_shown}
use Rattle.bsp_desk_sales.specs.Texts.{Says}
use Rattle.bsp_desk_sales.proofs.ClosedKept.{closed_of}
use Rattle.bsp_desk.proofs.PeriodRows.{all_posted, asked_items, asked_memos, own_alone, own_posted}

-- done or not, the same rows
pub same_rows : (done : Bool) (rows : Rows) → cond done rows rows ≡ rows
same_rows true rows = refl
same_rows false rows = refl

-- ---- a closed period

-- a closed period has the code that it is found by
pub code_is : (p : Published) (code : ℕ) (q : Period) → closed_period p code ≡ Some q → q.code ≡ code
code_is p code q h =
    let found : period_of p code ≡ Some q = (closed_of (is_closed p code) (period_of p code) q h).1 in
    eqb-true q.code code (find_contains (λ (r : Period). r.code == code) p.periods q found).1

-- ---- a HOT file

-- the text is a HOT file of the closed period and the published terms
abbrev IsHotOver : Published → ℕ → ℕ → List Entry → List ℕ → Type 0
IsHotOver plan airline code rows text =
    (q : Period) × (terms : Terms) × (closed_period plan code ≡ Some q) × (plan.terms ≡ Some terms) × IsHotFileOver (form_of plan q) airline q terms.currency rows text

hot_over : (plan : Published) (airline code : ℕ) (q : Period) (terms : Terms) (rows : List Entry) (text : List ℕ) → closed_period plan code ≡ Some q → plan.terms ≡ Some terms → IsHotOver plan airline code rows text
    → IsHotFileOver (form_of plan q) airline q terms.currency rows text
hot_over plan airline code q terms rows text closed published (r, others, closed', published', over) =
    let period = same_Some r q (sym closed' ∙ closed) in
    let same = same_Some others terms (sym published' ∙ published) in
    subst (λ (t : Terms). IsHotFileOver (form_of plan q) airline q t.currency rows text) same
    (subst (λ (p : Period). IsHotFileOver (form_of plan p) airline p others.currency rows text) period over)

-- its lines are those of the file that is written
written_lines : (form : FileForm) (airline : ℕ) (q : Period) (currency : List ℕ) (rows : List Entry) (text : List ℕ) → (made : IsWritten form airline q currency rows text) → IsHotFileOver form airline q currency rows text → AreHotLines (lines text) made.file
written_lines form airline q currency rows text made hot =
    subst (AreHotLines (lines text)) (one_file form airline q currency rows hot.file made.file hot.over made.over) hot.stands

module _ (rows : Rows) (text : List ℕ) (code : ℕ) (read : Some code ≡ period_in text) (plan : Published) (is : plan ≡ rows.published) (q : Period) (terms : Terms)
    (closed : closed_period plan code ≡ Some q) (published : plan.terms ≡ Some terms) where
  at : closed_period rows.published code ≡ Some q
  at = ap (λ (p : Published). closed_period p code) (sym is) ∙ closed

  there : rows.published.terms ≡ Some terms
  there = ap (λ (p : Published). p.terms) (sym is) ∙ published

  numbered : code ≡ q.code
  numbered = sym (code_is plan code q closed)

  pub settlement_says : (made : SettlementMade) → IsSettlement (of_period q terms) (postings code (asked_items (In code) rows) (asked_memos (In code) rows)) made → Says (office_answer (AskSettlement text) rows) (message.Report made.text)
  settlement_says made over =
      let all = subst (λ (ps : List Posting). IsSettlement (of_period q terms) ps made) (all_posted code rows ∙ ap (λ (n : ℕ). postings n (values rows.items) (values rows.memos)) numbered) over in
      subst (λ (found : Option ℕ). Says (settlement_answer found rows) (message.Report made.text)) read
      (subst (λ (found : Option Period). Says (settlement_shown found rows) (message.Report made.text)) (sym at)
      (made.text, (terms, there, made, all, refl), refl))

  pub statement_says : (agent : ℕ) → Sound rows → (made : String Global) → IsStatement (is_taxed plan q) agent (of_period q terms) (of_agent agent (postings code (asked_items (OfAgentIn agent code) rows) (asked_memos (OfAgentIn agent code) rows))) (string_bytes made) → Says (ledger_answer agent (ledger_of agent rows) (AskStatement text)) (message.Report made)
  statement_says agent sound made over =
      let l = ledger_of agent rows in
      let asked = of_agent agent (postings code (asked_items (OfAgentIn agent code) rows) (asked_memos (OfAgentIn agent code) rows)) in
      let formed = subst (λ (p : Published). IsStatement (is_taxed p q) agent (of_period q terms) asked (string_bytes made)) is over in
      let own = subst (λ (ps : List Posting). IsStatement (is_taxed rows.published q) agent (of_period q terms) ps (string_bytes made))
      (ap (of_agent agent) (own_posted agent code rows sound) ∙ (own_alone agent code rows sound ∙ ap (λ (n : ℕ). postings n (values l.own.items) (values l.own.memos)) numbered)) formed in
      subst (λ (found : Option ℕ). Says (statement_answer agent l found) (message.Report made)) read
      (subst (λ (found : Option Period). Says (statement_shown agent l found) (message.Report made)) (sym at)
      (made, (terms, there, own), refl))

  abbrev shown_rows : ℕ → List Entry
  shown_rows airline =
      let l = airline_ledger_of airline rows in
      entries airline q.code (filter (is_in q.code) (values l.own.items)) (filter (is_billed_in q.code) (values l.own.memos))

  same_entries : (airline : ℕ) (own : List Item) (ms : List MemoFields) → own ≡ items_of (items.OfAirlineIn airline code) rows → ms ≡ memos_of (memos.OfAirlineIn airline code) rows → entries airline code own ms ≡ shown_rows airline
  same_entries airline own ms found billed =
      let l = airline_ledger_of airline rows in
      ap (λ (xs : List Item). entries airline code xs ms) (found ∙ bearing_items airline code rows)
      ∙ (ap (λ (xs : List MemoFields). entries airline code (filter (is_in code) (values l.own.items)) xs) (billed ∙ billed_memos airline code rows)
      ∙ ap (λ (n : ℕ). entries airline n (filter (is_in n) (values l.own.items)) (filter (is_billed_in n) (values l.own.memos))) numbered)

  module _ (airline : ℕ) (own : List Item) (ms : List MemoFields) (found : own ≡ items_of (items.OfAirlineIn airline code) rows) (billed : ms ≡ memos_of (memos.OfAirlineIn airline code) rows) where
    -- rows that are looked up keep the rules of a HOT file
    pub looked_up : Sound rows → KeepRulesOfSound own ms → KeepRules airline code own ms
    looked_up sound keep =
        let l = airline_ledger_of airline rows in
        let own_items = found ∙ (bearing_items airline code rows ∙ ap (λ (n : ℕ). filter (is_in n) (values l.own.items)) numbered) in
        let own_memos = billed ∙ (billed_memos airline code rows ∙ ap (λ (n : ℕ). filter (is_billed_in n) (values l.own.memos)) numbered) in
        subst (λ (n : ℕ). KeepRules airline n own ms) (sym numbered) (keep rows airline q sound own_items own_memos)

    pub hot_says : (file : Vec ℕ) → IsWritten (form_of plan q) airline q terms.currency (entries airline code own ms) file.items → IsHotOver plan airline code (entries airline code own ms) file.items → Says (airline_answer airline (airline_ledger_of airline rows) (AskHot text)) (message.Hot file)
    hot_says file over hot =
        let l = airline_ledger_of airline rows in
        let Both : Published → List Entry → Type 0 = λ p es. IsWritten (form_of p q) airline q terms.currency es file.items × IsHotFileOver (form_of p q) airline q terms.currency es file.items in
        let formed = subst (λ (p : Published). Both p (entries airline code own ms)) is (over, hot_over plan airline code q terms (entries airline code own ms) file.items closed published hot) in
        let there_in = subst (Both rows.published) (same_entries airline own ms found billed) formed in
        subst (λ (read_as : Option ℕ). Says (hot_answer airline l read_as) (message.Hot file)) read
        (subst (λ (of_code : Option Period). Says (hot_shown airline l of_code) (message.Hot file)) (sym at)
        (inl (file, (terms, there, there_in.0, written_lines (form_of rows.published q) airline q terms.currency (shown_rows airline) file.items there_in.0 there_in.1), refl)))

    pub hot_is_wide : IsTooWide (form_of plan q) airline q terms.currency (entries airline code own ms) → Says (airline_answer airline (airline_ledger_of airline rows) (AskHot text)) (message.Refused HotTooLarge)
    hot_is_wide over =
        let l = airline_ledger_of airline rows in
        let formed = subst (λ (p : Published). IsTooWide (form_of p q) airline q terms.currency (entries airline code own ms)) is over in
        subst (λ (read_as : Option ℕ). Says (hot_answer airline l read_as) (message.Refused HotTooLarge)) read
        (subst (λ (of_code : Option Period). Says (hot_shown airline l of_code) (message.Refused HotTooLarge)) (sym at)
        (inr ((terms, there, subst (λ (es : List Entry). IsTooWide (form_of rows.published q) airline q terms.currency es) (same_entries airline own ms found billed) formed), refl)))
