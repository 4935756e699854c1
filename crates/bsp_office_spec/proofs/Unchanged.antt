-- Only what is done, and what a file's verdicts accept, changes the rows; and the parts' lists are the book's look-ups.
use Rattle.std.proofs.Common.{◌≡◌, ℕ, ◌==◌, Bool, true, false, cond, List, [], ◌∷◌, map, refl, ap, ◌∙◌}
use Rattle.std.specs.List.{filter}
use Rattle.std.specs.FinMap.{entries, values}
use Rattle.bsp_rows.specs.Verdict.{Verdict}
use Rattle.bsp_rows.specs.Item.{Item}
use Rattle.bsp_rows.specs.MemoFields.{MemoFields}
use Rattle.bsp_rows.specs.declared.keys.ItemKey.{ItemKey}
use Rattle.bsp_rows.specs.declared.questions.Memos.TheVariants as memo
use Rattle.bsp_rows.specs.Rows.{Rows, memos_of}
use Rattle.bsp_rows.proofs.KeyOrders.{item_total, item_exact, memo_exact}
use Rattle.bsp_rows.proofs.KeyOrders.{memo_total}
use Rattle.bsp_office_spec.specs.Ledger.{ledger_of}
use Rattle.bsp_office_spec.specs.Step.{rows_after, asked_after, office_done, filed_by_office, agent_done, filed_by_agent, by_airline, bearer}
use Rattle.bsp_rows.proofs.PartLemmas.{kept_entries}
use Rattle.bsp_office_spec.proofs.SeenLemmas.{own_memo}
use Rattle.bsp_office_spec.proofs.Seen.{unfiled, agent_forbidden}
use Rattle.bsp_messages.specs.Values.{airline_in}
use Rattle.bsp_office_spec.specs.Answers.{Answer, is_done, verdicts_in}
use Rattle.bsp_office_spec.specs.AirlineLedger.{airline_ledger_of}
use Rattle.bsp_office_spec.specs.Ledger.{agent_of}
use Rattle.bsp_office_spec.specs.Requests.{Request, Asked, OfficeRequest}
use Rattle.bsp_office_spec.specs.Requests.Asked.{NoRoute, OtherMethod, ByOffice, ByAgent, ByAirline}
use Rattle.bsp_office_spec.specs.Requests.OfficeRequest.{PublishPlan, SetBusinessDay, RegisterAgent, RegisterAirline, AllotRange, WithdrawRange, OfficeFile, ClosePeriod, AskSettlement}

unfiled_call : (call : OfficeRequest) (rows : Rows) → filed_by_office call [] rows ≡ rows
unfiled_call (PublishPlan text) rows = refl
unfiled_call (SetBusinessDay day) rows = refl
unfiled_call (RegisterAgent body) rows = refl
unfiled_call (RegisterAirline body) rows = refl
unfiled_call (AllotRange body) rows = refl
unfiled_call (WithdrawRange body) rows = refl
unfiled_call (OfficeFile file) rows = unfiled bearer file rows
unfiled_call (ClosePeriod period) rows = refl
unfiled_call (AskSettlement period) rows = refl

unchanged_asked : (asked : Asked) (answer : Answer) (rows : Rows) → is_done answer ≡ false → verdicts_in answer ≡ [] → asked_after asked answer rows ≡ rows
unchanged_asked NoRoute answer rows h none = refl
unchanged_asked OtherMethod answer rows h none = refl
unchanged_asked (ByOffice call) answer rows h none =
    ap (λ b. cond b (office_done call rows) (filed_by_office call (verdicts_in answer) rows)) h
    ∙ (ap (λ (vs : List Verdict). filed_by_office call vs rows) none ∙ unfiled_call call rows)
unchanged_asked (ByAgent code call) answer rows h none =
    ap (λ b. cond b (agent_done call rows) (filed_by_agent (agent_of code) call (verdicts_in answer) rows)) h
    ∙ (ap (λ (vs : List Verdict). filed_by_agent (agent_of code) call vs rows) none ∙ agent_forbidden (agent_of code) call rows)
unchanged_asked (ByAirline code call) answer rows h none = ap (λ b. cond b (by_airline (airline_in code) call rows) rows) h

-- held, each refusal and each shown answer leave the rows as they were
pub unchanged : (rows : Rows) (request : Request) (answer : Answer) → is_done answer ≡ false → verdicts_in answer ≡ [] → rows_after rows request answer ≡ rows
unchanged rows request answer h none = unchanged_asked request.asked answer rows h none

-- ---- lists of a part

filter_step : {K X : Type 0} (test : X → Bool) (e : K × X) (es : List (K × X)) → map (λ x. x.1) (filter (λ x. test x.1) es) ≡ filter test (map (λ x. x.1) es) → (b : Bool) → map (λ x. x.1) (cond b (e ∷ filter (λ x. test x.1) es) (filter (λ x. test x.1) es)) ≡ cond b (e.1 ∷ filter test (map (λ x. x.1) es)) (filter test (map (λ x. x.1) es))
filter_step {X = X} test e es rest true = ap (λ (xs : List X). e.1 ∷ xs) rest
filter_step test e es rest false = rest

filter_values : {K X : Type 0} (test : X → Bool) (es : List (K × X)) → map (λ x. x.1) (filter (λ x. test x.1) es) ≡ filter test (map (λ x. x.1) es)
filter_values test [] = refl
filter_values test (e ∷ es) = filter_step test e es (filter_values test es) (test e.1)

-- an agent's memos
pub part_memos : (a : ℕ) (rows : Rows) → values (ledger_of a rows).own.memos ≡ memos_of (memo.OfAgent a) rows
part_memos a rows = ap (map (λ x. x.1)) (kept_entries memo_total memo_exact (own_memo a) rows.memos) ∙ filter_values (λ (m : MemoFields). m.agent == a) (entries rows.memos)

-- the items that bear an airline
pub airline_items : (c : ℕ) (rows : Rows) → values (airline_ledger_of c rows).own.items ≡ filter (λ i. i.transaction.document.airline == c) (values rows.items)
airline_items c rows = ap (map (λ x. x.1)) (kept_entries item_total item_exact (λ (e : ItemKey × Item). e.1.transaction.document.airline == c) rows.items) ∙ filter_values (λ (i : Item). i.transaction.document.airline == c) (entries rows.items)
