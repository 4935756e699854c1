-- What holds of rows and is kept by each change of a desk: a request keeps it, and so does a run.
use Rattle.std.proofs.Common.{◌≡◌, ℕ, ◌<◌, ◌≤◌, false, true, ℤ, List, Some, IsSome, Ok}
use Rattle.bsp_rows.specs.History.{Request as PlanRequest}
use Rattle.bsp_rows.specs.Published.{Published, is_closed}
use Rattle.bsp_rows.specs.Requests.{closing}
use Rattle.bsp_rows.specs.Terms.{Terms}
use Rattle.bsp_rows.specs.Verdicts.{limit_of}
use Rattle.bsp_rows.specs.Item.{Item}
use Rattle.bsp_rows.specs.Range.{Range}
use Rattle.bsp_rows.specs.Reporter.{Reporter}
use Rattle.bsp_rows.specs.Lives.{after_action}
use Rattle.bsp_rows.specs.Memos.{is_amount, issued_memo}
use Rattle.bsp_rows.specs.Steps.{Action}
use Rattle.bsp_rows.specs.MemoFields.{MemoFields}
use Rattle.bsp_rows.specs.MemoKind.{MemoKind}
use Rattle.bsp_rows.specs.Changes.{IsAcceptance, after_accepted, after_close}
use Rattle.bsp_rows.specs.Laws.{issued_count}
use Rattle.bsp_rows.specs.Rows.{Rows, agent_token, has_meeting, is_used_in, memo_at, memo_key, range_at, range_key}
use Rattle.bsp_rows.specs.Sound.{Sound}
use Rattle.bsp_rows.specs.Writes.{IsFree, after_request, with_agent_token, with_airline_token, with_memo, with_range, without_range}
use Rattle.bsp_rows.proofs.KeptLemmas.{accepted_sound, action_sound, agent_sound, airline_sound, close_sound, issue_sound_rows, range_sound, request_sound, withdrawal_sound}
use Rattle.bsp_office_spec.specs.Ledger.{review_of}

pub record IsKept (P : Rows → Type 0) : Type 0 where
  -- it holds of sound rows alone
  pub sound : (rows : Rows) → P rows → Sound rows
  pub accepted : (reporter : Reporter) (rows : Rows) (item : Item) → P rows → IsAcceptance reporter rows item → P (after_accepted item rows)
  pub planned : (rows : Rows) (request : PlanRequest) → P rows → P (after_request request rows)
  pub closed : (rows : Rows) (code : ℕ) (plan : Published) (terms : Terms) → P rows → is_closed rows.published code ≡ false → closing rows.published code ≡ Ok plan → rows.published.terms ≡ Some terms → P (after_close code plan terms.review_days rows)
  pub issued : (rows : Rows) (airline document agent : ℕ) (kind : MemoKind) (amount : ℤ) (reason : List ℕ) →
      let memo = issued_memo airline document agent kind amount reason rows.published.day in
      P rows → is_amount amount ≡ true → IsFree (memo_at (memo_key memo) rows) → IsSome (agent_token agent rows) → issued_count agent airline rows < limit_of rows.published.terms → P (with_memo memo rows)
  pub acted : (rows : Rows) (memo : MemoFields) (action : Action) → P rows → memo_at (memo_key memo) rows ≡ Some memo → P (with_memo (after_action (review_of rows.published.terms) action rows.published.day memo) rows)
  pub allotted : (rows : Rows) (agent : ℕ) (range : Range) → P rows → IsSome (agent_token agent rows) → range.first ≤ range.last → has_meeting range rows ≡ false → P (with_range agent range rows)
  pub withdrawn : (rows : Rows) (agent : ℕ) (range : Range) → P rows → range_at (range_key agent range) rows ≡ Some range.last → is_used_in agent range rows ≡ false → P (without_range agent range rows)
  pub agent : (rows : Rows) (agent : ℕ) (token : List ℕ) → P rows → P (with_agent_token agent token rows)
  pub airline : (rows : Rows) (airline : ℕ) (token : List ℕ) → P rows → P (with_airline_token airline token rows)

-- soundness is one
pub sound_is_kept : IsKept Sound
sound_is_kept = record {
  sound = λ rows s. s;
  accepted = accepted_sound;
  planned = request_sound;
  closed = close_sound;
  issued = issue_sound_rows;
  acted = λ rows memo action s there. action_sound rows memo action rows.published.day (review_of rows.published.terms) s there;
  allotted = range_sound;
  withdrawn = withdrawal_sound;
  agent = agent_sound;
  airline = airline_sound;
}
