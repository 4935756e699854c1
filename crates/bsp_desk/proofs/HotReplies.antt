-- A HOT file that is sent passes the check.
use Rattle.std.proofs.Common.{◌≡◌, ℕ, Bool, true, false, cond, List, Option, Some, None, sym, ap, subst, ◌∙◌}
use Rattle.bsp_messages.specs.Answers.{status_of, text_of}
use Rattle.bsp_messages.specs.Values.{airline_in, period_in}
use Rattle.bsp_messages.specs.declared.answer.Answer.{Answer as Message}
use Rattle.bsp_messages.specs.declared.refusal.RequestRefusal.TheVariants.{Forbidden}
use Rattle.bsp_routes.specs.declared.status.Status.TheVariants as status
use Rattle.bsp_rows.specs.Period.{Period}
use Rattle.bsp_rows.specs.Published.{closed_period}
use Rattle.bsp_rows.specs.Rows.{Rows, airline_token}
use Rattle.bsp_office_spec.proofs.HotRules.{hot_files_pass}
use Rattle.bsp_desk_writes.specs.AirlineLedger.{airline_ledger_of, hot_answer, hot_rows, hot_shown}
use Rattle.bsp_desk_writes.specs.Answers.{Answer}
use Rattle.bsp_desk_writes.specs.Answers.Answer.{Refused}
use Rattle.bsp_desk_writes.specs.Requests.{Asked}
use Rattle.bsp_desk_writes.specs.Requests.AirlineRequest.{AskHot}
use Rattle.bsp_desk_writes.specs.Requests.Asked.{ByAirline}
use Rattle.bsp_desk_writes.specs.Step.{asked_answer, is_token, to_airline}
use Rattle.bsp_desk_writes.specs.Texts.{Says}
use Rattle.bsp_book.specs.Calls.{Meaning}
use Rattle.bsp_desk.specs.HotReplies.{HotAnswersPass, HotRepliesPass, PassesCheck, asks_hot}
use Rattle.bsp_desk.specs.Replies.{is_unavailable}

module _ (rows : Rows) (m : Message) (ok : status_of m ≡ status.Ok) where
  abbrev Passes : Answer → Type 0
  Passes answer = Says answer m → PassesCheck (text_of m)

  forbidden : Passes (Refused Forbidden)
  forbidden says = absurd (let other = sym (ap status_of says) ∙ ok in cc)

  shown : (airline : ℕ) (found : Option Period) → Passes (hot_shown airline (airline_ledger_of airline rows) found)
  shown airline None says = absurd (let other = sym (ap status_of says) ∙ ok in cc)
  shown airline (Some q) says = hot_files_pass airline (hot_rows (airline_ledger_of airline rows) q) m says ok

  answered : (airline : ℕ) (wanted : Option ℕ) → Passes (hot_answer airline (airline_ledger_of airline rows) wanted)
  answered airline None says = absurd (let other = sym (ap status_of says) ∙ ok in cc)
  answered airline (Some code) says = shown airline (closed_period rows.published code) says

  with_token : (answer : Answer) (own : Bool) → Passes answer → Passes (cond own answer (Refused Forbidden))
  with_token answer true passes = passes
  with_token answer false passes = forbidden

  of_airline : (period : List ℕ) (token : Option (List ℕ)) (named : Option ℕ) → Passes (to_airline named token (AskHot period) rows)
  of_airline period token None = forbidden
  of_airline period token (Some airline) =
      with_token (hot_answer airline (airline_ledger_of airline rows) (period_in period)) (is_token (airline_token airline rows) token) (answered airline (period_in period))

  asked_passes : (office : List ℕ) (token : Option (List ℕ)) (asked : Asked) → asks_hot asked ≡ true → Passes (asked_answer office token asked rows)
  asked_passes office token (ByAirline name (AskHot period)) is = of_airline period token (airline_in name)
  asked_passes office token asked is = absurd (cc is)

pub hot_replies_pass : HotRepliesPass
hot_replies_pass office rows reading reply (m, says, sent) is ok =
    subst PassesCheck (sym sent.body) (asked_passes rows m (sym sent.status ∙ ok) office reading.token reading.asked is says)

pub hot_answers_pass : {B : Type 0} (m : Meaning B Rows) → HotAnswersPass m
hot_answers_pass m old new request office reply answers ok reading is trust rows sound holds hot =
    hot_replies_pass office rows reading reply (answers.step (ap is_unavailable ok) reading is trust rows sound holds) hot ok
