-- What is sent of a HOT file.
use Rattle.std.specs.Prelude.{◌≡◌, ℕ, Bool, true, false, List}
use Rattle.std.specs.Cow.{cow_slice_items}
use Rattle.bsp_routes.specs.declared.reply.Reply.{Reply}
use Rattle.bsp_routes.specs.declared.status.Status.TheVariants as status
use Rattle.bsp_rows.specs.Rows.{Rows}
use Rattle.bsp_rows.specs.Lines.{lines}
use Rattle.bsp_book.specs.Calls.{Meaning}
use Rattle.bsp_hot_check.specs.Checked.{HasTotals}
use Rattle.bsp_hot_check.specs.declared.model.HotTotals.{HotTotals}
use Rattle.bsp_desk_writes.specs.Requests.{Asked, Request as Reading}
use Rattle.bsp_desk_writes.specs.Requests.AirlineRequest.{AskHot}
use Rattle.bsp_desk_writes.specs.Requests.Asked.{ByAirline}
use Rattle.bsp_desk_writes.specs.Step.{answer_of}
use Rattle.bsp_desk.specs.Replies.{IsSent}
use Rattle.bsp_desk.specs.Steps.{Answers, OfRequest}
use Rattle.bsp_desk.specs.declared.request.Request.{Request}

-- `check_hot` passes the text, and gives these totals
abbrev pub PassesCheck : List ℕ → Type 0
PassesCheck text = (totals : HotTotals) × HasTotals (lines text) totals

-- a HOT file is asked for
abbrev pub asks_hot : Asked → Bool
asks_hot (ByAirline code (AskHot period)) = true
asks_hot _ = false

-- a reply with status 200 to it, which sends the answer of the request, is a text that `check_hot` passes
abbrev pub HotRepliesPass : Type 0
HotRepliesPass =
    (office : List ℕ) (rows : Rows) (reading : Reading) (reply : Reply) →
    IsSent (answer_of office rows reading) reply → asks_hot reading.asked ≡ true → reply.status ≡ status.Ok → PassesCheck (cow_slice_items reply.body)

-- so is each such reply of a desk, over sound rows
abbrev pub HotAnswersPass : {B : Type 0} → Meaning B Rows → Type 0
HotAnswersPass {B} m =
    (old new : B) (request : Request) (office : List ℕ) (reply : Reply) → Answers m old new request office reply → reply.status ≡ status.Ok →
    OfRequest m old new request (λ rows reading. asks_hot reading.asked ≡ true → PassesCheck (cow_slice_items reply.body))
