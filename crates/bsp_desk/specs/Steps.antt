-- What one request makes of a book, in which no transaction is open before and after.
use Rattle.std.specs.Prelude.{◌≡◌, ◌⊎◌, ◌↔◌, ℕ, true, false, List, [], None, Result, IfOk}
use Rattle.bsp_book.specs.Calls.{Faults, Meaning}
use Rattle.bsp_book.specs.declared.fault.BookFault.{BookFault}
use Rattle.bsp_messages.specs.declared.answer.Answer.{Answer as Message}
use Rattle.bsp_messages.specs.declared.refusal.RequestRefusal.TheVariants.{NoRoom, NoRoute, OtherMethod, StoreFailed}
use Rattle.bsp_routes.specs.declared.reply.Reply.{Reply}
use Rattle.bsp_routes.specs.Calls.{asking_text}
use Rattle.bsp_routes.specs.declared.asking.Asking.TheVariants as asking
use Rattle.bsp_routes.specs.declared.methods.Methods.{Methods}
use Rattle.bsp_rows.specs.Rows.{Rows}
use Rattle.bsp_rows.specs.Sound.{Sound}
use Rattle.bsp_desk_writes.specs.Serves.{FallsBackSound, Finds, LeavesLastSound, Serves}
use Rattle.bsp_desk_writes.specs.Answers.{is_done, verdicts_in}
use Rattle.bsp_desk_writes.specs.Requests.{Request as Reading}
use Rattle.bsp_desk_writes.specs.Step.{answer_of, rows_after}
use Rattle.bsp_desk.specs.Reading.{IsRead}
use Rattle.bsp_desk.specs.Replies.{IsSent, Refuses, allow_of, is_refusal, is_unavailable}
use Rattle.bsp_desk.specs.declared.request.Request.{Request}

-- the rows after the request, as it is answered
abbrev pub left_by : List ℕ → Rows → Reading → Rows
left_by office rows reading = rows_after rows reading (answer_of office rows reading)

module _ {B : Type 0} (m : Meaning B Rows) (old new : B) (request : Request) where
  -- over sound rows, with no transaction open, however the request is read
  abbrev pub OfRequest : (Rows → Reading → Type 0) → Type 0
  OfRequest P = (reading : Reading) → IsRead request reading → m.trusts new → (rows : Rows) → Sound rows → m.holds old rows None → P rows reading

  -- ---- in the open transaction

  -- the request is answered over the rows, which become those after it
  abbrev pub ServesRequest : List ℕ → Result Message BookFault → Type 0
  ServesRequest office result =
      (reading : Reading) → IsRead request reading → Serves m old new result (λ rows. answer_of office rows reading) (λ rows. left_by office rows reading)

  -- its answer is sent as this reply
  abbrev pub Sends : List ℕ → Result Reply BookFault → Type 0
  Sends office result =
      (reading : Reading) → IsRead request reading → Finds m old new result (λ rows reply. IsSent (answer_of office rows reading) reply) (λ rows. left_by office rows reading)

  -- what a fault leaves, however the request is read
  abbrev pub EndsUnsent : Result Reply BookFault → Type 0
  EndsUnsent result =
      Faults m old new ((reading : Reading) → IsRead request reading → FallsBackSound m old new) ((reading : Reading) → IsRead request reading → LeavesLastSound m old new) result

  -- ---- the whole transaction

  -- the answer is sent, and the book holds the rows after it
  abbrev pub Commits : List ℕ → Result Reply BookFault → Type 0
  Commits office result = IfOk result (λ reply. OfRequest (λ rows reading. IsSent (answer_of office rows reading) reply × m.holds new (left_by office rows reading) None))

  -- where there is no room the rows stay; after a failure a stop leaves them, or those after the request
  abbrev pub EndsRequest : List ℕ → Result Reply BookFault → Type 0
  EndsRequest office result =
      Faults m old new (OfRequest (λ rows reading. m.holds new rows None)) (OfRequest (λ rows reading. m.leaves new rows (left_by office rows reading))) result

  -- ---- the reply

  -- what holds of a request and its reply, at an office with this token
  pub record Answers (office : List ℕ) (reply : Reply) : Type 0 where
    pub trust : m.trusts new → m.trusts old
    -- but for a 503 it is the answer of the request
    pub step : is_unavailable reply.status ≡ false → OfRequest (λ rows reading. IsSent (answer_of office rows reading) reply)
    -- and the book then holds the rows after it, which are sound again
    pub kept : is_unavailable reply.status ≡ false → OfRequest (λ rows reading. Sound (left_by office rows reading) × m.holds new (left_by office rows reading) None)
    -- where no change is done and no verdict given it holds the same rows: so where a change is held, and where rows are shown
    pub unchanged : is_unavailable reply.status ≡ false → OfRequest (λ rows reading.
        is_done (answer_of office rows reading) ≡ false → verdicts_in (answer_of office rows reading) ≡ [] → m.holds new rows None)
    -- a 405 to another method lists those of the path, and no other reply has `Allow`
    pub allow : reply.allow ≡ allow_of (asking_text request.call) reply.status
    -- a refusal leaves the rows as they are
    pub refused : is_refusal reply.status ≡ true → OfRequest (λ rows reading. m.holds new rows None)
    -- a 503 is B01 or B03
    pub unavailable : is_unavailable reply.status ≡ true → Refuses NoRoom reply ⊎ Refuses StoreFailed reply
    -- B01 leaves the rows as they are
    pub full : Refuses NoRoom reply → OfRequest (λ rows reading. m.holds new rows None)
    -- it is B03 if and only if the book has failed
    pub failed : (m.has_failed new ≡ true) ↔ Refuses StoreFailed reply
    -- after the first B03 a stop leaves the rows, or those after the request
    pub stop : Refuses StoreFailed reply → m.has_failed old ≡ false → OfRequest (λ rows reading. m.leaves new rows (left_by office rows reading))
    -- of a book that has failed each reply is B03, and the book stays as it is
    pub after_failure : m.has_failed old ≡ true → Refuses StoreFailed reply × (new ≡ old)
    -- of one that has not, no route is N02 and another method N03, and the book stays as it is
    pub no_route : m.has_failed old ≡ false → request.call ≡ asking.NoRoute → Refuses NoRoute reply × (new ≡ old)
    pub other_method : (methods : Methods) → m.has_failed old ≡ false → request.call ≡ asking.OtherMethod methods → Refuses OtherMethod reply × (new ≡ old)
