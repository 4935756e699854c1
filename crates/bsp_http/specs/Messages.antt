-- What an office answers to the messages of a connection.
use Rattle.std.specs.Prelude.{◌≡◌, ℕ, Bool, true, List, Result, Ok, Err}
use Rattle.std.specs.Borrow.{Bor}
use Rattle.bsp_desk.specs.BookCalls.{LooksUp, Meaning}
use Rattle.bsp_desk.specs.BookFault.{BookFault}
use Rattle.bsp_desk.specs.Callers.{is_body_wanted}
use Rattle.bsp_connection.specs.Exchanges.{Meaning as Answering, RequestText}
use Rattle.bsp_desk.specs.Reading.{token_text}
use Rattle.bsp_desk.specs.Steps.{Answers}
use Rattle.bsp_desk.specs.declared.desk.Desk.{Desk}
use Rattle.bsp_desk.specs.declared.request.Request.{Request}
use Rattle.bsp_desk.specs.Reply.{Reply}
use Rattle.bsp_routes.specs.Replies.{ReplyText, reply_text}
use Rattle.bsp_ret.specs.Ret.{File}
use Rattle.bsp_ret.specs.declared.model.RetFault.{RetFault}
use Rattle.bsp_desk.specs.RoutesCalls.{Asks, asking_text}
use Rattle.bsp_desk.specs.Asking.{Asking}
use Rattle.bsp_desk.specs.Rows.{Rows}
use Rattle.bsp_desk.specs.Contents.{IsAskedWith}
use Rattle.bsp_desk.specs.Content.{Content}
use Rattle.bsp_desk.specs.Content.TheVariants as content
use Rattle.bsp_desk.specs.Requests.{Asked, IsAsked}
use Rattle.bsp_http.specs.Replies.{no_room}
use Rattle.bsp_http.specs.Uses.{Uses}

-- a body that was read as a RET file
abbrev pub content_of : Result (Bor File) RetFault → Content
content_of (Ok file) = content.File file
content_of (Err fault) = content.Fault fault

-- ---- the desk

abbrev pub or_wanted : Result Bool BookFault → Bool
or_wanted (Ok wanted) = wanted
or_wanted (Err fault) = true

-- the request is that of the message: it has its token, asks for what its method and its target ask for, and is read as the message is
pub record IsRequestOf (text : RequestText) (request : Request) : Type 0 where
  pub token : token_text request.token ≡ text.token
  pub asks : Asks text.method text.target (asking_text request.call)
  pub only : (other : Asking (List ℕ)) → Asks text.method text.target other → asking_text request.call ≡ other
  pub reads : (asked : Asked) → IsAsked (asking_text request.call) text.body asked → IsAskedWith (asking_text request.call) request.content asked

module _ {B : Type 0} (m : Meaning B Rows) where
  -- the desk answers the request of the message, and its reply is written
  pub record Steps (old : Desk B) (text : RequestText) (written : ReplyText) (new : Desk B) : Type 0 where
    pub request : Request
    pub is : IsRequestOf text request
    pub reply : Reply
    pub answered : Answers m old.book new.book request old.office reply
    pub office : new.office ≡ old.office
    pub written_is : written ≡ reply_text reply

  -- the desk looks up whether the body of a message is wanted; where it cannot, the body is taken
  pub record Admits (old : Desk B) (head : RequestText) (wanted : Bool) (new : Desk B) : Type 0 where
    pub asking : Asking (List ℕ)
    pub asks : Asks head.method head.target asking
    pub found : Result Bool BookFault
    pub looked : LooksUp m old.book new.book found (λ b. b) (is_body_wanted old.office head.token asking)
    pub wanted_is : wanted ≡ or_wanted found
    pub office : new.office ≡ old.office

  abbrev pub at_desk : Answering (Desk B)
  at_desk = record { uses = Uses; no_room = no_room; admits = Admits; steps = Steps }
