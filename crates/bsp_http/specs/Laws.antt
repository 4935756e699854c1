-- What a connection asks of a desk is a run of requests.
use Rattle.std.specs.Prelude.{◌≡◌, ℕ, List, [], ◌∷◌, None}
use Rattle.bsp_desk.specs.BookCalls.{Meaning}
use Rattle.bsp_connection.specs.Conversations.{IsRun}
use Rattle.bsp_connection.specs.Exchanges.{Exchange, RequestText}
use Rattle.bsp_connection.specs.Exchanges.Exchange.{wants, replies}
use Rattle.bsp_routes.specs.Replies.{ReplyText, reply_text}
use Rattle.bsp_desk.specs.Runs.{RanOver}
use Rattle.bsp_desk.specs.declared.desk.Desk.{Desk}
use Rattle.bsp_desk.specs.Replies.{allow_of}
use Rattle.bsp_desk.specs.Reply.{Reply}
use Rattle.bsp_desk.specs.RoutesCalls.{Asks}
use Rattle.bsp_desk.specs.Asking.{Asking}
use Rattle.bsp_desk.specs.Rows.{Rows}
use Rattle.bsp_desk.specs.Sound.{Sound}
use Rattle.bsp_desk.specs.Requests.{IsAsked, Request as Reading}
use Rattle.bsp_http.specs.Messages.{at_desk}

-- the message is read as this request of `bsp_office_spec`
pub record IsMessageRead (text : RequestText) (reading : Reading) : Type 0 where
  pub token : reading.token ≡ text.token
  pub asking : Asking (List ℕ)
  pub asks : Asks text.method text.target asking
  pub asked : IsAsked asking text.body reading.asked

-- each message is read so; where the desk is asked whether a body is wanted there is none yet
abbrev pub AreMessagesRead : List Exchange → List Reading → Type 0
AreMessagesRead [] [] = Unit {0}
AreMessagesRead (wants head wanted ∷ xs) readings = AreMessagesRead xs readings
AreMessagesRead (replies request reply ∷ xs) (reading ∷ readings) = IsMessageRead request reading × AreMessagesRead xs readings
AreMessagesRead _ _ = ⊥

-- each message that asks for something is read as some request
abbrev pub EachMessageIsRead : Type 0
EachMessageIsRead = (text : RequestText) (asking : Asking (List ℕ)) → Asks text.method text.target asking → (reading : Reading) × IsMessageRead text reading

-- the reply of the desk was written for the message, with the methods of the path where that is a 405
abbrev pub IsWrittenFor : RequestText → ReplyText → Reply → Type 0
IsWrittenFor request written reply = (asking : Asking (List ℕ)) × Asks request.method request.target asking × (reply.allow ≡ allow_of asking reply.status) × (written ≡ reply_text reply)

abbrev pub AreWrittenFor : List Exchange → List Reply → Type 0
AreWrittenFor [] [] = Unit {0}
AreWrittenFor (wants head wanted ∷ xs) sent = AreWrittenFor xs sent
AreWrittenFor (replies request written ∷ xs) (reply ∷ sent) = IsWrittenFor request written reply × AreWrittenFor xs sent
AreWrittenFor _ _ = ⊥

-- what a connection asks of a desk over sound rows is a run: its messages have readings, and however they are read, what their replies send has the laws of a run
abbrev pub MessagesRun : {B : Type 0} → Meaning B Rows → Type 0
MessagesRun {B} m =
    (old new : Desk B) (xs : List Exchange) → IsRun (at_desk m) old xs new
    → (new.office ≡ old.office) × (m.trusts new.book → m.trusts old.book)
    × ((readings : List Reading) × AreMessagesRead xs readings)
    × ((readings : List Reading) → AreMessagesRead xs readings → m.trusts new.book → (rows : Rows) → Sound rows → m.holds old.book rows None
    → (sent : List Reply) × AreWrittenFor xs sent × RanOver m new.book old.office rows readings sent)
