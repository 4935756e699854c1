-- How an answer is sent as a reply, what of it is read, and the replies of 503.
use Rattle.std.specs.Prelude.{ℕ, Bool, true, false, List, Option, Some, None}
use Rattle.std.specs.Cow.{cow_slice_items}
use Rattle.bsp_messages.specs.Replies.{IsReply}
use Rattle.bsp_messages.specs.declared.answer.Answer.{Answer as Message}
use Rattle.bsp_messages.specs.declared.answer.Answer.TheVariants.{Refused}
use Rattle.bsp_messages.specs.declared.refusal.RequestRefusal.{RequestRefusal}
use Rattle.bsp_routes.specs.declared.reply.Reply.{Reply}
use Rattle.bsp_routes.specs.declared.status.Media.{Media}
use Rattle.bsp_routes.specs.declared.status.Status.{Status}
use Rattle.bsp_routes.specs.declared.status.Status.TheVariants as status
use Rattle.bsp_routes.specs.declared.asking.Asking.{Asking}
use Rattle.bsp_routes.specs.declared.asking.Asking.TheVariants as asking
use Rattle.bsp_routes.specs.declared.methods.Methods.{Methods}
use Rattle.bsp_desk_writes.specs.Answers.{Answer}
use Rattle.bsp_desk_writes.specs.Texts.{Says}

-- the reply has the status, the media type and the text of the answer
abbrev pub IsSent : Answer → Reply → Type 0
IsSent answer reply = (message : Message) × Says answer message × IsReply message reply

-- the refusal's fixed reply
abbrev pub Refuses : RequestRefusal → Reply → Type 0
Refuses refusal reply = IsReply (Refused refusal) reply

-- what a caller reads of a reply
pub record ReplyRead : Type 0 where
  pub status : Status
  pub media : Media
  pub bytes : List ℕ

-- a reply as its caller reads it
abbrev pub read_of : Reply → ReplyRead
read_of reply = record { status = reply.status; media = reply.media; bytes = cow_slice_items reply.body }

-- the status is 503
abbrev pub is_unavailable : Status → Bool
is_unavailable status.ServiceUnavailable = true
is_unavailable _ = false

-- a refusal: neither 200 nor 503
abbrev pub is_refusal : Status → Bool
is_refusal status.Ok = false
is_refusal status.ServiceUnavailable = false
is_refusal _ = true

-- the methods of the field `Allow`: a 405 to another method lists those of the path
abbrev pub allow_of : Asking (List ℕ) → Status → Option Methods
allow_of (asking.OtherMethod methods) status.MethodNotAllowed = Some methods
allow_of call status = None
