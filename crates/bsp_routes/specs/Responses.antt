-- The whole text of a response, and the answers to refused heads.
use Rattle.std.specs.Prelude.{ℕ, Bool, List, [], ◌++◌, length, if◌then◌else◌, codes, None}
use Rattle.bsp_routes.specs.declared.status.Status.{Status}
use Rattle.bsp_routes.specs.declared.status.Status.TheVariants as status
use Rattle.bsp_routes.specs.declared.status.Media.TheVariants as media
use Rattle.bsp_routes.specs.declared.response_head.ResponseHead.{ResponseHead}
use Rattle.bsp_routes.specs.declared.fault.HeadFault.{HeadFault}
use Rattle.bsp_routes.specs.declared.fault.HeadFault.TheVariants.{Malformed, LengthRequired, BodyTooLarge, HeadTooLarge, TransferCoding}
use Rattle.bsp_routes.specs.Replies.{ReplyText}
use Rattle.bsp_routes.specs.ResponseHeads.{head_text}

abbrev pub reply_head : Bool → ReplyText → ResponseHead
reply_head closes reply =
    record { status = reply.status; media = reply.media; length = length reply.body; allow = reply.allow; closes = closes }

-- the whole text of a response, by whether a HEAD is answered and whether the connection closes: the length is that of the whole body, which is left out where a HEAD is answered
abbrev pub response : Bool → Bool → ReplyText → List ℕ
response to_head closes reply = head_text (reply_head closes reply) ++ (if to_head then [] else reply.body)

abbrev pub continue_text : List ℕ
continue_text = codes "HTTP/1.1 100 Continue\r\n\r\n"

-- a refusal with a JSON text
abbrev pub code_reply : Status → List ℕ → ReplyText
code_reply s body = record { status = s; media = media.Json; allow = None; body = body }

abbrev pub refusal_reply : HeadFault → ReplyText
refusal_reply Malformed = code_reply status.BadRequest (codes "{\"code\":\"T01\"}")
refusal_reply LengthRequired = code_reply status.LengthRequired (codes "{\"code\":\"T02\"}")
refusal_reply BodyTooLarge = code_reply status.PayloadTooLarge (codes "{\"code\":\"T03\"}")
refusal_reply HeadTooLarge = code_reply status.RequestHeaderFieldsTooLarge (codes "{\"code\":\"T04\"}")
refusal_reply TransferCoding = code_reply status.NotImplemented (codes "{\"code\":\"T05\"}")
