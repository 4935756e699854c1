-- Replies as their bytes.
use Rattle.std.specs.Prelude.{ℕ, List, Option}
use Rattle.std.specs.Cow.{cow_slice_items}
use Rattle.bsp_routes.specs.declared.methods.Methods.{Methods}
use Rattle.bsp_routes.specs.declared.reply.Reply.{Reply}
use Rattle.bsp_routes.specs.declared.status.Media.{Media}
use Rattle.bsp_routes.specs.declared.status.Status.{Status}
use Rattle.bsp_routes.specs.declared.status.Status.TheVariants as status

abbrev pub code : Status → ℕ
code status.Ok = 200
code status.BadRequest = 400
code status.Forbidden = 403
code status.NotFound = 404
code status.MethodNotAllowed = 405
code status.Conflict = 409
code status.LengthRequired = 411
code status.PayloadTooLarge = 413
code status.UnprocessableEntity = 422
code status.RequestHeaderFieldsTooLarge = 431
code status.NotImplemented = 501
code status.ServiceUnavailable = 503

-- a reply with the bytes of its body
pub record ReplyText : Type 0 where
  pub status : Status
  pub media : Media
  pub allow : Option Methods
  pub body : List ℕ

abbrev pub reply_text : Reply → ReplyText
reply_text reply = record { status = reply.status; media = reply.media; allow = reply.allow; body = cow_slice_items reply.body }
