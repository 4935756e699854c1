-- The reply where there was no memory for a body.
use Rattle.std.specs.Prelude.{None}
use Rattle.bsp_desk.specs.Answers.{media_of, status_of, text_of}
use Rattle.bsp_desk.specs.Answer.TheVariants.{Refused}
use Rattle.bsp_desk.specs.RequestRefusal.TheVariants.{NoRoom}
use Rattle.bsp_routes.specs.Replies.{ReplyText}

-- 503 B01
abbrev pub no_room : ReplyText
no_room = record { status = status_of (Refused NoRoom); media = media_of (Refused NoRoom); allow = None; body = text_of (Refused NoRoom) }
