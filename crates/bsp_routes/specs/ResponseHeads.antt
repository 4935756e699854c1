-- The head of a response.
use Rattle.std.specs.Prelude.{ℕ, Bool, true, false, List, [], ◌∷◌, ◌++◌, codes, decimal, Option, Some, None}
use Rattle.bsp_routes.specs.Calls.{allow_text}
use Rattle.bsp_routes.specs.declared.methods.Methods.{Methods}
use Rattle.bsp_routes.specs.declared.status.Status.{Status}
use Rattle.bsp_routes.specs.declared.status.Status.TheVariants as status
use Rattle.bsp_routes.specs.declared.status.Media.{Media}
use Rattle.bsp_routes.specs.declared.status.Media.TheVariants as media
use Rattle.bsp_routes.specs.Replies.{code}
use Rattle.bsp_routes.specs.declared.response_head.ResponseHead.{ResponseHead}

abbrev pub phrase : Status → List ℕ
phrase status.Ok = codes "OK"
phrase status.BadRequest = codes "Bad Request"
phrase status.Forbidden = codes "Forbidden"
phrase status.NotFound = codes "Not Found"
phrase status.MethodNotAllowed = codes "Method Not Allowed"
phrase status.Conflict = codes "Conflict"
phrase status.LengthRequired = codes "Length Required"
phrase status.PayloadTooLarge = codes "Payload Too Large"
phrase status.UnprocessableEntity = codes "Unprocessable Entity"
phrase status.RequestHeaderFieldsTooLarge = codes "Request Header Fields Too Large"
phrase status.NotImplemented = codes "Not Implemented"
phrase status.ServiceUnavailable = codes "Service Unavailable"

abbrev pub media_type : Media → List ℕ
media_type media.Json = codes "application/json"
media_type media.Text = codes "text/plain"

abbrev pub allow_lines : Option Methods → List (List ℕ)
allow_lines None = []
allow_lines (Some methods) = (codes "Allow: " ++ allow_text methods) ∷ []

abbrev pub closing_lines : Bool → List (List ℕ)
closing_lines true = codes "Connection: close" ∷ []
closing_lines false = []

-- the status line and the fields, in their order
abbrev pub head_lines : ResponseHead → List (List ℕ)
head_lines head =
    (codes "HTTP/1.1 " ++ (decimal (code head.status) ++ (codes " " ++ phrase head.status)))
    ∷ (codes "Content-Type: " ++ media_type head.media)
    ∷ (codes "Content-Length: " ++ decimal head.length)
    ∷ (allow_lines head.allow ++ closing_lines head.closes)

-- lines, each ended by CR LF
abbrev pub lines_text : List (List ℕ) → List ℕ
lines_text [] = []
lines_text (line ∷ lines) = line ++ (codes "\r\n" ++ lines_text lines)

-- the text of the head, with its empty line
unfoldable pub head_text : ResponseHead → List ℕ
head_text head = lines_text (head_lines head) ++ codes "\r\n"
