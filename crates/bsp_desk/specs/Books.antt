-- What two books of the same rows reply to the same requests.
use Rattle.std.specs.Prelude.{◌≡◌, ℕ, false, List, [], ◌∷◌, None, map}
use Rattle.bsp_book.specs.Calls.{Meaning}
use Rattle.bsp_routes.specs.declared.reply.Reply.{Reply}
use Rattle.bsp_rows.specs.Rows.{Rows}
use Rattle.bsp_rows.specs.Sound.{Sound}
use Rattle.bsp_desk_writes.specs.Requests.{Request as Reading}
use Rattle.bsp_desk.specs.Reading.{AreRead}
use Rattle.bsp_desk.specs.Replies.{is_unavailable, read_of}
use Rattle.bsp_desk.specs.Runs.{AreAnswered, RunReplied}
use Rattle.bsp_desk.specs.declared.request.Request.{Request}

-- no reply is a 503
abbrev pub AreAvailable : List Reply → Type 0
AreAvailable [] = Unit {0}
AreAvailable (reply ∷ replies) = (is_unavailable reply.status ≡ false) × AreAvailable replies

-- each reply is read as the other, up to the first 503 of either
abbrev pub AreAlike : List Reply → List Reply → Type 0
AreAlike [] [] = Unit {0}
AreAlike (reply ∷ replies) (other ∷ others) =
    is_unavailable reply.status ≡ false → is_unavailable other.status ≡ false → (read_of reply ≡ read_of other) × AreAlike replies others
AreAlike _ _ = ⊥

-- two runs of one office from the same rows over the same readings: equal replies up to a 503; where there is none, equal replies and the same rows
abbrev pub RunsReplyAlike : Type 0
RunsReplyAlike =
    (office : List ℕ) (rows : Rows) (readings : List Reading) (replies others : List Reply)
    (run : RunReplied office rows readings replies) (other : RunReplied office rows readings others) →
    AreAlike replies others × (AreAvailable replies → AreAvailable others → (map read_of replies ≡ map read_of others) × (run.left ≡ other.left))

-- two books that hold the same sound rows, of whatever kinds: where no reply is a 503 the same requests have equal replies, and the books then hold the same rows
abbrev pub BooksReplyAlike : {A B : Type 0} → Meaning A Rows → Meaning B Rows → Type 0
BooksReplyAlike {A} {B} m n =
    (office : List ℕ) (requests : List Request) (replies others : List Reply) (old new : A) (start last : B) (readings : List Reading) (rows : Rows) →
    AreAnswered m office old requests replies new → AreAnswered n office start requests others last → AreRead requests readings → m.trusts new → n.trusts last →
    Sound rows → m.holds old rows None → n.holds start rows None →
    AreAlike replies others
    × (AreAvailable replies → AreAvailable others → (map read_of replies ≡ map read_of others) × (left : Rows) × m.holds new left None × n.holds last left None)
