-- What the bytes of a connection are cut into, whatever others ask of the desk in the meantime.
use Rattle.std.specs.Prelude.{◌≡◌, ℕ, ◌+◌, ◌<◌, Bool, true, false, ◌||◌, List, [], ◌∷◌, ◌++◌, ◌==◌}
use Rattle.std.specs.List.{FoldsTo, flat_map}
use Rattle.httparse.specs.Grammar.{RequestHead}
use Rattle.bsp_routes.specs.Replies.{ReplyText}
use Rattle.bsp_routes.specs.Responses.{refusal_reply, response}
use Rattle.bsp_routes.specs.declared.fault.Refused.{Refused}
use Rattle.bsp_routes.specs.declared.parts.Wanted.{Wanted}
use Rattle.bsp_connection.specs.Exchanges.{Exchange, Meaning, RequestText, head_of, inquiry, interim}
use Rattle.bsp_connection.specs.Exchanges.Exchange.{wants, replies}
use Rattle.bsp_connection.specs.Conversations.{HasHead, HasMessage, HasRefusal, head_text, message_limit}

-- what the desk was asked for a message, and the text that was put out for it
pub record Item : Type 0 where
  pub asked : List Exchange
  pub text : List ℕ

abbrev pub item : List Exchange → List ℕ → Item
item asked text = record { asked = asked; text = text }

abbrev pub asked : List Item → List Exchange
asked items = flat_map (λ i. i.asked) items

abbrev pub texts : List Item → List ℕ
texts items = flat_map (λ i. i.text) items

-- what is left of an input: how many messages were answered before, what came after them, and whether the last answer closed the connection
pub record Left : Type 0 where
  pub count : ℕ
  pub unread : List ℕ
  pub closed : Bool

abbrev pub left : ℕ → List ℕ → Bool → Left
left count unread closed = record { count = count; unread = unread; closed = closed }

module _ {D : Type 0} (m : Meaning D) where
  -- the message at the front is taken; after an answer that closes the connection none is
  pub data Takes (p : Left) (i : Item) (q : Left) : Type 0 where
    refused : (why : Refused) → p.closed ≡ false → HasRefusal p.unread why → i ≡ item [] (response why.bare true (refusal_reply why.fault)) → q.count ≡ p.count + 1 → q.closed ≡ true → Takes p i q
    unroomed : (len : ℕ) (h : RequestHead) (wanted : Wanted) → p.closed ≡ false → HasHead p.unread len h wanted → 0 < wanted.body → m.uses h.method h.target true
        → i ≡ item (inquiry wanted.expects (head_text h)) (interim wanted.expects ++ response wanted.bare true m.no_room) → q.count ≡ p.count + 1 → q.closed ≡ true → Takes p i q
    -- its sender waits, and the body is not wanted: the head alone is answered
    unwanted : (len : ℕ) (h : RequestHead) (wanted : Wanted) (reply : ReplyText) → p.closed ≡ false → HasHead p.unread len h wanted → wanted.expects ≡ true
        → i ≡ item (wants (head_text h) false ∷ replies (head_text h) reply ∷ []) (response wanted.bare true reply) → q.count ≡ p.count + 1 → q.closed ≡ true → Takes p i q
    answered : (request : RequestText) (reply : ReplyText) (wanted : Wanted) → p.closed ≡ false → HasMessage m p.unread request wanted q.unread
        → i ≡ item (inquiry wanted.expects (head_of request) ++ replies request reply ∷ []) (interim wanted.expects ++ response wanted.bare q.closed reply)
        → q.count ≡ p.count + 1 → q.closed ≡ (wanted.closes || q.count == message_limit) → Takes p i q

  -- the messages at the front are taken, one after the other
  abbrev pub AreTaken : Left → List Item → Left → Type 0
  AreTaken = FoldsTo Takes
