-- What a stop leaves of a book after an answer.
use Rattle.std.specs.Prelude.{◌≡◌, ℕ, List, true, false}
use Rattle.bsp_book.specs.Calls.{Meaning}
use Rattle.bsp_messages.specs.declared.refusal.RequestRefusal.TheVariants.{NoRoom, StoreFailed}
use Rattle.bsp_routes.specs.declared.reply.Reply.{Reply}
use Rattle.bsp_rows.specs.Rows.{Rows}
use Rattle.bsp_desk.specs.Replies.{Refuses, is_unavailable}
use Rattle.bsp_desk.specs.Steps.{OfRequest, left_by}
use Rattle.bsp_desk.specs.declared.request.Request.{Request}

module _ {B : Type 0} (m : Meaning B Rows) (old new : B) (request : Request) where
  pub record Outlives (office : List ℕ) (reply : Reply) : Type 0 where
    -- after an answer the rows that it leaves
    pub answered : is_unavailable reply.status ≡ false → OfRequest m old new request (λ rows reading. m.leaves new (left_by office rows reading) (left_by office rows reading))
    -- after B01 the rows as they were
    pub full : Refuses NoRoom reply → OfRequest m old new request (λ rows reading. m.leaves new rows rows)
    -- after the first B03 the rows as they were, or those after the request
    pub failed : Refuses StoreFailed reply → m.has_failed old ≡ false → OfRequest m old new request (λ rows reading. m.leaves new rows (left_by office rows reading))
    -- and after each later request the same as before it
    pub later : m.has_failed old ≡ true → (a b : Rows) → m.leaves old a b → m.leaves new a b
