-- What a stop leaves after an answer, by what the book then holds.
use Rattle.std.proofs.Common.{ℕ, List, None, Option, subst, sym}
use Rattle.std.specs.Prelude.{unwrap_or}
use Rattle.bsp_book.specs.Calls.{Meaning}
use Rattle.bsp_routes.specs.declared.reply.Reply.{Reply}
use Rattle.bsp_rows.specs.Rows.{Rows}
use Rattle.bsp_desk.specs.Steps.{Answers, left_by}
use Rattle.bsp_desk.specs.Stops.{Outlives}
use Rattle.bsp_desk.specs.declared.request.Request.{Request}

module _ {B : Type 0} (m : Meaning B Rows) (settled : (book : B) (now : Rows) (begun : Option Rows) → m.holds book now begun → m.leaves book (unwrap_or begun now) (unwrap_or begun now)) where
  pub outlives : (old new : B) (request : Request) (office : List ℕ) (reply : Reply) → Answers m old new request office reply → Outlives m old new request office reply
  outlives old new request office reply answers = record {
    answered = λ available reading read trust rows sound holds. settled new (left_by office rows reading) None (answers.kept available reading read trust rows sound holds).1;
    full = λ no_room reading read trust rows sound holds. settled new rows None (answers.full no_room reading read trust rows sound holds);
    failed = answers.stop;
    later = λ failed a b leaves. subst (λ (book : B). m.leaves book a b) (sym (answers.after_failure failed).1) leaves;
  }
