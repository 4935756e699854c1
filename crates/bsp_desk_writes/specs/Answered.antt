-- Answers that need no memo, and lists of memos.
use Rattle.std.specs.Prelude.{◌≡◌}
use Rattle.bsp_messages.specs.declared.answer.Answer.{Answer as Message}
use Rattle.bsp_messages.specs.declared.answer.Answer.TheVariants as message
use Rattle.bsp_messages.specs.declared.fault.BodyFault.{BodyFault}
use Rattle.bsp_messages.specs.declared.fault.BodyFault.TheVariants as body
use Rattle.bsp_messages.specs.declared.refusal.RequestRefusal.TheVariants.{Malformed}
use Rattle.bsp_rows.specs.Rows.{Rows, memos_of}
use Rattle.bsp_rows.specs.declared.questions.Memos.{Memos as Question}
use Rattle.bsp_office_spec.specs.Answers.{Answer}
use Rattle.bsp_office_spec.specs.Answers.Answer.{Memos}

-- the body is malformed, and the message says so
pub record IsMalformed (fault : BodyFault) (m : Message) : Type 0 where
  pub cause : fault ≡ body.Malformed
  pub said : m ≡ message.Refused Malformed

-- the answer to a question for memos: all that it asks for
abbrev pub listed : Question → Rows → Answer
listed which rows = Memos (memos_of which rows)
