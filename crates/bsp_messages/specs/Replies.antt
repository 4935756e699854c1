-- Replies: an answer's status, media type and bytes.
use Rattle.std.specs.Prelude.{◌≡◌, Bool, true, false}
use Rattle.std.specs.Cow.{cow_slice_items}
use Rattle.bsp_routes.specs.declared.reply.Reply.{Reply}
use Rattle.bsp_ret.specs.declared.model.FaultCode.{FaultCode}
use Rattle.bsp_ret.specs.declared.model.FaultCode.TheVariants.{F10}
use Rattle.bsp_messages.specs.declared.answer.Answer.{Answer}
use Rattle.bsp_messages.specs.declared.answer.Answer.TheVariants.{Changed, Verdicts, Document, Period, Ranges, Memos, Report, Hot, FileFault, Refused}
use Rattle.bsp_messages.specs.Answers.{status_of, media_of, text_of}

-- the reply of an answer
pub record IsReply (answer : Answer) (reply : Reply) : Type 0 where
  pub status : reply.status ≡ status_of answer
  pub media : reply.media ≡ media_of answer
  pub body : cow_slice_items reply.body ≡ text_of answer

-- whether the text of a RET file's fault has to be written; that of want of memory is fixed
abbrev pub fault_takes_memory : FaultCode → Bool
fault_takes_memory F10 = false
fault_takes_memory code = true

-- whether a text has to be written; the others are fixed, or come with the answer
abbrev pub takes_memory : Answer → Bool
takes_memory (Changed change) = false
takes_memory (Verdicts verdicts) = true
takes_memory (Document document) = true
takes_memory (Period period) = true
takes_memory (Ranges ranges) = true
takes_memory (Memos memos) = true
takes_memory (Report text) = false
takes_memory (Hot file) = false
takes_memory (FileFault fault) = fault_takes_memory fault.code
takes_memory (Refused refusal) = false
