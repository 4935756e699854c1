-- What the parts of a trial make of a book in memory.
use Rattle.std.specs.Prelude.{◌≡◌, ℕ, List, None, Some, Option, Ok}
use Rattle.std.specs.Global.{Vec}
use Rattle.std.specs.List.{FoldsTo}
use Rattle.bsp_rows.specs.Transaction.{Transaction}
use Rattle.bsp_rules.specs.declared.verdict.Verdict.{Verdict}
use Rattle.bsp_rows.specs.Rows.{Rows}
use Rattle.bsp_rows.specs.Sound.{Sound}
use Rattle.bsp_memory_rows.specs.Tables.{rows_of}
use Rattle.bsp_messages.specs.declared.answer.Answer.{Answer as Message}
use Rattle.bsp_messages.specs.declared.answer.Answer.TheVariants as message
use Rattle.bsp_messages.specs.declared.refusal.RequestRefusal.{RequestRefusal}
use Rattle.bsp_book.specs.Listed.{meaning}
use Rattle.bsp_book.specs.declared.list.ListBook.{ListBook}
use Rattle.bsp_desk_writes.specs.Answers.Answer.{Verdicts}
use Rattle.bsp_desk_writes.specs.Requests.AgentRequest.{AgentFile}
use Rattle.bsp_desk_writes.specs.Texts.{Says}
use Rattle.bsp_desk.specs.Instructions.{Own, own_after, own_answer}
use Rattle.bsp_desk.specs.Instructions.Own.{OfAgent}
use Rattle.bsp_desk.specs.declared.instruction.Instruction.{Instruction}
use Rattle.bsp_desk.specs.declared.instruction.Instruction.TheVariants as instruction
use Rattle.bsp_judge.specs.Asked.{Takes, Task}
use Rattle.bsp_judge.specs.Asked.Task.{Publish, SetDay, Register, Allot, Close, AskFor}

-- the rows of a book
abbrev pub rows_in : ListBook → Rows
rows_in book = rows_of book.tables

-- it holds them, they are sound, and no transaction is open
pub record IsSettled (book : ListBook) : Type 0 where
  pub sound : Sound (rows_in book)
  pub holds : meaning.holds book (rows_in book) None

-- a request over a settled book is answered so, and leaves a settled book of the rows after it
pub record IsAnswered (old : ListBook) (own : Own) (message : Message) (new : ListBook) : Type 0 where
  pub says : Says (own_answer own (rows_in old)) message
  pub after : rows_in new ≡ own_after own (rows_in old)
  pub settled : IsSettled new

-- the instruction is the task
abbrev pub IsFor : Task → Instruction → Type 0
IsFor (Publish text) (instruction.Publish bytes) = bytes.now ≡ text
IsFor (SetDay day) (instruction.SetDay other) = other ≡ day
IsFor (Register agent) (instruction.Register other token) = other ≡ agent
IsFor (Allot agent first last) (instruction.Allot other from to) = (other ≡ agent) × (from ≡ first) × (to ≡ last)
IsFor (Close period) (instruction.Close other) = other ≡ period
IsFor (AskFor agent period) (instruction.Statement other of) = (other ≡ agent) × (of ≡ period)
IsFor _ _ = ⊥

-- tasks are taken from one settled book to the next
pub record Moves (old : ListBook) (these : List Task) (new : ListBook) : Type 0 where
  pub taken : FoldsTo Takes (rows_in old) these (rows_in new)
  pub settled : IsSettled new

-- one is taken
pub record Moved (old : ListBook) (task : Task) (new : ListBook) : Type 0 where
  pub taken : Takes (rows_in old) task (rows_in new)
  pub settled : IsSettled new

-- the refusal that a message is
abbrev pub refusal_in : Message → Option RequestRefusal
refusal_in (message.Refused refusal) = Some refusal
refusal_in _ = None

-- the verdicts that a message has
abbrev pub verdicts_in : Message → Option (Vec Verdict)
verdicts_in (message.Verdicts verdicts) = Some verdicts
verdicts_in _ = None

-- the agent's file of these transactions has these verdicts
pub record IsReported (old : ListBook) (agent : ℕ) (ts : List Transaction) (verdicts : List Verdict) (new : ListBook) : Type 0 where
  pub answered : own_answer (OfAgent agent (AgentFile (Ok ts))) (rows_in old) ≡ Verdicts verdicts
  pub after : rows_in new ≡ own_after (OfAgent agent (AgentFile (Ok ts))) (rows_in old)
  pub settled : IsSettled new
