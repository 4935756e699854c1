use Rattle.std.proofs.Common.{rules}
use Rattle.bsp_book.proofs.list.ListBook.sound.Goals as goal

pub returns-in-Ok-clause-sound : goal.returns-in-Ok-clause-sound
returns-in-Ok-clause-sound c = search rules

pub returns-in-Ok-clause-held : goal.returns-in-Ok-clause-held
returns-in-Ok-clause-held c = search rules
