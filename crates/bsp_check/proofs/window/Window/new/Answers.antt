use Rattle.std.proofs.Common.{sym, ◌∙◌, arith}
use Rattle.std.proofs.lemmas.Bool.{false≢true}
use Rattle.bsp_check.proofs.window.Window.new.Goals as goal

pub returns-clause-window : goal.returns-clause-window
returns-clause-window c = record { filled = omega arith; wide = sym c.in_ok-from_elem.field-0.ok.0 ∙ c.in_ok-from_elem.ensures.len; within = λ ended. absurd (false≢true ended) }
