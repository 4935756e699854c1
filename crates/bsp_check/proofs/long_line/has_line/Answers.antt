use Rattle.std.proofs.Common.{ℕ, List, subst}
use Rattle.bsp_ret.specs.Lines.{BeginsWithLine}
use Rattle.bsp_check.specs.Windows.{text_of}
use Rattle.bsp_check.proofs.LineLemmas.{whole_line}
use Rattle.bsp_check.proofs.long_line.has_line.Goals as goal

pub returns-in-Some-clause-whole : goal.returns-in-Some-clause-whole
returns-in-Some-clause-whole c = λ is more follows first line.
    let found = c.in-Some.field-0 in
    let Begins : List ℕ → Type 0 = λ text. BeginsWithLine text found.0.now found.1.now in
    whole_line (text_of c.args.window.now) found.0.now found.1.now more first (subst Begins c.text.ensures.text c.in-Some.ensures.some) line
