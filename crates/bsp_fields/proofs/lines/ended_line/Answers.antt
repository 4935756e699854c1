use Rattle.std.proofs.Common.{◌≡◌, ◌<◌, ◌+◌, ◌∙◌, length, take, get_or, ap, sym, arith, false}
use Rattle.std.proofs.lemmas.Bool.{eqb-true}
use Rattle.std.proofs.lemmas.List.{take_all, take_rest}
use Rattle.bsp_fields.specs.Lines.{has_end}
use Rattle.bsp_fields.proofs.CutLemmas.{no_end_before, begins_with_line}
use Rattle.bsp_fields.proofs.lines.ended_line.Goals as goal

pub returns-in-None-clause-none : goal.returns-in-None-clause-none
returns-in-None-clause-none c =
    let bytes = c.args.bytes.now in
    ap has_end (sym (take_all (length bytes) bytes (omega arith))) ∙ no_end_before bytes (length bytes) (omega arith) (λ j below is. c.in-None.ensures j (omega arith) below is)

pub returns-in-Some-clause-some : goal.returns-in-Some-clause-some
returns-in-Some-clause-some c =
    let bytes = c.args.bytes.now in
    let end = c.in-Some.end in
    let first = c.in-Some.ensures in
    let below : end < length bytes = first.0.high in
    let none : has_end (take end bytes) ≡ false = no_end_before bytes end (omega arith) (λ j before is. first.0.before j (omega arith) before is) in
    rw (take_rest bytes (end + 1), c.without_carriage_return-line.ensures) (begins_with_line bytes end below (eqb-true (get_or bytes end 0) 10 first.1) none)
