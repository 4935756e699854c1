use Rattle.std.proofs.Common.{◌≡◌, ℕ, true, List, length, take, drop, sym, ap, ◌∙◌, arith, length-drop}
use Rattle.std.specs.List.{list_all}
use Rattle.std.proofs.lemmas.List.{take_all}
use Rattle.bsp_fields.specs.Columns.{is_printable}
use Rattle.bsp_fields.proofs.CharacterLemmas.{list_all-parts}
use Rattle.bsp_fields.proofs.CutLemmas.{record_cut, record_wide}
use Rattle.bsp_fields.proofs.lines.first_record.Goals as goal

-- a record's first 128 characters and its last 16
both_parts : (line : List ℕ) → length line ≡ 136 → list_all is_printable (take 128 line) ≡ true → list_all is_printable (take 16 (drop 120 line)) ≡ true → list_all is_printable line ≡ true
both_parts line long front back =
    let whole : take 16 (drop 120 line) ≡ drop 120 line = take_all 16 (drop 120 line) (omega (arith, length-drop 120 line)) in
    list_all-parts is_printable 120 128 line (omega arith) front (sym (ap (list_all is_printable) whole) ∙ back)

pub returns-then-all_printable-2-clause-first : goal.returns-then-all_printable-2-clause-first
returns-then-all_printable-2-clause-first c =
    let chunk = c.in-Some.ensures.cases in
    let split = c.in-Some-split_first.ensures.cases in
    let printable = both_parts c.in-Some.line.now (omega arith) (sym c.all_printable.ensures ∙ c.if-all_printable.true) (sym c.all_printable-then-all_printable.ensures ∙ c.if-all_printable-2.true) in
    record_cut c.args.bytes.now c.in-Some.line.now c.in-Some.tail.now c.in-Some-split_first.after.now 136 c.in-Some-split_first.end.now chunk.0 chunk.1 chunk.2 split.0 c.if-end-eq10.true printable

pub returns-then-all_printable-2-clause-wide : goal.returns-then-all_printable-2-clause-wide
returns-then-all_printable-2-clause-wide c =
    record_wide c.in-Some.line.now (omega arith) (both_parts c.in-Some.line.now (omega arith) (sym c.all_printable.ensures ∙ c.if-all_printable.true) (sym c.all_printable-then-all_printable.ensures ∙ c.if-all_printable-2.true))
