use Rattle.std.proofs.Common.{◌∙◌, refl, sym}
use Rattle.std.proofs.lemmas.List.{take_rest}
use Rattle.bsp_ret.proofs.FeedLemmas.{none_left, some_left, file_came, trailer_lacks, last_fails, last_lacks, last_trailer}
use Rattle.bsp_ret.proofs.pieces.judge_rest.Goals as goal

pub returns-then-has_ended-clause-ok : goal.returns-then-has_ended-clause-ok
returns-then-has_ended-clause-ok c = λ closed known.
    let rest = take_rest c.args.bytes.now c.args.notes.judged in
    let none = none_left c.args.bytes.now c.args.notes.judged (rw rest at (sym c.is_empty.ensures ∙ c.if-is_empty.true)) in
    file_came c.args.notes closed c.args.bytes.now known none (sym c.has_ended.ensures ∙ c.if-has_ended.true)

pub returns-else-has_ended-clause-fault : goal.returns-else-has_ended-clause-fault
returns-else-has_ended-clause-fault c = λ closed known.
    let rest = take_rest c.args.bytes.now c.args.notes.judged in
    let none = none_left c.args.bytes.now c.args.notes.judged (rw rest at (sym c.is_empty.ensures ∙ c.if-is_empty.true)) in
    rw c.fault.ensures (trailer_lacks c.args.notes closed c.args.bytes.now known none (sym c.has_ended.ensures ∙ c.if-has_ended.false))

pub returns-in-Err-clause-fault : goal.returns-in-Err-clause-fault
returns-in-Err-clause-fault c = λ closed known.
    let rest = take_rest c.args.bytes.now c.args.notes.judged in
    let some = some_left c.args.bytes.now c.args.notes.judged (rw rest at (sym c.is_empty.ensures ∙ c.if-is_empty.false)) in
    rw c.fault-in-Err.ensures (last_fails c.args.notes closed c.args.bytes.now c.in-Err.code known some (rw rest at c.in-Err.ensures.fault))

pub returns-then-not-has_ended-clause-fault : goal.returns-then-not-has_ended-clause-fault
returns-then-not-has_ended-clause-fault c = λ closed known.
    let rest = take_rest c.args.bytes.now c.args.notes.judged in
    let some = some_left c.args.bytes.now c.args.notes.judged (rw rest at (sym c.is_empty.ensures ∙ c.if-is_empty.false)) in
    let going = sym c.has_ended-2.ensures ∙ c.if-not-has_ended.true in
    rw c.fault-then-not-has_ended.ensures (last_lacks c.args.notes closed c.args.bytes.now c.step.new.self known some (rw rest at c.in_default.ensures.row) (rw rest at c.in_default.ensures.state) going)

pub returns-clause-ok : goal.returns-clause-ok
returns-clause-ok c = λ closed known.
    let rest = take_rest c.args.bytes.now c.args.notes.judged in
    let some = some_left c.args.bytes.now c.args.notes.judged (rw rest at (sym c.is_empty.ensures ∙ c.if-is_empty.false)) in
    let ended = sym c.has_ended-2.ensures ∙ c.if-not-has_ended.false in
    last_trailer c.args.notes _ closed c.args.bytes.now known some (rw rest at c.in_default.ensures.row) (rw rest at c.in_default.ensures.state) c.in_default.ensures.fits ended refl refl refl refl
