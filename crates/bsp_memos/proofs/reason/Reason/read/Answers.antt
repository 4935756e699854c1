use Rattle.std.proofs.Common.{◌≡◌, length, true, sym}
use Rattle.std.proofs.lemmas.Bool.{le-leb}
use Rattle.bsp_memos.specs.Reasons.{is_reason}
use Rattle.bsp_memos.proofs.ReasonLemmas.{filled}
use Rattle.bsp_memos.proofs.reason.Reason.read.Goals as goal

pub invariant_of-result : goal.invariant_of-result
invariant_of-result c =
    let count = length c.args.text.now in
    let is : is_reason c.args.text.now ≡ true =
    rw (le-leb 1 count c.if-count-lt1.false, le-leb count 40 c.if-count-gt40.false) (sym c.if-not-is_printable.ensures) in
    rw c.copy_from_slice.ensures.after (filled c.args.text.now c.if-count-gt40.false is)
