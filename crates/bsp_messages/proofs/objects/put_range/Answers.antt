use Rattle.std.proofs.Common.{refl}
use Rattle.bsp_fields.specs.Decimal.{fixed_digits}
use Rattle.bsp_messages.proofs.objects.put_range.Goals as goal

pub returns : goal.returns
returns c =
    let first = c.in_ok-put_shown.ensures (fixed_digits 10 c.args.shown.now.range.first) refl in
    let last = c.in_ok-put_shown-2.ensures (fixed_digits 10 c.args.shown.now.range.last) refl in
    rw (c.in_ok-put.ensures, c.from.ensures, last, first) refl
