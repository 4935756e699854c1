use Rattle.std.proofs.Common.{refl}
use Rattle.bsp_fields.specs.Days.{day_text}
use Rattle.bsp_fields.specs.Decimal.{fixed_digits}
use Rattle.bsp_messages.proofs.objects.put_terms.Goals as goal

pub returns : goal.returns
returns c =
    let issued = c.in_ok-put_shown-2.ensures (day_text c.args.memo.now.issued) refl in
    let document = c.in_ok-put_shown.ensures (fixed_digits 10 c.args.memo.now.document) refl in
    rw (c.in_ok-put_text-3.ensures, c.word.ensures.text, c.in_ok-put_text-2.ensures, c.as_str.ensures.text, c.in_ok-put_text.ensures, c.code.ensures.text, issued, document) refl
