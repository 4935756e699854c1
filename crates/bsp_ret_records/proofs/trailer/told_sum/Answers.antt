use Rattle.std.proofs.Common.{◌≡◌, false, is_ok, sym, ap, ◌∙◌}
use Rattle.bsp_fields.specs.Zoned.{zoned_reading}
use Rattle.bsp_ret_records.specs.Records.{total}
use Rattle.bsp_ret_records.proofs.ValueLemmas.{trailer_fields}
use Rattle.bsp_ret_records.proofs.trailer.told_sum.Goals as goal

pub unreachable-requires : goal.unreachable-requires
unreachable-requires c =
    let none : is_ok (zoned_reading 15 (total c.args.line.now)) ≡ false = ap is_ok (ap (zoned_reading 15) (sym c.total.ensures) ∙ (sym c.read_total.ensures ∙ c.in_default.is)) in
    absurd (cc (none, (trailer_fields c.args.line.now c.requires.1).sum))
