use Rattle.std.proofs.lemmas.Str.{IsUtf8-from_ascii}
use Rattle.bsp_fields.proofs.digits.display_digits.Goals as goal

-- ASCII is UTF-8
pub unreachable-requires : goal.unreachable-requires
unreachable-requires g c = c.in_default.ensures.cases.0 (IsUtf8-from_ascii c.args.text.now c.requires)
