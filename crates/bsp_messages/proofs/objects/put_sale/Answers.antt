use Rattle.std.proofs.Common.{subst, sym}
use Rattle.std.specs.Str.{IsUtf8}
use Rattle.bsp_messages.proofs.BodyLemmas.{code_text-utf8}
use Rattle.bsp_messages.proofs.objects.put_sale.Goals as goal

pub unreachable-requires : goal.unreachable-requires
unreachable-requires c = c.in_default.ensures.cases.0 (subst IsUtf8 (sym c.text-code.ensures) (code_text-utf8 c.args.transaction.now.code))
