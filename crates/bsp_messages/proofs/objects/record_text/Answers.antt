use Rattle.std.proofs.Common.{refl, subst, sym}
use Rattle.std.specs.Str.{IsUtf8}
use Rattle.bsp_messages.specs.Answers.{record_object}
use Rattle.bsp_messages.proofs.BodyLemmas.{fault_text-utf8}
use Rattle.bsp_messages.proofs.objects.record_text.Goals as goal

pub unreachable-requires : goal.unreachable-requires
unreachable-requires c = c.in_default.ensures.cases.0 (subst IsUtf8 (sym c.text-code.ensures) (fault_text-utf8 c.args.fault.code))

pub returns : goal.returns
returns c =
    let code = c.in_ok-put_text.ensures in
    c.object_text.ensures (record_object c.args.fault.code c.args.fault.at) (rw (c.in_ok-put.ensures, c.from.ensures, code, c.new-object.ensures.empty, c.in-Ok.ensures.cases.0, c.text-code.ensures) refl) refl
