use Rattle.std.proofs.Common.{rules, ap}
use Rattle.std.specs.Option.{ok_or}
use Rattle.bsp_calendar.proofs.DocumentLemmas.{document-none, document-some}
use Rattle.bsp_calendar.specs.declared.fault.PlanFault.TheVariants.{NotToml}
use Rattle.bsp_calendar.proofs.reading.document_of.Goals as goal

pub returns-in-Ok : goal.returns-in-Ok
returns-in-Ok c = ap (λ d. ok_or d NotToml) (document-some c.args.text.now _ c.in-Ok.ensures.ok.0 c.in-Ok.ensures.ok.1)

pub returns-else-is_memory : goal.returns-else-is_memory
returns-else-is_memory c =
    ap (λ d. ok_or d NotToml) (document-none c.args.text.now (c.in-Err.ensures.refused (search rules)))
