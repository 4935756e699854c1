use Rattle.std.proofs.Common.{rules, ◌≡◌, ◌++◌, ◌∷◌, [], ap}
use Rattle.std.specs.Option.{ok_or}
use Rattle.bsp_calendar.specs.declared.fault.PlanFault.TheVariants.{WrongKey}
use Rattle.bsp_calendar.proofs.DocumentLemmas.{each_more_at, each_none_at}
use Rattle.bsp_calendar.proofs.reading.lists.items.Goals as goal

pub returns-in_default : goal.returns-in_default
returns-in_default g c =
    ap (λ items. ok_or items WrongKey)
    (each_none_at g.F.Form.form c.deref-value-items.result.now c.args.list.now.items c.loop-value.value-index c.value-item.result c.deref-value-items.ensures.value c.loop-value-test.true c.value-item.is c.in_default.ensures)

pub loop-value-preserved : goal.loop-value-preserved
loop-value-preserved g c =
    let grown : c.push.new.self.items ≡ c.loop-value.items.items ++ c.in-Some.item ∷ [] = search rules in
    each_more_at g.F.Form.form c.deref-value-items.result.now c.args.list.now.items c.loop-value.value-index c.value-item.result c.loop-value.items.items c.push.new.self.items c.in-Some.item
    c.deref-value-items.ensures.value c.loop-value-test.true c.value-item.is c.in-Some.ensures grown c.loop-value.invariant
