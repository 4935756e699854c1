use Rattle.std.proofs.Common.{Option, IfSome, ap, subst, ◌∙◌}
use Rattle.bsp_hot_check.specs.declared.model.Standing.{Standing}
use Rattle.bsp_hot_check.specs.Standings.{IsSmallNext, allowed}
use Rattle.bsp_hot_check.proofs.SizeLemmas.{all_small}
use Rattle.bsp_hot_check.proofs.model.Standing.take_line.Goals as goal

pub returns-in-Some-clause-small : goal.returns-in-Some-clause-small
returns-in-Some-clause-small c = λ taken.
    let Fits : Option Standing → Type 0 = λ next. IfSome next (IsSmallNext c.args.self.now) in
    let taken_is = c.take_record.ensures.next ∙ ap (λ x. allowed x c.take_record.new.self) taken in
    subst Fits taken_is (all_small c.args.self.now c.in-Some.next c.requires.small c.in-Some.ensures.small)
