use Rattle.std.proofs.Common.{◌∙◌, IfOk, List, subst}
use Rattle.std.specs.Bool.{Decides}
use Rattle.bsp_rows.specs.Audit.{AreWithin, parties_cmp}
use Rattle.bsp_rows.specs.declared.limits.PartiesKey.{PartiesKey}
use Rattle.bsp_rows.proofs.limits.are_memos_within.Goals as goal

pub returns : goal.returns
returns c = subst (λ (keys : List PartiesKey). IfOk c.are_within.result (λ within. Decides within (AreWithin parties_cmp c.args.limit keys))) (c.deref.ensures.value ∙ c.in_ok-keys.ensures) c.are_within.ensures
