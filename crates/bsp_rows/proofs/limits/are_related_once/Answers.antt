use Rattle.std.proofs.Common.{◌∙◌, IfOk, List, subst}
use Rattle.std.specs.Bool.{Decides}
use Rattle.bsp_rows.specs.Audit.{AreWithin, relation_cmp}
use Rattle.bsp_rows.specs.declared.limits.RelationKey.{RelationKey}
use Rattle.bsp_rows.proofs.limits.are_related_once.Goals as goal

pub returns : goal.returns
returns c = subst (λ (keys : List RelationKey). IfOk c.are_within.result (λ once. Decides once (AreWithin relation_cmp 1 keys))) (c.deref.ensures.value ∙ c.in_ok-keys.ensures) c.are_within.ensures
