use Rattle.std.proofs.Common.{◌∙◌, refl, Some}
use Rattle.bsp_desk_writes.proofs.shown.show.Goals as goal

pub returns-in-Ok-clause-served : goal.returns-in-Ok-clause-served
returns-in-Ok-clause-served g c = λ trust now last s h.
    ((c.in-Ok.fields, c.in-Ok.ensures ∙ (c.deref.ensures.value ∙ c.in_ok-memos.ensures.found trust now (Some last) h), refl), c.in_ok-memos.ensures.ok now (Some last) h)
