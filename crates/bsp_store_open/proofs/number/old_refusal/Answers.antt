use Rattle.std.proofs.Common.{inl, inr, refl}
use Rattle.bsp_store_open.proofs.number.old_refusal.Goals as goal

pub returns-in-Ok-clause-earlier : goal.returns-in-Ok-clause-earlier
returns-in-Ok-clause-earlier g c = λ refused clean. inl (refl, c.in-Ok.ensures.numbered.number clean)

pub returns-in-Err-clause-earlier : goal.returns-in-Err-clause-earlier
returns-in-Err-clause-earlier g c = λ refused clean. inr (c.in-Err.ensures.refused refused clean)
