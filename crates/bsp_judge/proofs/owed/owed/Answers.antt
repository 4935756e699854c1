use Rattle.std.proofs.Common.{◌≡◌, arith, ap, sym, ◌∙◌}
use Rattle.std.proofs.lemmas.Int.{ints}
use mir.Syntax.{w128}
use mir.Val.{of_z, to_z}
use Rattle.bsp_rows.specs.Tallies.{tallies_of}
use Rattle.bsp_rows.specs.declared.questions.Tallies.TheVariants.{OfAgent}
use Rattle.bsp_judge.proofs.JudgeLemmas.{owed_is}
use Rattle.bsp_judge.proofs.owed.owed.Goals as goal

pub returns-in-Ok-clause-net : goal.returns-in-Ok-clause-net
returns-in-Ok-clause-net c =
    let fits : to_z w128 (of_z w128 c.net_of.result) ≡ c.net_of.result = omega (arith, ints, c.net_of.ensures.bound) in
    owed_is (to_z w128 (of_z w128 c.net_of.result)) c.args.agent c.args.book.now c.deref.result.now (fits ∙ c.net_of.ensures.net)
    (λ rows begun holds. c.deref.ensures.value ∙ (rw c.tables.ensures at c.in-Ok.ensures) holds.derived ∙ ap (tallies_of (OfAgent c.args.agent)) (sym holds.rows))
