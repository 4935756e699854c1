use Rattle.std.proofs.Common.{◌≡◌, ◌∙◌, List, ℕ, Some, refl, sym, ap, subst, arith}
use Rattle.std.specs.Int.{w128}
use Rattle.std.proofs.lemmas.Int.{to_z-of_z, fits_signed_from_abs}
use Rattle.bsp_ret_records.specs.declared.transactions.PaidSale.{PaidSale}
use Rattle.bsp_ret.specs.Judging.{Judged, AreTaken}
use Rattle.bsp_ret.proofs.JudgingLemmas.{file_of_taken, fault_of_taken}
use Rattle.bsp_ret.proofs.judging.Judging.end.Goals as goal

-- what is taken is of the fields
of_fields : (ls : List (List ℕ)) (sales : List PaidSale) (j k : Judged) → k ≡ j → AreTaken ls j sales → AreTaken ls k sales
of_fields ls sales j k is t = subst (λ (x : Judged). AreTaken ls x sales) (sym is) t

pub returns-then-has_ended-clause-file : goal.returns-then-has_ended-clause-file
returns-then-has_ended-clause-file c = λ ls sales t.
    let j = c.self.inside in
    let few = ap (λ (x : Judged). x.at.records) c.self.view_is in
    let sum = to_z-of_z w128 j.at.sum (fits_signed_from_abs w128 j.at.sum (omega (arith, few, c.requires, c.self.invariant.small))) in
    file_of_taken ls sales (record { at = j.at; begun = j.begun }) _ (of_fields ls sales c.args.self.now (record { at = j.at; begun = j.begun }) c.self.view_is t) c.self.invariant.some (sym c.has_ended.ensures ∙ c.if-has_ended.true) refl refl sum

pub returns-else-has_ended-clause-fault : goal.returns-else-has_ended-clause-fault
returns-else-has_ended-clause-fault c = λ ls sales t.
    let j = c.self.inside in
    fault_of_taken ls sales (record { at = j.at; begun = j.begun }) (of_fields ls sales c.args.self.now (record { at = j.at; begun = j.begun }) c.self.view_is t) (sym c.has_ended.ensures ∙ c.if-has_ended.false) ∙ ap Some (sym c.fault.ensures)
