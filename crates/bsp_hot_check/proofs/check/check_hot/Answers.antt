use Rattle.std.proofs.Common.{◌≡◌, ◌+◌, ℕ, List, Some, ◌∙◌, sym, ap, subst}
use Rattle.bsp_fields.specs.Lines.{lines}
use Rattle.bsp_hot_check.specs.declared.model.Standing.{Standing}
use Rattle.bsp_hot_check.specs.Hot.{IsFirstFault}
use Rattle.bsp_hot_check.specs.Standings.{start}
use Rattle.bsp_hot_check.specs.Judging.{stands_after}
use Rattle.bsp_hot_check.specs.Pieces.{Passes, AreRefused}
use Rattle.bsp_hot_check.proofs.PieceLemmas.{refused_faulty, found_only, fault_only}
use Rattle.bsp_hot_check.proofs.check.check_hot.Goals as goal

-- what is known after the state before any record
all_from : (at then : Standing) (ls : List (List ℕ)) → at ≡ start → stands_after at ls ≡ Some then → stands_after start ls ≡ Some then
all_from at then ls first is = ap (λ s. stands_after s ls) (sym first) ∙ is

faulty_from : (at then : Standing) (text rest : List ℕ) → at ≡ start → Passes at text then rest → AreRefused then (lines rest) → IsFirstFault (lines text) (then.records + 1)
faulty_from at then text rest first passes refused =
    let From : Standing → Type 0 = λ s. Passes s text then rest in refused_faulty then text rest (subst From first passes) refused

pub returns-in-Some-clause-only : goal.returns-in-Some-clause-only
returns-in-Some-clause-only c =
    let ls = lines c.args.bytes.now in
    let all = all_from c.start-at.result c.take_last.new.self ls c.start-at.ensures c.in-Ok.ensures.all in
    found_only ls c.in-Some.totals (c.in-Some.ensures.found ls all)

pub returns-in-None-clause-only : goal.returns-in-None-clause-only
returns-in-None-clause-only c =
    let ls = lines c.args.bytes.now in
    let all = all_from c.start-at.result c.take_last.new.self ls c.start-at.ensures c.in-Ok.ensures.all in
    fault_only ls c.next_fault.result (c.take_last.new.self.records + 1) c.next_fault.ensures (c.in-None.ensures.missing ls all)

pub returns-in-Err-clause-only : goal.returns-in-Err-clause-only
returns-in-Err-clause-only c =
    let then = c.take_last.new.self in
    let bytes = c.args.bytes.now in
    fault_only (lines bytes) c.next_fault-in-Err.result (then.records + 1) c.next_fault-in-Err.ensures (faulty_from c.start-at.result then bytes c.in-Err.field-0.now c.start-at.ensures c.in-Err.ensures.stopped c.in-Err.ensures.refused)

pub returns-in-Err-clause-fault : goal.returns-in-Err-clause-fault
returns-in-Err-clause-fault c =
    let bytes = c.args.bytes.now in
    let First : ℕ → Type 0 = λ n. IsFirstFault (lines bytes) n in
    subst First (sym c.next_fault-in-Err.ensures) (faulty_from c.start-at.result c.take_last.new.self bytes c.in-Err.field-0.now c.start-at.ensures c.in-Err.ensures.stopped c.in-Err.ensures.refused)
