use Rattle.std.proofs.Common.{◌≡◌, ◌+◌, ◌∙◌, List, ℕ, [], get_or, ap, subst, arith}
use Rattle.bsp_ret.specs.Ret.{File}
use Rattle.bsp_ret.specs.Groups.{HasRecords, records_of}
use Rattle.bsp_ret.proofs.GroupLemmas.{has_records, nth_group}
use Rattle.bsp_ret.proofs.Wide.{group_begins, group_wide}
use Rattle.bsp_ret.proofs.file.RetFile.records.Goals as goal

pub records-requires-clause-some : goal.records-requires-clause-some
records-requires-clause-some c =
    let found = c.in-Some.ensures.lookup.3 in
    let is = nth_group c.self.invariant.0 _ c.args.index c.deref.result.now c.in-Some.group.now c.self.invariant.1 c.deref.ensures.value found.0 (found.1 []) in
    omega (arith, group_begins (c.args.index + 1) c.in-Some.group.now is)

pub records-requires-clause-wide : goal.records-requires-clause-wide
records-requires-clause-wide c =
    let found = c.in-Some.ensures.lookup.3 in
    let is = nth_group c.self.invariant.0 _ c.args.index c.deref.result.now c.in-Some.group.now c.self.invariant.1 c.deref.ensures.value found.0 (found.1 []) in
    group_wide (c.args.index + 1) c.in-Some.group.now is

pub returns-in-Some : goal.returns-in-Some
returns-in-Some c =
    let found = c.in-Some.ensures.lookup.3 in
    let is = nth_group c.self.invariant.0 _ c.args.index c.deref.result.now c.in-Some.group.now c.self.invariant.1 c.deref.ensures.value found.0 (found.1 []) in
    let groups : c.deref.result.now ≡ c.args.self.now.groups = c.deref.ensures.value ∙ ap (λ (f : File). f.groups) c.self.view_is in
    let same : c.in-Some.group.now ≡ get_or c.args.self.now.groups c.args.index [] = found.1 [] ∙ ap (λ xs. get_or xs c.args.index []) groups in
    let HasThese : List (List ℕ) → Type 0 = λ ls. HasRecords (c.args.index + 1) ls (records_of c.records.result) in
    subst HasThese same (has_records (c.args.index + 1) c.in-Some.group.now (records_of c.records.result) is c.records.ensures)
