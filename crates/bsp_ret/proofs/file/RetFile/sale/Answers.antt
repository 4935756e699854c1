use Rattle.std.proofs.Common.{◌≡◌, ◌+◌, ◌∙◌, List, ℕ, [], get_or, ap, subst, arith}
use Rattle.bsp_ret.specs.Ret.{File}
use Rattle.bsp_ret.specs.Sales.{HasSale}
use Rattle.bsp_ret.proofs.GroupLemmas.{nth_group, sale_fit, has_sale}
use Rattle.bsp_ret.proofs.Wide.{group_begins, group_wide}
use Rattle.bsp_ret.proofs.file.RetFile.sale.Goals as goal

pub sale-requires-clause-some : goal.sale-requires-clause-some
sale-requires-clause-some c =
    let found = c.in-Some.ensures.lookup.3 in
    let is = nth_group c.self.invariant.0 _ c.args.index c.deref.result.now c.in-Some.group.now c.self.invariant.1 c.deref.ensures.value found.0 (found.1 []) in
    omega (arith, group_begins (c.args.index + 1) c.in-Some.group.now is)

pub sale-requires-clause-wide : goal.sale-requires-clause-wide
sale-requires-clause-wide c =
    let found = c.in-Some.ensures.lookup.3 in
    let is = nth_group c.self.invariant.0 _ c.args.index c.deref.result.now c.in-Some.group.now c.self.invariant.1 c.deref.ensures.value found.0 (found.1 []) in
    group_wide (c.args.index + 1) c.in-Some.group.now is

pub sale-requires-clause-fits : goal.sale-requires-clause-fits
sale-requires-clause-fits c =
    let found = c.in-Some.ensures.lookup.3 in
    let is = nth_group c.self.invariant.0 _ c.args.index c.deref.result.now c.in-Some.group.now c.self.invariant.1 c.deref.ensures.value found.0 (found.1 []) in
    sale_fit (c.args.index + 1) c.in-Some.group.now is

pub returns-in-Some : goal.returns-in-Some
returns-in-Some c =
    let found = c.in-Some.ensures.lookup.3 in
    let is = nth_group c.self.invariant.0 _ c.args.index c.deref.result.now c.in-Some.group.now c.self.invariant.1 c.deref.ensures.value found.0 (found.1 []) in
    let groups : c.deref.result.now ≡ c.args.self.now.groups = c.deref.ensures.value ∙ ap (λ (f : File). f.groups) c.self.view_is in
    let same : c.in-Some.group.now ≡ get_or c.args.self.now.groups c.args.index [] = found.1 [] ∙ ap (λ xs. get_or xs c.args.index []) groups in
    let HasThis : List (List ℕ) → Type 0 = λ ls. HasSale (c.args.index + 1) ls c.sale.result in
    subst HasThis same (has_sale (c.args.index + 1) c.in-Some.group.now c.sale.result is c.sale.ensures.sale c.sale.ensures.paid)
