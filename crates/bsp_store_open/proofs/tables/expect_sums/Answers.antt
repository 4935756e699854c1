use Rattle.std.proofs.Common.{IsPermutation, refl, ap, subst, ◌∙◌}
use Rattle.bsp_store_load.specs.Content.{tally_part, tally_tax_part}
use Rattle.bsp_store_open.proofs.OpeningLemmas.{after, denies, gives, of_table, stops}
use Rattle.bsp_store_open.proofs.tables.expect_sums.Goals as goal

pub returns-in_err-rows : goal.returns-in_err-rows
returns-in_err-rows g c = stops c.from_residual.ensures.1 (of_table c.in_err-rows.ensures) (λ fault trees none. absurd none)

pub returns-then-not-are_tallies : goal.returns-then-not-are_tallies
returns-then-not-are_tallies g c =
    let same = rw (c.tally_table.ensures, c.deref.ensures.value) at c.are_tallies.ensures in
    denies _ refl (of_table c.in_ok-rows.ensures) (λ is trees read. (refl, λ d formed keeps now. let all = same.1 (read.in_order d formed keeps ∙ ap tally_part.rows now) in cc (all, c.if-not-are_tallies.true)))

pub returns-in_err-taxes : goal.returns-in_err-taxes
returns-in_err-taxes g c = stops c.from_residual-in_err-taxes.ensures.1 (after (of_table c.in_ok-rows.ensures) (of_table c.in_err-taxes.ensures)) (λ fault trees it. absurd it.1)

pub returns-then-not-are_tally_taxes : goal.returns-then-not-are_tally_taxes
returns-then-not-are_tally_taxes g c =
    let same = rw (c.tally_table-2.ensures, c.deref-2.ensures.value) at c.are_tally_taxes.ensures in
    denies _ refl (after (of_table c.in_ok-rows.ensures) (of_table c.in_ok-taxes.ensures))
    (λ is trees read. (refl, λ d formed keeps now. let all = same.1 (read.1.in_order d formed keeps ∙ ap tally_tax_part.rows now) in cc (all, c.if-not-are_tally_taxes.true)))

pub returns : goal.returns
returns g c =
    let tallies = rw (c.tally_table.ensures, c.deref.ensures.value) at c.are_tallies.ensures in
    let taxes = rw (c.tally_table-2.ensures, c.deref-2.ensures.value) at c.are_tally_taxes.ensures in
    gives (after (of_table c.in_ok-rows.ensures) (of_table c.in_ok-taxes.ensures)) (λ done. tt)
    (λ trees read. (subst (IsPermutation _) (tallies.0 c.if-not-are_tallies.false) read.0.in_any_order, subst (IsPermutation _) (taxes.0 c.if-not-are_tally_taxes.false) read.1.in_any_order))
