use Rattle.std.proofs.Common.{refl, sym, ◌∙◌}
use Rattle.bsp_explain.proofs.TrailerLemmas.{stated_both, stated_digits}
use Rattle.bsp_explain.proofs.ret_reasons.count_reason.Goals as goal

pub returns-then-stated-counted-clause-says : goal.returns-then-stated-counted-clause-says
returns-then-stated-counted-clause-says c = (c.told_records-stated.ensures, refl, c.if-stated-counted.true)

pub number_of-stated-requires-clause-digits : goal.number_of-stated-requires-clause-digits
number_of-stated-requires-clause-digits c = rw c.transaction_count.ensures.columns (stated_digits c.args.line.now c.requires.fits.1)

pub returns-then-stated-counted-2-clause-says : goal.returns-then-stated-counted-2-clause-says
returns-then-stated-counted-2-clause-says c = (rw c.transaction_count.ensures.columns at c.number_of-stated.ensures, refl, c.if-stated-counted-2.true)

pub returns-clause-none : goal.returns-clause-none
returns-clause-none c =
    let counted = rw c.transaction_count.ensures.columns at c.number_of-stated.ensures in
    stated_both c.args.at c.args.line.now c.requires.fits.1 (sym c.told_records-stated.ensures ∙ c.if-stated-counted.false) (sym counted ∙ c.if-stated-counted-2.false)
