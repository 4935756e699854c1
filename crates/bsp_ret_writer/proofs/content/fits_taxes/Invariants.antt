use Rattle.std.proofs.Common.{◌≡◌, drop}
use Rattle.bsp_ret_writer.specs.GroupValues.{are_taxes}
use Rattle.bsp_ret_writer.proofs.TaxTests.{rest_fits}
use Rattle.bsp_ret_writer.proofs.content.fits_taxes.Given as goal

abbrev pub invariant-loop-tax : goal.invariant-loop-tax
invariant-loop-tax l = rest_fits l.ended l.lowest (drop l.tax-index l.taxes) ≡ are_taxes 0 l.taxes
