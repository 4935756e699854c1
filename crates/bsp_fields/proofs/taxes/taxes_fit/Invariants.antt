use Rattle.std.proofs.Common.{◌≡◌}
use Rattle.bsp_fields.proofs.TaxPlaces.{rest_fits}
use Rattle.bsp_fields.proofs.taxes.taxes_fit.Given as goal

abbrev pub invariant-loop-index : goal.invariant-loop-index
invariant-loop-index l = rest_fits l.line 0 0 ≡ rest_fits l.line l.index l.before
