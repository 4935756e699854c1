-- The tables whose rows are read all at once.
use Rattle.bsp_store_base.specs.Base.{airline_part, commission_tax_part, Content, meta_part, Part, period_part, rate_part, tally_part, tally_tax_part, terms_part}
use Rattle.bsp_store_load.specs.declared.whole.WholeTable.{WholeTable}
use Rattle.bsp_store_load.specs.declared.whole.WholeTable.TheVariants.{Meta, Terms, Airlines, Rates, Periods, CommissionTaxes, Tallies, TallyTaxes}

-- the tree of a table, and the rows that a content has there
abbrev pub part_of : WholeTable → Part Content
part_of Meta = meta_part
part_of Terms = terms_part
part_of Airlines = airline_part
part_of Rates = rate_part
part_of Periods = period_part
part_of CommissionTaxes = commission_tax_part
part_of Tallies = tally_part
part_of TallyTaxes = tally_tax_part
