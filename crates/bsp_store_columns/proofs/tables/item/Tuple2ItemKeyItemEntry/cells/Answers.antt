use Rattle.std.proofs.Common.{SFits, w64, refl, rules, to_z-of_z}
use Rattle.bsp_store_columns.proofs.tables.item.Tuple2ItemKeyItemEntry.cells.Goals as goal

pub returns-clause-written : goal.returns-clause-written
returns-clause-written c =
    let day : SFits w64 c.number.result = search rules in
    rw (
      to_z-of_z day,
      c.agent_digits.ensures,
      c.number_digits.ensures,
      c.flag.ensures,
      c.airline_digits.ensures,
      c.text.ensures,
      c.number.ensures.value,
      c.period_digits.ensures,
      c.flag-2.ensures,
      c.fare_cell.ensures,
      c.taxes_cell.ensures,
      c.rate_cell.ensures,
      c.commission_cell.ensures,
      c.airline_cell.ensures,
      c.number_cell.ensures,
      c.amount_cell.ensures,
      c.credit_cell.ensures,
      c.amount_cell-2.ensures,
      c.vendor_cell.ensures,
      c.first_related.ensures,
    ) refl
