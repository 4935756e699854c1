use Rattle.std.proofs.Common.{◌≡◌, take}
use Rattle.bsp_memory_rows.specs.Tables.{IsDerived, rows_of}
use Rattle.bsp_store_load.specs.Formed.{IsRegisteredAirline, OnEach}
use Rattle.bsp_store_load.specs.Stored.{code_token, gathered}
use Rattle.bsp_store_load.proofs.airlines.put_tokens.Given as goal

abbrev pub invariant-loop-airline : goal.invariant-loop-airline
invariant-loop-airline l = record {
  derived : IsDerived l.fn.tables → IsDerived l.tables;
  registered : OnEach IsRegisteredAirline (rows_of l.fn.tables).airlines → OnEach IsRegisteredAirline (rows_of l.tables).airlines;
  rows : rows_of l.tables ≡ record (rows_of l.fn.tables) { airlines = gathered code_token (take l.airline-index l.airlines) (rows_of l.fn.tables).airlines };
}
