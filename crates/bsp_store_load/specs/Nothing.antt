-- Tables in memory of a new book.
use Rattle.std.specs.Prelude.{◌≡◌, []}
use Rattle.bsp_rows.specs.Published.{opening}
use Rattle.bsp_memory_rows.specs.Tables.{rows_of}
use Rattle.bsp_memory_rows.specs.declared.tables.Tables.{Tables}

pub record HasNoCallers (t : Tables) : Type 0 where
  pub agents : t.agents.map.entries ≡ []
  pub airlines : t.airlines.map.entries ≡ []
  pub ranges : t.ranges.rows.map.entries ≡ []

pub record HasNoSales (t : Tables) : Type 0 where
  pub items : t.items.rows.map.entries ≡ []
  pub memos : t.memos.rows.map.entries ≡ []

-- nothing is published, and the maps have no entry
pub record HasNothing (t : Tables) : Type 0 where
  pub plan : (rows_of t).published ≡ opening
  pub callers : HasNoCallers t
  pub sales : HasNoSales t
