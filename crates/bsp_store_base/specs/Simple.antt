-- A query over one table.
use Rattle.std.specs.Prelude.{ℕ, pos, negsuc, false, List, [], None}
use Rattle.bsp_store_base.specs.Sqlite.{Int, Key, Query, Term, end, inner, lit}

-- SELECT project FROM t WHERE filter ORDER BY order
abbrev pub simple : ℕ → List Term → List Term → List (Term × Key) → Query
simple t test project order = record {
  from = inner t end;
  filter = test;
  group = None;
  project = project;
  distinct = false;
  collations = [];
  order = order;
  limit = lit (Int (negsuc 0));
  offset = lit (Int (pos 0));
}
