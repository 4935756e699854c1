use Rattle.bsp_store_open.proofs.LoadedLemmas.{no_plan}
use Rattle.bsp_store_open.proofs.OpeningLemmas.{if_err, if_read, stops, weaker}
use Rattle.bsp_store_open.proofs.tables.planned_tables.Goals as goal

pub returns-in_err-rows : goal.returns-in_err-rows
returns-in_err-rows g c = stops c.from_residual.ensures.1 c.in_err-rows.ensures (λ fault trees none. none)

pub returns : goal.returns
returns g c = record {
  holds = if_read _ _ c.made_of.result c.made_of.ensures.made (λ tables made. rw made at c.plan_tables.ensures.whole);
  found = if_read _ _ c.made_of.result c.made_of.ensures.made (λ tables made. weaker g.S.Store _ _ _ _ (λ trees are. record {
    stored = c.in_ok-rows.rows;
    are = are;
    version = c.in_ok-rows.ensures.holds;
    of = rw made at c.plan_tables.ensures.rows;
    alone = rw made at c.plan_tables.ensures.alone;
    only = rw made at c.plan_tables.ensures.plan;
  }) c.in_ok-rows.ensures.found);
  refused = if_err _ _ c.made_of.result c.made_of.ensures.refused (λ fault none refused clean ours.
      rw (none refused).0 (no_plan _ c.in_ok-rows.rows (c.in_ok-rows.ensures.found.found clean) c.in_ok-rows.ensures.holds (rw (none refused).1 at c.plan_tables.ensures.plan)));
  spares = c.in_ok-rows.ensures.spares;
}
