use Rattle.std.proofs.Common.{sym, subst, ◌∙◌}
use Rattle.bsp_store_load.specs.Formed.{AreFormed, AreWhole}
use Rattle.bsp_store_load.specs.MemoryRowsTables.{rows_of}
use Rattle.bsp_store_open.proofs.LoadedLemmas.{all_loaded, callers_none, no_agents_loaded, no_memos_loaded, no_ranges_loaded, none_kept, other_sums, sales_none, still_loaded}
use Rattle.bsp_store_open.proofs.OpeningLemmas.{after, gives, stops}
use Rattle.bsp_store_open.proofs.tables.load_all.Goals as goal

pub returns-in_err-load : goal.returns-in_err-load
returns-in_err-load g c =
    stops c.from_residual.ensures.1 c.in_err-load.ensures (λ fault trees it. (it.0, λ whole planned book d sound of formed keeps. no_agents_loaded trees _ _ (rows_of c.load.new.memory) (callers_none trees _ planned) it.1 d formed keeps))

pub returns-in_err-load-2 : goal.returns-in_err-load-2
returns-in_err-load-2 g c =
    stops c.from_residual-in_err-load-2.ensures.1 (after c.in_ok-load.ensures c.in_err-load-2.ensures)
    (λ fault trees it. (it.1.0, λ whole planned book d sound of formed keeps. no_ranges_loaded trees _ _ _ (callers_none trees _ planned) it.0 it.1.1 d formed keeps))

pub returns-in_err-load_items : goal.returns-in_err-load_items
returns-in_err-load_items g c =
    stops c.from_residual-in_err-load_items.ensures.1 (after (after c.in_ok-load.ensures c.in_ok-load-2.ensures) c.in_err-load_items.ensures)
    (λ fault trees it. (it.1.0, λ whole planned. none_kept trees _ planned _ _ it.0 (it.1.1 (sales_none trees _ planned _ _ it.0))))

pub returns-in_err-load-3 : goal.returns-in_err-load-3
returns-in_err-load-3 g c =
    stops c.from_residual-in_err-load-3.ensures.1 (after (after (after c.in_ok-load.ensures c.in_ok-load-2.ensures) c.in_ok-load_items.ensures) c.in_err-load-3.ensures)
    (λ fault trees it. (
      it.1.0,
      λ whole planned.
          let none = sales_none trees _ planned _ _ it.0.0 in
          none_kept trees _ planned _ _ it.0.0 (no_memos_loaded trees _ _ _ none (it.0.1 none) it.1.1),
    ))

pub returns-in_err-expect_sums : goal.returns-in_err-expect_sums
returns-in_err-expect_sums g c =
    let sold = after (after (after c.in_ok-load.ensures c.in_ok-load-2.ensures) c.in_ok-load_items.ensures) c.in_ok-load-3.ensures in
    stops c.from_residual-in_err-expect_sums.ensures.1 (after sold c.in_err-expect_sums.ensures)
    (λ fault trees it. (
      it.1.0,
      λ whole planned.
          let derived = (c.in_ok-load-3.ensures.holds (c.in_ok-load_items.ensures.holds (c.in_ok-load-2.ensures.holds (c.in_ok-load.ensures.holds whole)))).derived in
          other_sums trees _ planned _ _ it.0.0.0 _ c.load-3.new.memory (it.0.0.1, it.0.1) derived it.1.1,
    ))

pub returns : goal.returns
returns g c =
    let whole_at = λ (whole : AreWhole c.args.tables.now). c.in_ok-load-3.ensures.holds (c.in_ok-load_items.ensures.holds (c.in_ok-load-2.ensures.holds (c.in_ok-load.ensures.holds whole))) in
    let sold = after (after (after c.in_ok-load.ensures c.in_ok-load-2.ensures) c.in_ok-load_items.ensures) c.in_ok-load-3.ensures in
    gives (after sold c.in_ok-expect_sums.ensures) (λ done whole. (
      record { committed = c.commit.ensures.committed ∙ sym c.commit.ensures.rows; derived = c.commit.ensures.derived (whole_at whole).derived; was_derived = c.commit.ensures.was_derived (whole_at whole).derived },
      subst AreFormed (sym c.commit.ensures.rows) (whole_at whole).formed,
    ))
    (λ trees it whole planned.
    let derived = (whole_at whole).derived in
    still_loaded trees c.load-3.new.memory c.commit.new.self derived (c.commit.ensures.derived derived) c.commit.ensures.rows (all_loaded trees _ planned _ _ it.0.0.0 _ c.load-3.new.memory (it.0.0.1, it.0.1) it.1))
