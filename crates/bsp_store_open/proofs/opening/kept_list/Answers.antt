use Rattle.std.proofs.Common.{◌≡◌, true, sym, ap, subst}
use Rattle.bsp_book.specs.Sound.{Sound}
use Rattle.bsp_store_load.specs.MemoryRowsTables.{rows_of}
use Rattle.bsp_store_open.specs.Faults.{is_refusal}
use Rattle.bsp_store_open.specs.Opening.{HasNoBook}
use Rattle.bsp_store_open.proofs.OpeningLemmas.{passed_on, tables_read}
use Rattle.bsp_store_open.proofs.opening.kept_list.Goals as goal

pub over-requires : goal.over-requires
over-requires g c = let it = c.in_ok-tables.ensures.holds in record { same = it.0.committed; apart = it.2.ranges.apart; derived = it.0.derived; was_derived = it.0.was_derived }

pub returns-in_err-tables-clause-refused : goal.returns-in_err-tables-clause-refused
returns-in_err-tables-clause-refused g c = passed_on (λ fault. is_refusal fault ≡ true → HasNoBook g.S.Store fault c.args.conn.now c.sound_tables.new.conn) _ _ c.from_residual.ensures.1 c.in_err-tables.ensures.refused

pub returns-clause-read : goal.returns-clause-read
returns-clause-read g c = λ order.
    let it = c.in_ok-tables.ensures in
    let same = ap rows_of (sym c.over.ensures.tables) in
    tables_read g.S.Store c.args.conn.now c.sound_tables.new.conn order c.in_ok-tables.tables it.holds.0 it.found c.over.result (rows_of c.over.result.tables) c.over.ensures.holds same (subst Sound same it.holds.2) it.holds.1 c.in_ok-expect_rest.ensures.rest
    (λ db is may. g.met.S.Store.settled c.sound_tables.new.conn.store db is may)
