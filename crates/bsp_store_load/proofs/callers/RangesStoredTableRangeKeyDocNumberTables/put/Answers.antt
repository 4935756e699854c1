use Rattle.bsp_store_base.proofs.Std.{◌∙◌, ◌≡◌, ap, get, refl, Some, subst, sym, ℕ}
use Rattle.bsp_store_base.proofs.Entries.{range_of, RangeKey, with_range}
use Rattle.bsp_memory_rows.specs.Tables.{rows_of}
use Rattle.bsp_memory_tables.specs.RangeTables.{range_rows}
use Rattle.bsp_store_base.proofs.Base.{stock_row}
use Rattle.bsp_store_load.specs.Formed.{AreFormed}
use Rattle.bsp_store_load.proofs.FormedContent.{range_formed}
use Rattle.bsp_store_load.proofs.RowReads.{found_none, none_found, not_none, own_is}
use Rattle.bsp_store_load.proofs.callers.RangesStoredTableRangeKeyDocNumberTables.put.Goals as goal

pub returns-in_default-clause-entry : goal.returns-in_default-clause-entry
returns-in_default-clause-entry c = λ e fits lacks is.
    let some : c.read_entry.result ≡ Some e = c.read_entry.ensures.back e fits tt is in
    absurd (not_none stock_row c.args.row.now c.read_entry.result e some c.in_default.is)

pub returns-then-is_some-clause-entry : goal.returns-then-is_some-clause-entry
returns-then-is_some-clause-entry c = λ e fits lacks is.
    let some : c.read_entry.result ≡ Some e = c.read_entry.ensures.back e fits tt is in
    let same = own_is stock_row c.args.row.now c.read_entry.result e some c.in-Some.entry c.in-Some.is in
    absurd (none_found c.get.result c.is_some.result c.is_some.ensures c.if-is_some.true
    (c.get.ensures ∙ ap (λ t. get (range_rows t) c.in-Some.entry.0) c.range_table.ensures ∙ ap (λ (p : RangeKey × ℕ). get (rows_of c.args.tables.now).ranges p.0) same ∙ lacks))

pub returns-clause-row : goal.returns-clause-row
returns-clause-row c = λ t.
    let none = found_none c.get.result c.is_some.result c.is_some.ensures c.if-is_some.false in
    let at : c.get.result ≡ get (rows_of c.args.tables.now).ranges c.in-Some.entry.0 = c.get.ensures ∙ ap (λ t. get (range_rows t) c.in-Some.entry.0) c.range_table.ensures in
    (c.in-Some.entry, c.in-Some.ensures.row, sym at ∙ none, c.commit.ensures.rows ∙ c.in_ok-add_range.ensures.ok ∙ ap (λ r. with_range c.in-Some.entry.0.agent r (rows_of c.args.tables.now)) c.up_to.ensures)

pub returns-clause-entry : goal.returns-clause-entry
returns-clause-entry c = λ e fits lacks is.
    let some : c.read_entry.result ≡ Some e = c.read_entry.ensures.back e fits tt is in
    let same = own_is stock_row c.args.row.now c.read_entry.result e some c.in-Some.entry c.in-Some.is in
    (refl, c.commit.ensures.rows ∙ c.in_ok-add_range.ensures.ok ∙ ap (λ r. with_range c.in-Some.entry.0.agent r (rows_of c.args.tables.now)) c.up_to.ensures ∙ ap (λ (p : RangeKey × ℕ). with_range p.0.agent (range_of p) (rows_of c.args.tables.now)) same)

pub returns-clause-derived : goal.returns-clause-derived
returns-clause-derived c = λ whole.
    let key = c.in-Some.entry.0 in
    record {
      derived = c.commit.ensures.derived (c.in_ok-add_range.ensures.derived whole.derived);
      formed = subst AreFormed (sym (c.commit.ensures.rows ∙ c.in_ok-add_range.ensures.ok ∙ ap (λ r. with_range key.agent r (rows_of c.args.tables.now)) c.up_to.ensures))
          (range_formed (rows_of c.args.tables.now) whole.formed key.agent (range_of (key, c.in-Some.entry.1)) c.formed_range.ensures);
    }
