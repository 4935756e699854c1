use Rattle.bsp_store_base.proofs.Std.{◌∙◌, ◌≡◌, ap, get, refl, rules, Some, subst, sym}
use Rattle.bsp_store_base.proofs.Entries.{MemoFields, MemoKey, with_memo}
use Rattle.bsp_memory_rows.specs.Tables.{rows_of}
use Rattle.bsp_store_base.proofs.Base.{memo_row}
use Rattle.bsp_store_load.specs.Formed.{AreFormed, IsFormedMemo}
use Rattle.bsp_store_load.proofs.FormedContent.{memo_formed}
use Rattle.bsp_store_load.proofs.RowReads.{found_none, none_found, not_none, own_is}
use Rattle.bsp_store_load.proofs.memos.StoredMemosStoredTableMemoKeyMemoTables.put.Goals as goal

pub returns-in_default-clause-entry : goal.returns-in_default-clause-entry
returns-in_default-clause-entry c = λ e fits lacks is.
    let some : c.read_entry.result ≡ Some e = c.read_entry.ensures.back e fits.0 (fits.1, fits.2) is in
    absurd (not_none memo_row c.args.row.now c.read_entry.result e some c.in_default.is)

pub returns-then-is_some-clause-entry : goal.returns-then-is_some-clause-entry
returns-then-is_some-clause-entry c = λ e fits lacks is.
    let some : c.read_entry.result ≡ Some e = c.read_entry.ensures.back e fits.0 (fits.1, fits.2) is in
    let same = own_is memo_row c.args.row.now c.read_entry.result e some c.in-Some.entry c.in-Some.is in
    absurd (none_found c.memo.result c.is_some.result c.is_some.ensures c.if-is_some.true (c.memo.ensures ∙ ap (λ (p : MemoKey × MemoFields). get (rows_of c.args.tables.now).memos p.0) same ∙ lacks.1))

pub returns-clause-row : goal.returns-clause-row
returns-clause-row c = λ t.
    let none = found_none c.memo.result c.is_some.result c.is_some.ensures c.if-is_some.false in
    let put : rows_of c.put_memo.new.self ≡ with_memo c.in-Some.entry.1 (rows_of c.args.tables.now) = search rules in
    (c.in-Some.entry, c.in-Some.ensures.row, (c.in-Some.ensures.whole.0, sym c.memo.ensures ∙ none), c.commit.ensures.rows ∙ put)

pub returns-clause-entry : goal.returns-clause-entry
returns-clause-entry c = λ e fits lacks is.
    let some : c.read_entry.result ≡ Some e = c.read_entry.ensures.back e fits.0 (fits.1, fits.2) is in
    let same = own_is memo_row c.args.row.now c.read_entry.result e some c.in-Some.entry c.in-Some.is in
    let put : rows_of c.put_memo.new.self ≡ with_memo c.in-Some.entry.1 (rows_of c.args.tables.now) = search rules in
    (refl, c.commit.ensures.rows ∙ put ∙ ap (λ (p : MemoKey × MemoFields). with_memo p.1 (rows_of c.args.tables.now)) same)

pub returns-clause-derived : goal.returns-clause-derived
returns-clause-derived c = λ whole.
    let own : IsFormedMemo c.in-Some.entry = search rules in
    let put : rows_of c.put_memo.new.self ≡ with_memo c.in-Some.entry.1 (rows_of c.args.tables.now) = search rules in
    record {
      derived = c.commit.ensures.derived (c.in_ok-put_memo.ensures.derived whole.derived);
      formed = subst AreFormed (sym (c.commit.ensures.rows ∙ put))
          (memo_formed (rows_of c.args.tables.now) whole.formed c.in-Some.entry.1 (subst (λ (k : MemoKey). IsFormedMemo (k, c.in-Some.entry.1)) (sym c.in-Some.ensures.whole.0) own));
    }
