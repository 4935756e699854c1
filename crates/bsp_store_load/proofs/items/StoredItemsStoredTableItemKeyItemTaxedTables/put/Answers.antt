use Rattle.bsp_store_base.proofs.Std.{◌∙◌, ◌≡◌, ap, from_entries, IfSome, subst, sym}
use Rattle.bsp_store_base.proofs.Entries.{if_ok, Item, item_cmp, ItemKey}
use Rattle.bsp_memory_rows.specs.Tables.{rows_of}
use Rattle.bsp_store_base.specs.Columns.{item_row}
use Rattle.bsp_store_load.specs.Beside.{IsAwaited, IsKeyed, Taxed, kept_tax}
use Rattle.bsp_store_load.proofs.RowReads.{not_none, own_is}
use Rattle.bsp_store_load.proofs.TaxedLemmas.{awaited, if_all, is_stored, lacks_item, now_put, put_taxed}
use Rattle.bsp_store_load.specs.declared.items.TaxedTables.{TaxedTables}
use Rattle.bsp_store_load.proofs.items.StoredItemsStoredTableItemKeyItemTaxedTables.put.Goals as goal

pub returns-in_default-clause-entry : goal.returns-in_default-clause-entry
returns-in_default-clause-entry c = λ e fits lacks is.
    absurd (not_none item_row c.args.row.now c.read.result e (c.read.ensures.entry e (is_stored _ _ e _ fits lacks) is) c.in_default.is)

pub put-requires : goal.put-requires
put-requires c = subst (λ o. IfSome o IsKeyed) c.in-Some.is c.read.ensures.keyed

-- what is in memory, as clauses see it
abbrev whole : TaxedTables → Taxed
whole m = (rows_of m.tables, kept_tax (from_entries {R = item_cmp} m.taxes.entries) (rows_of m.tables).items)

pub returns-clause-kept : goal.returns-clause-kept
returns-clause-kept c = if_ok c.put.result (λ done same no. ap whole (same no)) c.put.ensures.kept

pub returns-clause-row : goal.returns-clause-row
returns-clause-row c =
    let left = from_entries {R = item_cmp} c.args.memory.now.taxes.entries in
    let rows = rows_of c.args.memory.now.tables in
    let e : ItemKey × Item = c.in-Some.entry in
    let row_is : c.args.row.now ≡ item_row e = subst (λ o. IfSome o (λ f. c.args.row.now ≡ item_row f)) c.in-Some.is c.read.ensures.row in
    let own = subst (λ o. IfSome o IsKeyed) c.in-Some.is c.read.ensures.keyed in
    if_all _ _ _ _ c.put.result c.put.ensures.lacks c.put.ensures.rows c.put.ensures.taxes (λ done lacks put out t.
    let it = lacks.0 t in
    (e, row_is, lacks_item left rows e own.keyed it, now_put left rows e _ _ own.keyed it (put t) (out t)))

pub returns-clause-entry : goal.returns-clause-entry
returns-clause-entry c =
    let left = from_entries {R = item_cmp} c.args.memory.now.taxes.entries in
    let rows = rows_of c.args.memory.now.tables in
    let own : ItemKey × Item = c.in-Some.entry in
    if_all _ _ _ _ c.put.result c.put.ensures.lacks c.put.ensures.rows c.put.ensures.taxes (λ done lacks put out e fits new is.
    let same : own ≡ e = own_is item_row c.args.row.now c.read.result e (c.read.ensures.entry e (is_stored left rows e _ fits new) is) own c.in-Some.is in
    let it : IsAwaited left rows own = subst (IsAwaited left rows) (sym same) (awaited left rows e new) in
    let keyed = (subst (λ o. IfSome o IsKeyed) c.in-Some.is c.read.ensures.keyed).keyed in
    let told = lacks.1 it in
    (told, now_put left rows own _ _ keyed it (put told) (out told) ∙ ap (λ p. put_taxed p (whole c.args.memory.now)) same))
