use Rattle.bsp_store_base.proofs.Std.{◌∙◌, ◌≡◌, ap, get, refl, subst, sym}
use Rattle.bsp_store_base.proofs.Entries.{item_exact, item_total, ItemKey, taken}
use Rattle.bsp_memory_rows.specs.Tables.{rows_of}
use Rattle.bsp_memory_tables.specs.ItemTables.{item_rows}
use Rattle.bsp_store_load.specs.Formed.{AreFormed, IsFormedItem}
use Rattle.bsp_store_load.proofs.FormedContent.{item_formed}
use Rattle.bsp_store_load.proofs.RowReads.{found_none, none_found}
use Rattle.bsp_store_load.proofs.items.TaxedTables.put.Goals as goal

pub returns-then-not-has_tax-clause-lacks : goal.returns-then-not-has_tax-clause-lacks
returns-then-not-has_tax-clause-lacks c = (λ t. absurd (cc t), λ it. absurd (cc (c.has_tax.ensures.1 it.tax, c.if-not-has_tax.true)))

pub add_new_item-requires : goal.add_new_item-requires
add_new_item-requires c = (c.requires.numbered, c.requires.keyed)

pub returns-then-not-branch-clause-lacks : goal.returns-then-not-branch-clause-lacks
returns-then-not-branch-clause-lacks c = (λ t. absurd (cc t), λ it. absurd (cc (c.in_ok-add_new_item.ensures.none.1 it.none, c.if-not-branch.true)))

pub returns-clause-derived : goal.returns-clause-derived
returns-clause-derived c = λ whole.
    let rows = rows_of c.args.self.now.tables in
    record {
      derived = c.commit.ensures.derived (c.in_ok-add_new_item.ensures.derived whole.derived);
      formed = subst AreFormed (sym (c.commit.ensures.rows ∙ c.in_ok-add_new_item.ensures.ok c.if-not-branch.false))
          (item_formed rows whole.formed c.args.item.now (subst (λ (k : ItemKey). IsFormedItem (k, c.args.item.now)) (sym c.requires.keyed) c.formed_item.ensures));
    }

pub returns-clause-lacks : goal.returns-clause-lacks
returns-clause-lacks c = (λ t. record { none = c.in_ok-add_new_item.ensures.none.0 c.if-not-branch.false; tax = c.has_tax.ensures.0 c.if-not-has_tax.false }, λ it. refl)

pub returns-clause-rows : goal.returns-clause-rows
returns-clause-rows c = λ t. c.commit.ensures.rows ∙ c.in_ok-add_new_item.ensures.ok c.if-not-branch.false

pub returns-clause-taxes : goal.returns-clause-taxes
returns-clause-taxes c = λ t. taken item_total item_exact c.args.self.now.taxes c.remove.new.self c.args.key.now c.remove.ensures.updates.0
