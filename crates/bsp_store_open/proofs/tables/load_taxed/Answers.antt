use Rattle.bsp_store_base.proofs.Std.{◌∙◌, ap, from_entries, refl, sym}
use Rattle.bsp_book.specs.Rows.{item_cmp}
use Rattle.bsp_store_load.specs.ItemTables.{item_rows}
use Rattle.bsp_store_load.specs.Seconds.{seconds_of}
use Rattle.bsp_store_load.proofs.TaxedLemmas.{is_none_left}
use Rattle.bsp_store_open.proofs.LoadedLemmas.{no_items_taxed, others_left, taxed_loaded}
use Rattle.bsp_store_open.proofs.OpeningLemmas.{denies, gives, stops}
use Rattle.bsp_store_open.proofs.tables.load_taxed.Goals as goal

pub returns-in_err-load : goal.returns-in_err-load
returns-in_err-load g c =
    stops c.from_residual.ensures.1 c.in_err-load.ensures (λ fault trees it. (it.0, λ read documents none. no_items_taxed trees _ _ none _ _ read documents (from_entries {R = item_cmp} c.load.new.memory.taxes.entries) it.1))

pub returns-then-not-is_empty : goal.returns-then-not-is_empty
returns-then-not-is_empty g c =
    denies _ refl c.in_ok-load.ensures (λ is trees loads. (
      refl,
      λ read documents none. others_left trees _ _ none _ _ read documents (from_entries {R = item_cmp} c.load.new.memory.taxes.entries) loads
          (λ it. absurd (let empty = c.is_empty.ensures.1 ((is_none_left c.load.new.memory.taxes.entries).1 it.none_left) in cc (empty, c.if-not-is_empty.true))),
    ))

pub returns-then-not-are_seconds : goal.returns-then-not-are_seconds
returns-then-not-are_seconds g c =
    denies _ refl c.in_ok-load.ensures (λ is trees loads. (
      refl,
      λ read documents none. others_left trees _ _ none _ _ read documents (from_entries {R = item_cmp} c.load.new.memory.taxes.entries) loads
          (λ it. absurd (let same = c.are_seconds.ensures.1 (it.seconds_are ∙ ap (λ t. seconds_of (item_rows t)) (sym c.item_table.ensures)) in cc (same, c.if-not-are_seconds.true))),
    ))

pub returns : goal.returns
returns g c =
    gives c.in_ok-load.ensures (λ kept. kept) (λ trees loads read documents none. taxed_loaded trees _ _ none _ _ read documents (from_entries {R = item_cmp} c.load.new.memory.taxes.entries) loads (record {
      none_left = (is_none_left c.load.new.memory.taxes.entries).0 (c.is_empty.ensures.0 c.if-not-is_empty.false);
      seconds_are = c.are_seconds.ensures.0 c.if-not-are_seconds.false ∙ ap (λ t. seconds_of (item_rows t)) c.item_table.ensures;
    }))
