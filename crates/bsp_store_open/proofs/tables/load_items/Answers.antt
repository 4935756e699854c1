use Rattle.bsp_store_base.proofs.Std.{ap, from_entries}
use Rattle.bsp_book.specs.Rows.{item_cmp}
use Rattle.bsp_store_load.specs.Seconds.{ticket_cmp}
use Rattle.bsp_store_open.proofs.LoadedLemmas.{no_seconds_read, no_taxes_read, seconds_read, taxes_read}
use Rattle.bsp_store_open.proofs.OpeningLemmas.{after, stops, wider}
use Rattle.bsp_store_open.proofs.tables.load_items.Goals as goal

pub returns-in_err-load : goal.returns-in_err-load
returns-in_err-load g c =
    stops c.from_residual.ensures.1 c.in_err-load.ensures
    (λ fault trees it. (it.0, λ none d formed right keeps. no_taxes_read trees _ _ (ap (from_entries {R = item_cmp}) c.new-taxes.ensures.empty) it.1 d formed keeps))

pub returns-in_err-load-2 : goal.returns-in_err-load-2
returns-in_err-load-2 g c =
    stops c.from_residual-in_err-load-2.ensures.1 (after c.in_ok-load.ensures c.in_err-load-2.ensures)
    (λ fault trees it. (it.1.0, λ none. no_seconds_read trees _ _ (ap (from_entries {R = ticket_cmp}) c.new-seconds.ensures.empty) it.1.1))

pub returns : goal.returns
returns g c =
    wider (after (after c.in_ok-load.ensures c.in_ok-load-2.ensures) c.load_with.ensures) (λ done kept. kept.1)
    (λ done trees it none. it.1 (taxes_read trees _ _ (ap (from_entries {R = item_cmp}) c.new-taxes.ensures.empty) it.0.0) (seconds_read trees _ _ (ap (from_entries {R = ticket_cmp}) c.new-seconds.ensures.empty) it.0.1) none)
    (λ fault trees it. (it.1.0, λ none. it.1.1 (taxes_read trees _ _ (ap (from_entries {R = item_cmp}) c.new-taxes.ensures.empty) it.0.0) (seconds_read trees _ _ (ap (from_entries {R = ticket_cmp}) c.new-seconds.ensures.empty) it.0.1) none))
