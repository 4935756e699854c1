use Rattle.std.proofs.Common.{refl}
use Rattle.bsp_store_load.specs.Content.{form}
use Rattle.bsp_store_load.specs.Contents.{content_before, content_now}
use Rattle.bsp_store_load.proofs.Held.{weaken}
use Rattle.bsp_store_save.proofs.StepLemmas.{on_err}
use Rattle.bsp_store_save.proofs.saving.save.Goals as goal

pub returns-in_err-open_transaction-clause-err : goal.returns-in_err-open_transaction-clause-err
returns-in_err-open_transaction-clause-err g c = on_err c.from_residual.result (λ is.
    let old = content_before c.args.tables.now in
    c.in_err-open_transaction.ensures.err old old (content_now c.args.tables.now) (weaken form g.S.Store _ old old (content_now c.args.tables.now) is.0) is.1)

pub returns-in_err-save_tables-clause-err : goal.returns-in_err-save_tables-clause-err
returns-in_err-save_tables-clause-err g c = on_err c.from_residual-in_err-save_tables.result (λ is.
    let old = content_before c.args.tables.now in
    let begun = c.in_ok-open_transaction.ensures.ok old old old is.0 in
    c.in_err-save_tables.ensures.err old old old (content_now c.args.tables.now) refl (weaken form g.S.Store _ old old (content_now c.args.tables.now) begun.0) begun.1)

pub returns-in_err-close_transaction-clause-err : goal.returns-in_err-close_transaction-clause-err
returns-in_err-close_transaction-clause-err g c = on_err c.from_residual-in_err-close_transaction.result (λ is.
    let old = content_before c.args.tables.now in
    let begun = c.in_ok-open_transaction.ensures.ok old old old is.0 in
    let saved = c.in_ok-save_tables.ensures.ok old old old old refl begun.0 begun.1 in
    c.in_err-close_transaction.ensures.err (content_now c.args.tables.now) old saved.0 saved.1)

pub returns-clause-ok : goal.returns-clause-ok
returns-clause-ok g c = λ is.
    let old = content_before c.args.tables.now in
    let begun = c.in_ok-open_transaction.ensures.ok old old old is.0 in
    let saved = c.in_ok-save_tables.ensures.ok old old old old refl begun.0 begun.1 in
    c.in_ok-close_transaction.ensures.ok (content_now c.args.tables.now) old old old saved.0
