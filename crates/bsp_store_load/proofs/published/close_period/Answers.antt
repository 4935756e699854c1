use Rattle.bsp_store_base.proofs.Std.{◌∙◌, ◌≡◌, ap, Err, false≢true, is_ok, IsOk, none-some, Ok, Result, Some, sym, true, ℕ}
use Rattle.bsp_store_base.proofs.Entries.{after_request, Close, Period, request_answer, same_Some}
use Rattle.bsp_memory_rows.specs.Tables.{rows_of}
use Rattle.bsp_store_load.proofs.published.close_period.Goals as goal

closed : {T E : Type 0} (answer given : Result T E) → answer ≡ given → IsOk given → is_ok answer ≡ true
closed answer (Ok t) is ok = ap is_ok is
closed answer (Err e) is ok = absurd (false≢true ok)

pub returns-in_default-clause-entry : goal.returns-in_default-clause-entry
returns-in_default-clause-entry c = λ e may is.
    let some : c.read_entry.result ≡ Some e = c.read_entry.ensures.back e may.0 tt is in
    absurd (none-some e (sym c.in_default.is ∙ some))

pub returns-clause-entry : goal.returns-clause-entry
returns-clause-entry c = λ e may is.
    let some : c.read_entry.result ≡ Some e = c.read_entry.ensures.back e may.0 tt is in
    let same = ap (λ (p : ℕ × Period). p.1) (same_Some (c.in-Some._place, c.in-Some.period) e (sym c.in-Some.is ∙ some)) in
    let told = c.in_ok-close.ensures.told ∙ ap (λ (p : Period). request_answer (Close p.code) (rows_of c.args.tables.now)) same in
    (c.is_ok.ensures.value ∙ closed _ _ told may.1, c.in_ok-close.ensures.ok ∙ ap (λ (p : Period). after_request (Close p.code) (rows_of c.args.tables.now)) same)
