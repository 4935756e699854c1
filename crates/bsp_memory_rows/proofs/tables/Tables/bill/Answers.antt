use Rattle.std.proofs.Common.{◌≡◌, ℕ, Bool, true, false, sym, ap, ◌∙◌, Option, Some, None, if◌then◌else◌}
use Rattle.bsp_rows.specs.MemoFields.{MemoFields}
use Rattle.bsp_rows.specs.Billing.{billed_in}
use Rattle.bsp_rows.specs.Memos.{is_memo}
use Rattle.bsp_rows.specs.declared.keys.MemoKey.{MemoKey}
use Rattle.bsp_rows.specs.Rows.{Rows}
use Rattle.bsp_rows.specs.Writes.{changed_to}
use Rattle.bsp_rows.proofs.MapLemmas.{same_Some}
use Rattle.bsp_memory_rows.specs.Tables.{rows_of, with_memo_at}
use Rattle.bsp_memory_rows.proofs.TallySteps.{on_ok}
use Rattle.bsp_memory_rows.proofs.tables.Tables.bill.Goals as goal

with_found : MemoKey → ℕ → Rows → Option MemoFields → Rows
with_found key period rows found = record rows { memos = changed_to (billed_in period) key found rows.memos }

chosen : {A : Type 0} (b : Bool) (r : Option A) (x y : A) → r ≡ (if b then Some x else None) → r ≡ Some y → y ≡ x
chosen true r x y is some = same_Some y x (sym some ∙ is)
chosen false r x y is some = let f : None ≡ Some y = sym is ∙ some in absurd (cc f)

pub returns-in-Some-billed-clause-ok : goal.returns-in-Some-billed-clause-ok
unfolding with_found
returns-in-Some-billed-clause-ok c = on_ok c.put_memo_at.result (λ e may.
    e
    ∙ ap (λ (m : MemoFields). with_memo_at c.args.key m (rows_of c.args.self.now)) (chosen (is_memo (billed_in c.args.period c.in-Some.memo)) c.billed.result (billed_in c.args.period c.in-Some.memo) c.in-Some-billed.memo c.billed.ensures c.in-Some-billed.is)
    ∙ ap (with_found c.args.key c.args.period (rows_of c.args.self.now)) (sym c.in-Some.is ∙ c.get.ensures)) c.put_memo_at.ensures.ok
