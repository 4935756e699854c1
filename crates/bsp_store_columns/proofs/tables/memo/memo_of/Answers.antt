use Rattle.std.proofs.Common.{◌≡◌, Bool, false, None, refl, Some, subst, sym, true}
use Rattle.std.specs.Prelude.{if◌then◌else◌, IfSome}
use Rattle.bsp_rows.specs.Memos.{is_memo}
use Rattle.bsp_store_columns.proofs.tables.memo.memo_of.Goals as goal

if_some : {A : Type 0} (b : Bool) (x : A) (P : A → Type 0) → (b ≡ true → P x) → IfSome (if b then Some x else None) P
if_some true x P so = so refl
if_some false x P so = tt

pub returns-clause-same : goal.returns-clause-same
returns-clause-same c = subst (λ o. IfSome o (λ memo. memo ≡ c.args.fields)) (sym c.restore.ensures) (if_some (is_memo c.args.fields) c.args.fields _ (λ _. refl))

pub returns-clause-fits : goal.returns-clause-fits
returns-clause-fits c = subst (λ o. IfSome o (λ memo. is_memo memo ≡ true)) (sym c.restore.ensures) (if_some (is_memo c.args.fields) c.args.fields _ (λ is. is))
