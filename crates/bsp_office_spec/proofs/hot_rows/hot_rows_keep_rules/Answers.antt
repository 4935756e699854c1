use Rattle.std.proofs.Common.{List, sym, subst}
use Rattle.std.specs.List.{All}
use Rattle.bsp_rows.specs.Item.{Item}
use Rattle.bsp_rows.specs.MemoFields.{MemoFields}
use Rattle.bsp_hot.specs.Sound.{KeepRules}
use Rattle.bsp_office_spec.specs.AirlineLedger.{airline_ledger_of, hot_rows}
use Rattle.bsp_office_spec.specs.HotRules.{IsTypedItem, IsTypedMemo}
use Rattle.bsp_office_spec.proofs.HotRules.{keep_rules}
use Rattle.bsp_office_spec.proofs.hot_rows.hot_rows_keep_rules.Goals as goal

pub returns-clause-law : goal.returns-clause-law
returns-clause-law c = keep_rules

pub returns-clause-these : goal.returns-clause-these
returns-clause-these c = λ rows airline q sound same also.
    let shown = hot_rows (airline_ledger_of airline rows) q in
    let keep = keep_rules rows airline q sound (subst (All IsTypedItem) same c.items_fit.ensures) (subst (All IsTypedMemo) also c.memos_fit.ensures) in
    subst (λ (xs : List Item). KeepRules airline q.code xs c.args.memos.now) (sym same)
    (subst (λ (ms : List MemoFields). KeepRules airline q.code shown.items ms) (sym also) keep)
