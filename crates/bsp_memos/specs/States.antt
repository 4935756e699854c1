-- The kinds and the states of memos.
use Rattle.std.specs.Prelude.{Bool, true, false}
use Rattle.bsp_memos.specs.declared.kind.MemoKind.{MemoKind}
use Rattle.bsp_memos.specs.declared.kind.MemoKind.TheVariants.{Debit, Credit}
use Rattle.bsp_memos.specs.declared.state.MemoState.{MemoState}
use Rattle.bsp_memos.specs.declared.state.MemoState.TheVariants.{Open, Agreed, Disputed, Upheld, Reduced, Withdrawn}

abbrev pub is_credit : MemoKind → Bool
is_credit Debit = false
is_credit Credit = true

abbrev pub is_open : MemoState → Bool
is_open Open = true
is_open _ = false

abbrev pub is_agreed : MemoState → Bool
is_agreed Agreed = true
is_agreed _ = false

abbrev pub is_disputed : MemoState → Bool
is_disputed Disputed = true
is_disputed _ = false

abbrev pub is_upheld : MemoState → Bool
is_upheld Upheld = true
is_upheld _ = false

abbrev pub is_reduced : MemoState → Bool
is_reduced Reduced = true
is_reduced _ = false

abbrev pub is_withdrawn : MemoState → Bool
is_withdrawn Withdrawn = true
is_withdrawn _ = false
