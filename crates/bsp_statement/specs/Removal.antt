-- A tally with a row less.
use Rattle.std.specs.Prelude.{◌≡◌, ◌≤◌, ◌-◌, ◌-ℤ◌, FitsSigned, true, if◌then◌else◌}
use mir.Syntax.{w64}
use Rattle.bsp_rules.specs.declared.rows.Item.{Item}
use Rattle.bsp_rules.specs.Rows.{is_canx}
use Rattle.bsp_memos.specs.declared.fields.MemoFields.{MemoFields}
use Rattle.bsp_statement.specs.declared.posting.Posting.{Posting}
use Rattle.bsp_statement.specs.declared.tally.Tally.{Tally}
use Rattle.bsp_statement.specs.Postings.{is_counted, item_posting, memo_posting}

-- with the documents and the forms of a posting less
abbrev pub without_forms : Posting → Tally → Tally
without_forms p t = record t { living = t.living - p.documents; cash = t.cash -ℤ p.cash; credit = t.credit -ℤ p.credit }

-- with the commission of a posting and the tax on it less, and with its memos less
abbrev pub without_charges : Posting → Tally → Tally
without_charges p t = record t { commission = t.commission -ℤ p.commission; tax = t.tax -ℤ p.tax }

abbrev pub without_memos : Posting → Tally → Tally
without_memos p t = record t { memos = t.memos -ℤ p.memos }

-- with a posting less
abbrev pub without_posting : Posting → Tally → Tally
without_posting p t = without_memos p (without_charges p (without_forms p t))

-- with an item less among the accepted ones, and among the CANX if it is one
abbrev pub not_counting : Item → Tally → Tally
not_counting i t = record t { accepted = t.accepted - 1; canx = t.canx - (if is_canx i then 1 else 0) }

-- with an item less; a living TKTT or RFND takes away what it posts
abbrev pub without_item : Item → Tally → Tally
without_item i t =
    if is_counted i.period i then without_posting (item_posting i) (not_counting i t) else not_counting i t

abbrev pub without_memo : MemoFields → Tally → Tally
without_memo m t = without_posting (memo_posting m) (record t { memo_count = t.memo_count - 1 })

-- the counts have what is taken away, and the sums that are left have room

abbrev pub HasForms : Posting → Tally → Type 0
HasForms p t = (p.documents ≤ t.living) × FitsSigned w64 (t.cash -ℤ p.cash) × FitsSigned w64 (t.credit -ℤ p.credit)

abbrev pub HasCharges : Posting → Tally → Type 0
HasCharges p t = FitsSigned w64 (t.commission -ℤ p.commission) × FitsSigned w64 (t.tax -ℤ p.tax)

abbrev pub HasMemos : Posting → Tally → Type 0
HasMemos p t = FitsSigned w64 (t.memos -ℤ p.memos)

abbrev pub HasPosting : Posting → Tally → Type 0
HasPosting p t = HasForms p t × HasCharges p t × HasMemos p t

abbrev pub HasCounted : Item → Tally → Type 0
HasCounted i t = (1 ≤ t.accepted) × ((if is_canx i then 1 else 0) ≤ t.canx)

abbrev pub HasItem : Item → Tally → Type 0
HasItem i t = HasCounted i t × (is_counted i.period i ≡ true → HasPosting (item_posting i) t)

abbrev pub HasMemo : MemoFields → Tally → Type 0
HasMemo m t = (1 ≤ t.memo_count) × HasPosting (memo_posting m) t
