-- Tallies: what the rows of an agent, an airline and a period add up to.
use Rattle.std.specs.Prelude.{◌≡◌, ◌<◌, ℕ, pos, ◌+◌, ◌^◌, ◌+ℤ◌, FitsSigned, ◌==◌, nat_lt, Bool, true, false, ◌&&◌, ◌||◌, if◌then◌else◌, List, map, length, count_by}
use mir.Syntax.{w64}
use Rattle.std.specs.List.{filter, sum_by, All, AllPairs, Contains}
use Rattle.bsp_rules.specs.declared.rows.Item.{Item}
use Rattle.bsp_rules.specs.Rows.{is_canx}
use Rattle.bsp_statement.specs.declared.tally.Tally.{Tally}
use Rattle.bsp_memos.specs.declared.fields.MemoFields.{MemoFields}
use Rattle.bsp_memos.specs.Owed.{is_billed_in}
use Rattle.bsp_statement.specs.declared.posting.Posting.{Posting}
use Rattle.bsp_statement.specs.Postings.{is_counted, item_posting, memo_posting, postings}
use Rattle.bsp_statement.specs.Nets.{cash_of, credit_of, commission_of, tax_of, memos_of}

-- ---- the postings of tallies

-- a tally of the period with a living TKTT or RFND or a billed memo
abbrev pub is_used : ℕ → Tally → Bool
is_used period t = (t.period == period) && (nat_lt 0 t.living || nat_lt 0 t.memo_count)

abbrev pub tally_posting : Tally → Posting
tally_posting t = record {
  agent = t.agent;
  airline = t.airline;
  documents = t.living;
  cash = t.cash;
  credit = t.credit;
  commission = t.commission;
  tax = t.tax;
  memos = t.memos;
}

abbrev pub tally_postings : ℕ → List Tally → List Posting
tally_postings period tallies = map tally_posting (filter (is_used period) tallies)

-- ---- tallies added up, row by row

-- the tally of no rows
abbrev pub no_tally : ℕ → ℕ → ℕ → Tally
no_tally agent airline period = record {
  agent = agent;
  airline = airline;
  period = period;
  accepted = 0;
  living = 0;
  canx = 0;
  memo_count = 0;
  cash = pos 0;
  credit = pos 0;
  commission = pos 0;
  tax = pos 0;
  memos = pos 0;
}

-- with the documents and the forms of a posting more
abbrev pub with_forms : Posting → Tally → Tally
with_forms p t = record t { living = t.living + p.documents; cash = t.cash +ℤ p.cash; credit = t.credit +ℤ p.credit }

-- with the commission of a posting and the tax on it more, and with its memos more
abbrev pub with_charges : Posting → Tally → Tally
with_charges p t = record t { commission = t.commission +ℤ p.commission; tax = t.tax +ℤ p.tax }

abbrev pub with_memos : Posting → Tally → Tally
with_memos p t = record t { memos = t.memos +ℤ p.memos }

-- with a posting more
abbrev pub with_posting : Posting → Tally → Tally
with_posting p t = with_memos p (with_charges p (with_forms p t))

-- with an item more among the accepted ones, and among the CANX if it is one
abbrev pub counting : Item → Tally → Tally
counting i t = record t { accepted = t.accepted + 1; canx = t.canx + (if is_canx i then 1 else 0) }

-- with an item more; a living TKTT or RFND adds what it posts
abbrev pub with_item : Item → Tally → Tally
with_item i t =
    if is_counted i.period i then with_posting (item_posting i) (counting i t) else counting i t

abbrev pub with_memo : MemoFields → Tally → Tally
with_memo m t = with_posting (memo_posting m) (record t { memo_count = t.memo_count + 1 })

-- counts have 32 bits, and sums 64 bits with a sign

abbrev pub HasRoomForForms : Posting → Tally → Type 0
HasRoomForForms p t =
    (t.living + p.documents < 2 ^ 32) × FitsSigned w64 (t.cash +ℤ p.cash) × FitsSigned w64 (t.credit +ℤ p.credit)

abbrev pub HasRoomForCharges : Posting → Tally → Type 0
HasRoomForCharges p t = FitsSigned w64 (t.commission +ℤ p.commission) × FitsSigned w64 (t.tax +ℤ p.tax)

abbrev pub HasRoomForMemos : Posting → Tally → Type 0
HasRoomForMemos p t = FitsSigned w64 (t.memos +ℤ p.memos)

abbrev pub HasRoomForPosting : Posting → Tally → Type 0
HasRoomForPosting p t = HasRoomForForms p t × HasRoomForCharges p t × HasRoomForMemos p t

abbrev pub HasRoomToCount : Item → Tally → Type 0
HasRoomToCount i t = (t.accepted + 1 < 2 ^ 32) × (t.canx + (if is_canx i then 1 else 0) < 2 ^ 32)

abbrev pub HasRoomForItem : Item → Tally → Type 0
HasRoomForItem i t = HasRoomToCount i t × (is_counted i.period i ≡ true → HasRoomForPosting (item_posting i) t)

abbrev pub HasRoomForMemo : MemoFields → Tally → Type 0
HasRoomForMemo m t = (t.memo_count + 1 < 2 ^ 32) × HasRoomForPosting (memo_posting m) t

-- ---- tallies that are the sums of rows

-- the posting is of the tally's agent and airline
abbrev pub is_under : Tally → Posting → Bool
is_under t p = (p.agent == t.agent) && (p.airline == t.airline)

-- the postings of the tally's agent, airline and period
abbrev pub under : List Item → List MemoFields → Tally → List Posting
under items memos t = filter (is_under t) (postings t.period items memos)

-- the items of the tally's agent, airline and period, cancelled ones and CANX too
abbrev pub is_item_under : Tally → Item → Bool
is_item_under t i = (i.agent == t.agent) && ((i.transaction.document.airline == t.airline) && (i.period == t.period))

-- the memo is billed in the tally's period to its agent by its airline
abbrev pub is_memo_under : Tally → MemoFields → Bool
is_memo_under t m = (m.agent == t.agent) && ((m.airline == t.airline) && is_billed_in t.period m)

abbrev pub items_under : List Item → Tally → List Item
items_under items t = filter (is_item_under t) items

-- the accepted items, the living TKTT and RFND, the CANX, the billed memos, and their sums
pub record IsTallyOf (items : List Item) (billed : List MemoFields) (t : Tally) : Type 0 where
  pub accepted : t.accepted ≡ length (items_under items t)
  pub canx : t.canx ≡ count_by is_canx (items_under items t)
  pub living : t.living ≡ sum_by (λ p. p.documents) (under items billed t)
  pub count : t.living + t.memo_count ≡ length (under items billed t)
  pub cash : t.cash ≡ cash_of (under items billed t)
  pub credit : t.credit ≡ credit_of (under items billed t)
  pub commission : t.commission ≡ commission_of (under items billed t)
  pub tax : t.tax ≡ tax_of (under items billed t)
  pub memos : t.memos ≡ memos_of (under items billed t)

abbrev pub same_key : Tally → Tally → Bool
same_key s t = (s.agent == t.agent) && ((s.airline == t.airline) && (s.period == t.period))

-- each tally is the sums of its rows, no two are of the same agent, airline and period, and each posting is under one
pub record AreTallies (items : List Item) (memos : List MemoFields) (tallies : List Tally) : Type 0 where
  pub each : All (IsTallyOf items memos) tallies
  pub once : AllPairs (λ s t. same_key s t ≡ false) tallies
  pub whole : (period : ℕ) (p : Posting) → Contains (postings period items memos) p → (t : Tally) × Contains tallies t × (t.period ≡ period) × (is_under t p ≡ true)
