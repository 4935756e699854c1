-- What the rows of a period add to the sums: its living TKTT and RFND, and the memos billed in it.
use Rattle.std.specs.Prelude.{ℕ, pos, Bool, true, false, ◌==◌, ◌&&◌, List, ◌++◌, map}
use Rattle.std.specs.List.{filter}
use Rattle.bsp_ret_records.specs.declared.codes.TransactionCode.{TransactionCode}
use Rattle.bsp_ret_records.specs.declared.codes.TransactionCode.TheVariants.{Tktt, Rfnd, Canx}
use Rattle.bsp_rules.specs.Amounts.{amount_or_zero, card_amount, commission_amount}
use Rattle.bsp_rules.specs.Nets.{lives_in}
use Rattle.bsp_rules.specs.declared.rows.Item.{Item}
use Rattle.bsp_memos.specs.declared.fields.MemoFields.{MemoFields}
use Rattle.bsp_memos.specs.Owed.{amount_owed, is_billed_in}
use Rattle.bsp_statement.specs.declared.posting.Posting.{Posting}

-- ---- items

abbrev pub is_document : TransactionCode → Bool
is_document Tktt = true
is_document Rfnd = true
is_document Canx = false

-- a living TKTT or RFND of the period
abbrev pub is_counted : ℕ → Item → Bool
is_counted period i = lives_in period i && is_document i.transaction.code

-- one document, with its cash, credit, commission and tax
abbrev pub item_posting : Item → Posting
item_posting i = record {
  agent = i.agent;
  airline = i.transaction.document.airline;
  documents = 1;
  cash = amount_or_zero i.transaction.cash;
  credit = card_amount i.transaction.credit;
  commission = commission_amount i.transaction.amounts;
  tax = i.tax;
  memos = pos 0;
}

-- ---- memos

abbrev pub memo_posting : MemoFields → Posting
memo_posting m = record {
  agent = m.agent;
  airline = m.airline;
  documents = 0;
  cash = pos 0;
  credit = pos 0;
  commission = pos 0;
  tax = pos 0;
  memos = amount_owed m.kind m.amount;
}

-- ---- the rows of a period

abbrev pub item_postings : ℕ → List Item → List Posting
item_postings period items = map item_posting (filter (is_counted period) items)

abbrev pub memo_postings : ℕ → List MemoFields → List Posting
memo_postings period memos = map memo_posting (filter (is_billed_in period) memos)

abbrev pub postings : ℕ → List Item → List MemoFields → List Posting
postings period items memos = item_postings period items ++ memo_postings period memos

abbrev pub is_of_agent : ℕ → Posting → Bool
is_of_agent agent p = p.agent == agent

abbrev pub is_of_airline : ℕ → Posting → Bool
is_of_airline airline p = p.airline == airline

abbrev pub of_agent : ℕ → List Posting → List Posting
of_agent agent rows = filter (is_of_agent agent) rows

abbrev pub of_airline : ℕ → List Posting → List Posting
of_airline airline rows = filter (is_of_airline airline) rows
