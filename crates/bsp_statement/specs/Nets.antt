-- What postings add up to, and the nets of rows in the words of the rules.
use Rattle.std.specs.Prelude.{ℕ, ℤ, ◌+ℤ◌, ◌-ℤ◌, ◌==◌, List, map}
use Rattle.std.specs.List.{filter}
use Rattle.bsp_rules.specs.Amounts.{sum_of}
use Rattle.bsp_rules.specs.Nets.{living_net}
use Rattle.bsp_rules.specs.declared.rows.Item.{Item}
use Rattle.bsp_memos.specs.declared.fields.MemoFields.{MemoFields}
use Rattle.bsp_memos.specs.Owed.{amount_owed, is_billed_in}
use Rattle.bsp_statement.specs.declared.posting.Posting.{Posting}

-- ---- what a list of postings adds up to

abbrev pub cash_of : List Posting → ℤ
cash_of rows = sum_of (map (λ p. p.cash) rows)

abbrev pub credit_of : List Posting → ℤ
credit_of rows = sum_of (map (λ p. p.credit) rows)

abbrev pub commission_of : List Posting → ℤ
commission_of rows = sum_of (map (λ p. p.commission) rows)

abbrev pub tax_of : List Posting → ℤ
tax_of rows = sum_of (map (λ p. p.tax) rows)

abbrev pub memos_of : List Posting → ℤ
memos_of rows = sum_of (map (λ p. p.memos) rows)

-- cash less commission less the tax on it plus memos
abbrev pub net_of_postings : List Posting → ℤ
net_of_postings rows = ((cash_of rows -ℤ commission_of rows) -ℤ tax_of rows) +ℤ memos_of rows

-- ---- nets in the words of the rules

-- the sum of `net` over living items of a period, and of the memos billed in it
abbrev pub net_of_rows : ℕ → List Item → List MemoFields → ℤ
net_of_rows period items memos =
    living_net period items +ℤ sum_of (map (λ m. amount_owed m.kind m.amount) (filter (is_billed_in period) memos))

abbrev pub agent_net : ℕ → ℕ → List Item → List MemoFields → ℤ
agent_net agent period items memos =
    net_of_rows period (filter (λ i. i.agent == agent) items) (filter (λ m. m.agent == agent) memos)

abbrev pub airline_net : ℕ → ℕ → List Item → List MemoFields → ℤ
airline_net airline period items memos =
    net_of_rows period (filter (λ i. i.transaction.document.airline == airline) items) (filter (λ m. m.airline == airline) memos)
