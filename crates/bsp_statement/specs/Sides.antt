-- Lists of agents and of airlines over which the nets of a period are added up.
use Rattle.std.specs.Prelude.{◌≢◌, ℕ, List}
use Rattle.std.specs.List.{All, AllPairs, Contains}
use Rattle.bsp_rules.specs.declared.rows.Item.{Item}
use Rattle.bsp_memos.specs.declared.fields.MemoFields.{MemoFields}
use Rattle.bsp_statement.specs.declared.posting.Posting.{Posting}
use Rattle.bsp_statement.specs.Postings.{postings}

-- no code is there twice
abbrev pub AreOnce : List ℕ → Type 0
AreOnce codes = AllPairs (λ c d. c ≢ d) codes

-- each row that posts something has its code among these
abbrev pub HaveCodes : (Posting → ℕ) → List Posting → List ℕ → Type 0
HaveCodes code_of rows codes = All (λ p. Contains codes (code_of p)) rows

abbrev pub HaveAgents : ℕ → List Item → List MemoFields → List ℕ → Type 0
HaveAgents period items memos agents = HaveCodes (λ p. p.agent) (postings period items memos) agents

abbrev pub HaveAirlines : ℕ → List Item → List MemoFields → List ℕ → Type 0
HaveAirlines period items memos airlines = HaveCodes (λ p. p.airline) (postings period items memos) airlines
