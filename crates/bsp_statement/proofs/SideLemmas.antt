-- The two sides of a period have one sum.
use Rattle.std.proofs.Common.{◌≡◌, ◌≢◌, ℕ, ◌==◌, refl, ap, ◌∙◌, sym, true, List, [], ◌∷◌, map}
use Rattle.std.specs.Prelude.{pos}
use Rattle.std.specs.List.{filter, All, Contains}
use Rattle.std.proofs.lemmas.Bool.{eqb-true, eq-eqb, false_from_ne_true}
use Rattle.std.proofs.lemmas.List.Elements.{All-head, All-tail, All-contains}
use Rattle.bsp_rules.specs.Amounts.{sum_of}
use Rattle.bsp_rules.specs.declared.rows.Item.{Item}
use Rattle.bsp_memos.specs.declared.fields.MemoFields.{MemoFields}
use Rattle.bsp_statement.specs.declared.posting.Posting.{Posting}
use Rattle.bsp_statement.specs.Postings.{postings}
use Rattle.bsp_statement.specs.Nets.{net_of_postings, net_of_rows, agent_net, airline_net}
use Rattle.bsp_statement.specs.Sides.{AreOnce, HaveCodes, HaveAgents, HaveAirlines}
use Rattle.bsp_statement.proofs.ListLemmas.{filter_all}
use Rattle.bsp_statement.proofs.SumLemmas.{sums, sums_agree, sums_over, single}
use Rattle.bsp_statement.proofs.NetLemmas.{net_of_posting, net_is_sum, own_net, agent_net_is, airline_net_is}

-- the nets of codes, none twice, that each row has its own among, add up to the net of all rows
pub side : (code_of : Posting → ℕ) (codes : List ℕ) (rows : List Posting) → AreOnce codes → HaveCodes code_of rows codes → sums (λ code. net_of_postings (filter (λ p. code_of p == code) rows)) codes ≡ net_of_postings rows
side code_of codes rows once have =
    sums_agree _ _ (λ code. net_is_sum (filter (λ p. code_of p == code) rows)) codes
    ∙ sums_over net_of_posting (λ code p. code_of p == code) codes rows
    (λ p row v. single (λ code. code_of p == code) v codes
    (λ i j d before below first second. once i j d before below (sym (eqb-true (code_of p) _ first) ∙ eqb-true (code_of p) _ second))
    (code_of p) (All-contains (λ q. Contains codes (code_of q)) rows p have row) (eq-eqb (code_of p) (code_of p) refl))
    ∙ sym (net_is_sum rows)

pub all_net : (period : ℕ) (items : List Item) (memos : List MemoFields) → net_of_postings (postings period items memos) ≡ net_of_rows period items memos
all_net period items memos =
    ap (λ (rows : List Posting). net_of_postings rows) (sym (filter_all (postings period items memos)))
    ∙ own_net (λ p. true) period items memos
    ∙ ap (λ (is : List Item). net_of_rows period is (filter (λ m. true) memos)) (filter_all items)
    ∙ ap (λ (ms : List MemoFields). net_of_rows period items ms) (filter_all memos)

pub agents_side : (period : ℕ) (items : List Item) (memos : List MemoFields) (agents : List ℕ) → AreOnce agents → HaveAgents period items memos agents → sum_of (map (λ a. agent_net a period items memos) agents) ≡ net_of_rows period items memos
agents_side period items memos agents once have =
    sym (sums_agree _ _ (λ a. agent_net_is a period items memos) agents) ∙ side (λ p. p.agent) agents (postings period items memos) once have ∙ all_net period items memos

pub airlines_side : (period : ℕ) (items : List Item) (memos : List MemoFields) (airlines : List ℕ) → AreOnce airlines → HaveAirlines period items memos airlines → sum_of (map (λ c. airline_net c period items memos) airlines) ≡ net_of_rows period items memos
airlines_side period items memos airlines once have =
    sym (sums_agree _ _ (λ c. airline_net_is c period items memos) airlines) ∙ side (λ p. p.airline) airlines (postings period items memos) once have ∙ all_net period items memos

none_passes : (code_of : Posting → ℕ) (code : ℕ) (rows : List Posting) → All (λ p. code_of p ≢ code) rows → filter (λ p. code_of p == code) rows ≡ []
none_passes code_of code [] all = refl
none_passes code_of code (p ∷ rows) all =
    let other = false_from_ne_true (code_of p == code) (λ same. All-head (λ q. code_of q ≢ code) p rows all (eqb-true (code_of p) code same)) in
    rw (other) (none_passes code_of code rows (All-tail (λ q. code_of q ≢ code) p rows all))

pub no_agent : (period : ℕ) (items : List Item) (memos : List MemoFields) (agent : ℕ) → All (λ p. p.agent ≢ agent) (postings period items memos) → agent_net agent period items memos ≡ pos 0
no_agent period items memos agent none =
    sym (agent_net_is agent period items memos) ∙ ap (λ (rows : List Posting). net_of_postings rows) (none_passes (λ p. p.agent) agent (postings period items memos) none)

pub no_airline : (period : ℕ) (items : List Item) (memos : List MemoFields) (airline : ℕ) → All (λ p. p.airline ≢ airline) (postings period items memos) → airline_net airline period items memos ≡ pos 0
no_airline period items memos airline none =
    sym (airline_net_is airline period items memos) ∙ ap (λ (rows : List Posting). net_of_postings rows) (none_passes (λ p. p.airline) airline (postings period items memos) none)
