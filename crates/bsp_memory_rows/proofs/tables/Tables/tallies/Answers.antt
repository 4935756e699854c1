use Rattle.std.proofs.Common.{◌≡◌, ℕ, ◌==◌, ◌&&◌, Bool, true, false, refl, sym, ap, ◌∙◌}
use Rattle.std.specs.FinMap.{entries, values}
use Rattle.bsp_maps.proofs.PickLemmas.{if_ok}
use Rattle.bsp_rows.specs.declared.keys.TallyKey.{TallyKey}
use Rattle.bsp_rows.specs.declared.questions.Tallies.{Tallies}
use Rattle.bsp_rows.specs.declared.questions.Tallies.TheVariants.{OfAgent, OfAgentIn, OfAirlineIn, In}
use Rattle.bsp_memory_tables.specs.ItemTables.{item_rows}
use Rattle.bsp_memory_tables.specs.MemoTables.{memo_rows}
use Rattle.bsp_rows.specs.Tallies.{is_tally_asked}
use Rattle.bsp_rows.specs.Tally.{Tally}
use Rattle.bsp_memory_rows.specs.Lookups.{has_rows, is_asked}
use Rattle.bsp_memory_tables.specs.TallyTables.{tally_rows}
use Rattle.bsp_memory_rows.proofs.AskedLemmas.{asked_are, of_window}
use Rattle.bsp_memory_rows.proofs.tables.Tables.tallies.Goals as goal

and_first : (a b : Bool) → (a && b) ≡ true → a ≡ true
and_first true b h = refl
and_first false b h = h

of_agent : (which : Tallies) (agent : ℕ) → which ≡ OfAgent agent → (k : TallyKey) → is_tally_asked which k ≡ true → (k.agent == agent) ≡ true
of_agent which agent is k asked = sym (ap (λ (w : Tallies). is_tally_asked w k) is) ∙ asked

of_agent_in : (which : Tallies) (agent period : ℕ) → which ≡ OfAgentIn agent period → (k : TallyKey) → is_tally_asked which k ≡ true → (k.agent == agent) ≡ true
of_agent_in which agent period is k asked = and_first (k.agent == agent) (k.period == period) (sym (ap (λ (w : Tallies). is_tally_asked w k) is) ∙ asked)

pub returns-in-OfAgent : goal.returns-in-OfAgent
returns-in-OfAgent c =
    let agent = c.in-OfAgent.agent in
    let items = values (item_rows c.args.self.now.items) in
    let memos = values (memo_rows c.args.self.now.memos) in
    let tallies = tally_rows c.args.self.now.tallies in
    if_ok c.agent_tallies.result (λ v e h. e
    ∙ of_window c.args.which.now (λ k. k.agent == agent) (of_agent c.args.which.now agent c.in-OfAgent.is) (entries tallies)
    ∙ asked_are items memos tallies h.totals c.args.which.now) c.agent_tallies.ensures

pub returns-in-OfAgentIn : goal.returns-in-OfAgentIn
returns-in-OfAgentIn c =
    let agent = c.in-OfAgentIn.agent in
    let items = values (item_rows c.args.self.now.items) in
    let memos = values (memo_rows c.args.self.now.memos) in
    let tallies = tally_rows c.args.self.now.tallies in
    if_ok c.agent_tallies-in-OfAgentIn.result (λ v e h. e
    ∙ of_window c.args.which.now (λ k. k.agent == agent) (of_agent_in c.args.which.now agent c.in-OfAgentIn.field-1 c.in-OfAgentIn.is) (entries tallies)
    ∙ asked_are items memos tallies h.totals c.args.which.now) c.agent_tallies-in-OfAgentIn.ensures

of_airline : (which : Tallies) (airline period : ℕ) → which ≡ OfAirlineIn airline period → (k : TallyKey) (t : Tally) → is_asked which k t ≡ true → ((k.airline == airline) && (k.period == period)) ≡ true
of_airline which airline period is k t asked = sym (ap (λ (w : Tallies). is_tally_asked w k) is) ∙ and_first (is_tally_asked which k) (has_rows t) asked

of_period : (which : Tallies) (period : ℕ) → which ≡ In period → (k : TallyKey) (t : Tally) → is_asked which k t ≡ true → (k.period == period) ≡ true
of_period which period is k t asked = sym (ap (λ (w : Tallies). is_tally_asked w k) is) ∙ and_first (is_tally_asked which k) (has_rows t) asked

pub returns-in-OfAirlineIn : goal.returns-in-OfAirlineIn
returns-in-OfAirlineIn c =
    let items = values (item_rows c.args.self.now.items) in
    let memos = values (memo_rows c.args.self.now.memos) in
    let tallies = tally_rows c.args.self.now.tallies in
    if_ok c.of_airline.result (λ v e h. e h.of_tallies (of_airline c.args.which.now c.in-OfAirlineIn.airline c.in-OfAirlineIn.period c.in-OfAirlineIn.is) ∙ asked_are items memos tallies h.totals c.args.which.now) c.of_airline.ensures

pub returns-in-In : goal.returns-in-In
returns-in-In c =
    let items = values (item_rows c.args.self.now.items) in
    let memos = values (memo_rows c.args.self.now.memos) in
    let tallies = tally_rows c.args.self.now.tallies in
    if_ok c.of_period.result (λ v e h. e h.of_tallies (of_period c.args.which.now c.in-In.period c.in-In.is) ∙ asked_are items memos tallies h.totals c.args.which.now) c.of_period.ensures
