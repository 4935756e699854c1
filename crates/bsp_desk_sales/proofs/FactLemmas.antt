-- The facts that are read by key are those over all rows of the agent.
use Rattle.std.proofs.Common.{◌≡◌, ℕ, Bool, List, Option, Some, None, refl, ◌∙◌}
use Rattle.std.specs.Prelude.{is_some}
use Rattle.bsp_rows.specs.Published.{Published, target_of}
use Rattle.bsp_rows.specs.Transaction.{Transaction}
use Rattle.bsp_rules.specs.FactsOf.{facts_in}
use Rattle.bsp_rules.specs.declared.facts.Facts.{Facts}
use Rattle.bsp_rules.specs.declared.rows.Item.{Item}
use Rattle.bsp_rules.specs.declared.rows.Range.{Range}
use Rattle.bsp_rows.specs.Changes.{facts_at}
use Rattle.bsp_rows.specs.Rows.{Rows, agent_items, agent_token, items_bearing, ranges_of}
use Rattle.bsp_rows.specs.Sound.{Sound}
use Rattle.bsp_rows.proofs.CountLemmas.{facts_by_key, facts_without_target}
use Rattle.bsp_desk_sales.specs.Counted.{count_at, count_in_period}

abbrev counted : ℕ → Facts → Facts
counted n f = record f { count = n }

by_target : (rows : Rows) (registered : Bool) (agent : ℕ) (t : Transaction) → Sound rows → (target : Option ℕ) → target_of rows.published t.issued ≡ target →
    counted (count_in_period agent t target rows) (facts_in registered (ranges_of agent rows) (items_bearing agent t rows) t rows.published)
    ≡ facts_in registered (ranges_of agent rows) (agent_items agent rows) t rows.published
by_target rows registered agent t s None is = facts_without_target rows registered agent t is
by_target rows registered agent t s (Some period) is = facts_by_key rows registered agent period t s is

pub facts_read : (rows : Rows) (agent : ℕ) (t : Transaction) (registered : Bool) (ranges : List Range) (items : List Item) (plan : Published) (f : Facts) (count : ℕ) → Sound rows →
    registered ≡ is_some (agent_token agent rows) → ranges ≡ ranges_of agent rows → items ≡ items_bearing agent t rows → plan ≡ rows.published →
    f ≡ facts_in registered ranges items t plan → count ≡ count_at agent t rows → counted count f ≡ facts_at agent t rows
facts_read rows agent t registered ranges items plan f count s known stock found published is number =
    let read : f ≡ facts_in (is_some (agent_token agent rows)) (ranges_of agent rows) (items_bearing agent t rows) t rows.published = is ∙ (λ i. facts_in (known i) (stock i) (found i) t (published i)) in
    let both : counted count f ≡ counted (count_at agent t rows) (facts_in (is_some (agent_token agent rows)) (ranges_of agent rows) (items_bearing agent t rows) t rows.published) = λ i. counted (number i) (read i) in
    both ∙ by_target rows (is_some (agent_token agent rows)) agent t s (target_of rows.published t.issued) refl
