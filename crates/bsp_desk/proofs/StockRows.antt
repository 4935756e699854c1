-- The stock that the book gives is that of the agent's own rows.
use Rattle.std.proofs.Common.{◌≡◌, ℕ, ◌==◌, List, [], ◌∷◌, length, map, refl, sym, ap, ◌∙◌}
use Rattle.std.specs.FinMap.{entries}
use Rattle.std.specs.List.{filter}
use Rattle.std.proofs.lemmas.List.Sums.{length-filter}
use Rattle.bsp_book.specs.Lookups.{stock_of, used_range}
use Rattle.bsp_book.specs.Used.{agent_numbers, used_count}
use Rattle.bsp_book.specs.UsedRange.{UsedRange}
use Rattle.bsp_messages.specs.declared.answer.RangeShown.{RangeShown}
use Rattle.bsp_rows.proofs.KeyOrders.{item_exact, item_total, range_exact, range_total}
use Rattle.bsp_rows.proofs.PartLemmas.{kept_entries}
use Rattle.bsp_rows.specs.Part.{agent_part}
use Rattle.bsp_rows.specs.Requests.{once}
use Rattle.bsp_rows.specs.Rows.{Rows, range_of, ranges_of}
use Rattle.bsp_rows.specs.declared.keys.ItemKey.{ItemKey}
use Rattle.bsp_rows.specs.declared.keys.RangeKey.{RangeKey}
use Rattle.bsp_rules.specs.Rows.{contains}
use Rattle.bsp_rules.specs.declared.rows.Item.{Item}
use Rattle.bsp_rules.specs.declared.rows.Range.{Range}
use Rattle.bsp_desk_sales.specs.Ledger.{ranges_in, ranges_shown, same_number, used_in}
use Rattle.bsp_desk.specs.Stock.{shown_as}
use Rattle.bsp_desk.proofs.NumberOrder.{once_filter}

module _ (agent : ℕ) (rows : Rows) where
  own_numbers : map (λ e. e.0.number) (entries (agent_part agent rows).items) ≡ agent_numbers agent rows.items
  own_numbers = ap (map (λ (e : ItemKey × Item). e.0.number)) (kept_entries item_total item_exact (λ (x : ItemKey × Item). x.0.agent == agent) rows.items)

  same_count : (range : Range) → used_count agent range rows.items ≡ used_in range (agent_part agent rows).items
  same_count range =
      sym (length-filter (λ n. contains n range) (once same_number (agent_numbers agent rows.items)))
      ∙ (ap (λ (ns : List ℕ). length ns) (once_filter (λ n. contains n range) (agent_numbers agent rows.items))
      ∙ ap (λ (ns : List ℕ). length (once same_number (filter (λ n. contains n range) ns))) (sym own_numbers))

  abbrev shown_in : Range → RangeShown
  shown_in range = record { range = range; used = used_in range (agent_part agent rows).items }

  all_shown : (ranges : List Range) → map shown_as (map (used_range agent rows) ranges) ≡ map shown_in ranges
  all_shown [] = refl
  all_shown (r ∷ rs) = λ i. record { range = r; used = same_count r i } ∷ all_shown rs i

  pub stock_shown : (shown : List RangeShown) (ranges : List UsedRange) → ranges ≡ stock_of agent rows → shown ≡ map shown_as ranges → shown ≡ ranges_shown (agent_part agent rows)
  stock_shown shown ranges are made =
      let own : ranges_of agent rows ≡ ranges_in (agent_part agent rows) = ap (map range_of) (sym (kept_entries range_total range_exact (λ (e : RangeKey × ℕ). e.0.agent == agent) rows.ranges)) in
      made ∙ (ap (map shown_as) are ∙ (all_shown (ranges_of agent rows) ∙ ap (map shown_in) own))
