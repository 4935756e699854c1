-- The nets of the items of a period.
use Rattle.std.specs.Prelude.{ℕ, ℤ, ◌==◌, Bool, ◌&&◌, List, map}
use Rattle.std.specs.List.{filter}
use Rattle.bsp_rules.specs.Amounts.{net_of, sum_of}
use Rattle.bsp_rules.specs.declared.rows.Item.{Item}

-- a living item of the period
abbrev pub lives_in : ℕ → Item → Bool
lives_in period i = i.lives && (i.period == period)

-- the sum of the nets of the living items of a period
abbrev pub living_net : ℕ → List Item → ℤ
living_net period items = sum_of (map net_of (filter (lives_in period) items))
