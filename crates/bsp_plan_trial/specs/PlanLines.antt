-- What is printed of a plan text that is published.
use Rattle.std.specs.Prelude.{ℕ, List, [], ◌∷◌, ◌++◌, drop, length, codes, Option, Some, None}
use Rattle.std.specs.Fmt.{decimal}
use Rattle.std.specs.List.{concat, flat_map}
use Rattle.bsp_fields.specs.Days.{day_text}
use Rattle.bsp_fields.specs.Decimal.{fixed_digits}
use Rattle.bsp_fields.specs.declared.change.Change.{Change}
use Rattle.bsp_fields.specs.declared.change.Change.TheVariants.{Done, Held}
use Rattle.bsp_calendar.specs.Published.{Published}
use Rattle.bsp_calendar.specs.declared.entries.CommissionTax.{CommissionTax}
use Rattle.bsp_calendar.specs.declared.entries.Period.{Period}
use Rattle.bsp_calendar.specs.declared.entries.Rate.{Rate}
use Rattle.bsp_calendar.specs.declared.entries.Terms.{Terms}
use Rattle.bsp_plan_trial.specs.declared.plan_lines.Counts.{Counts}

abbrev pub change_line : Change → List ℕ
change_line Done = codes "done\n"
change_line Held = codes "held\n"

unfoldable pub terms_line : Terms → List ℕ
terms_line t =
    concat
    (codes "currency " ∷ t.currency ∷ codes " review_days " ∷ decimal t.review_days ∷ codes " documents_limit " ∷ decimal t.documents_limit ∷ codes "\n" ∷ [])

abbrev pub terms_lines : Option Terms → List ℕ
terms_lines None = []
terms_lines (Some terms) = terms_line terms

unfoldable pub airline_line : ℕ → List ℕ
airline_line airline = concat (codes "airline " ∷ fixed_digits 3 airline ∷ codes "\n" ∷ [])

unfoldable pub rate_line : Rate → List ℕ
rate_line r =
    concat (codes "rate " ∷ fixed_digits 3 r.airline ∷ codes " from " ∷ day_text r.from ∷ codes " hundredths " ∷ decimal r.hundredths ∷ codes "\n" ∷ [])

unfoldable pub period_line : Period → List ℕ
period_line q =
    concat
    (codes "period " ∷ fixed_digits 5 q.code ∷ codes " first " ∷ day_text q.first ∷ codes " last " ∷ day_text q.last ∷ codes " remit "
    ∷ day_text q.remittance ∷ codes "\n" ∷ [])

unfoldable pub tax_line : CommissionTax → List ℕ
tax_line t = concat (codes "commission_tax from " ∷ day_text t.from ∷ codes " hundredths " ∷ decimal t.hundredths ∷ codes "\n" ∷ [])

-- how many entries of each kind a plan has
abbrev pub counts_of : Published → Counts
counts_of p = record {
  airlines = length p.airlines;
  rates = length p.rates;
  periods = length p.periods;
  commission_taxes = length p.commission_taxes;
}

-- the entries of a plan behind those known
unfoldable pub lines_beyond : Counts → Published → List ℕ
lines_beyond known p =
    flat_map airline_line (drop known.airlines p.airlines)
    ++ (flat_map rate_line (drop known.rates p.rates)
    ++ (flat_map period_line (drop known.periods p.periods)
    ++ flat_map tax_line (drop known.commission_taxes p.commission_taxes)))

unfoldable pub lines_of : Change → Counts → Published → List ℕ
lines_of change known p = change_line change ++ (terms_lines p.terms ++ lines_beyond known p)

-- with each entry that is new beside those of the plan before
abbrev pub plan_lines : Change → Published → Published → List ℕ
plan_lines change before p = lines_of change (counts_of before) p
