-- A run in two parts.
use Rattle.std.proofs.Common.{ℕ, List, [], ◌∷◌, ◌++◌, refl}
use Rattle.bsp_rows.specs.Rows.{Rows}
use Rattle.bsp_office_spec.specs.View.{AllFit, Exchange, Run, rows_replied}

-- the rows between them
pub record Parts (office : List ℕ) (rows : Rows) (before rest : List Exchange) (new : Rows) : Type 0 where
  pub mid : Rows
  pub first : Run office rows before mid
  pub second : Run office mid rest new

pub run_parts : (office : List ℕ) (rows : Rows) (before rest : List Exchange) (new : Rows) → Run office rows (before ++ rest) new → Parts office rows before rest new
run_parts office rows [] rest new run = record { mid = rows; first = refl; second = run }
run_parts office rows (p ∷ ps) rest new run =
    let k = run_parts office (rows_replied rows p) ps rest new run.1 in
    record { mid = k.mid; first = (run.0, k.first); second = k.second }

pub fit_parts : (before rest : List Exchange) → AllFit (before ++ rest) → AllFit before × AllFit rest
fit_parts [] rest h = (tt, h)
fit_parts (p ∷ ps) rest h = let k = fit_parts ps rest h.1 in ((h.0, k.0), k.1)
