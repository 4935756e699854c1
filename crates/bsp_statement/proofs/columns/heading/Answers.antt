use Rattle.std.proofs.Common.{◌≡◌, Bool, true, false, ap, sym}
use Rattle.bsp_statement.specs.Texts.{columns, heading}
use Rattle.bsp_statement.proofs.columns.heading.Goals as goal

pub returns-then-taxed : goal.returns-then-taxed
unfolding columns
returns-then-taxed c = let e : heading true ≡ heading c.args.taxed = ap (λ (b : Bool). heading b) (sym c.if-taxed.true) in e

pub returns-else-taxed : goal.returns-else-taxed
unfolding columns
returns-else-taxed c = let e : heading false ≡ heading c.args.taxed = ap (λ (b : Bool). heading b) (sym c.if-taxed.false) in e
