use Rattle.std.proofs.Common.{rules, string_bytes}
use Rattle.std.proofs.lemmas.Result.{on_ok_weaker}
use Rattle.bsp_statement.proofs.PieceLemmas.{money_piece, no_tax_piece, tax_piece}
use Rattle.bsp_statement.proofs.columns.push_tax.Goals as goal

pub returns-then-taxed : goal.returns-then-taxed
returns-then-taxed c =
    let figures = c.args.figures.now in
    let before = string_bytes c.args.out.now in
    let after = string_bytes c.push_money.new.out in
    on_ok_weaker c.push_money.result
    (λ last. tax_piece c.args.taxed figures before after c.if-taxed.true (money_piece before after figures.tax (search rules) last))
    c.push_money.ensures

pub returns-else-taxed : goal.returns-else-taxed
returns-else-taxed c = no_tax_piece c.args.taxed c.args.figures.now (string_bytes c.args.out.now) c.if-taxed.false
