use Rattle.std.proofs.Common.{◌++◌, ◌∙◌, ap, List, ℕ, rules, string_bytes}
use Rattle.std.proofs.lemmas.Result.{on_ok_weaker}
use Rattle.bsp_statement.proofs.PieceLemmas.{money_piece, pieces6, sums_pieces}
use Rattle.bsp_statement.proofs.columns.push_sums.Goals as goal

pub returns : goal.returns
returns c =
    let figures = c.args.figures.now in
    let out0 = string_bytes c.args.out.now in
    let out1 = string_bytes c.push_money.new.out in
    let out2 = string_bytes c.push_money-2.new.out in
    let out3 = string_bytes c.push_money-3.new.out in
    let out4 = string_bytes c.push_tax.new.out in
    let out5 = string_bytes c.push_money-4.new.out in
    let out6 = string_bytes c.push_money-5.new.out in
    on_ok_weaker c.push_money-5.result
    (λ last. pieces6 out0 _ _ _ _ _ _ out1 out2 out3 out4 out5 out6
    (money_piece out0 out1 figures.cash (search rules) c.in_ok-push_money.ensures)
    (money_piece out1 out2 figures.credit (search rules) c.in_ok-push_money-2.ensures)
    (money_piece out2 out3 figures.commission (search rules) c.in_ok-push_money-3.ensures)
    c.in_ok-push_tax.ensures
    (money_piece out4 out5 figures.memos (search rules) c.in_ok-push_money-4.ensures)
    (money_piece out5 out6 figures.net (search rules) last)
    ∙ ap (λ (l : List ℕ). out0 ++ l) (sums_pieces c.args.taxed figures))
    c.push_money-5.ensures
