use Rattle.std.proofs.Common.{◌≡◌, List, ℕ, ◌++◌, get_or, None, refl, ◌∙◌, subst, arith}
use Rattle.std.specs.Prelude.{OnOk}
use Rattle.std.specs.Option.{option_map, option_to_list}
use Rattle.std.proofs.lemmas.List.{get_or_default}
use Rattle.bsp_ret_writer.specs.Writing.{sale_line, related_line, amounts_line, cash_line, credit_line, exchange_line, group_lines, text_of}
use Rattle.bsp_ret_writer.proofs.WritingLemmas.{text_of-parts}
use Rattle.bsp_ret_writer.proofs.writing.push_group.Goals as goal

pub returns : goal.returns
returns c =
    let n = c.args.number in
    let t = c.args.transaction.now in
    let old = c.args.out.now.items in
    let related = option_to_list (option_map (related_line n) (get_or t.related 0 c.index-transaction-0.result)) in
    let second = option_to_list (option_map (related_line n) (get_or t.related 1 c.index-transaction-1.result)) in
    let amounts = option_to_list (option_map (amounts_line n) t.amounts) in
    let cash = option_to_list (option_map (cash_line n) t.cash) in
    let credit = option_to_list (option_map (credit_line n) t.credit) in
    let exchange = option_to_list (option_map (exchange_line n) t.exchange) in
    let first = get_or_default t.related 0 c.index-transaction-0.result None (omega arith) in
    let other = get_or_default t.related 1 c.index-transaction-1.result None (omega arith) in
    let all : c.push_some_credit.new.out.items ++ text_of exchange ≡ old ++ text_of (group_lines n t) =
    rw (c.in_ok-push_some_credit.ensures, c.in_ok-push_some_form.ensures, c.in_ok-push_some_amounts.ensures, c.in_ok-push_some_related-2.ensures, c.in_ok-push_some_related.ensures, c.in_ok-push_sale.ensures)
    (text_of-parts old (sale_line n t) related second amounts cash credit exchange ∙ rw (first, other) refl) in
    let P : List ℕ → Type 0 = λ text. OnOk c.push_some_form-2.result (c.push_some_form-2.new.out.items ≡ text) in
    subst P all c.push_some_form-2.ensures
