use Rattle.std.proofs.Common.{rules, sym, ◌∙◌, tests}
use Rattle.std.specs.Char.{is_ascii_digit}
use Rattle.std.proofs.lemmas.Iterator.{YieldsList-from_slice}
use Rattle.std.proofs.lemmas.Iterator.Search.{all_from_yields_List}
use Rattle.bsp_ret_records.proofs.CharacterLemmas.{digits_are}
use Rattle.bsp_rules.proofs.stock.all_digits.Goals as goal

pub returns : goal.returns
returns c =
    let number = c.args.number.now in
    all_from_yields_List is_ascii_digit _ _ _ c.all.ensures.ran (YieldsList-from_slice number cc) (λ x b q k. search (rules, tests)) ∙ sym (digits_are number)
