use Rattle.std.proofs.Common.{◌≡◌, ◌∙◌, ◌-◌, length, take, drop, ap, arith}
use Rattle.std.specs.Result.{result_ok}
use Rattle.std.proofs.lemmas.List.{length-drop, take_all}
use Rattle.bsp_fields.specs.Codes.{code_reading}
use Rattle.bsp_words.proofs.setting.last_number.Goals as goal

pub returns : goal.returns
returns c =
    let text = c.args.text.now in
    let whole : take (length text - 11) (drop 11 text) ≡ drop 11 text = take_all (length text - 11) (drop 11 text) (omega (arith, length-drop 11 text)) in
    c.ok.ensures.value ∙ ap result_ok (c.read_unchecked.ensures.value ∙ ap (code_reading 10) whole)
