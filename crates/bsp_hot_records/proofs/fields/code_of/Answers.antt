use Rattle.std.proofs.Common.{true, false, ap, sym, ◌∙◌}
use Rattle.std.specs.List.{find}
use Rattle.std.specs.Str.{bytes_eq}
use Rattle.std.proofs.lemmas.List.{at_drop_all}
use Rattle.bsp_hot_records.specs.Records.{code_of, code_text}
use Rattle.bsp_hot_records.specs.Sums.{all_codes}
use Rattle.bsp_hot_records.proofs.TestLemmas.{found_by}
use Rattle.bsp_hot_records.proofs.fields.code_of.Goals as goal

pub returns-then-eq : goal.returns-then-eq
unfolding code_of
returns-then-eq c =
    let test = sym (c.eq.ensures ∙ ap (bytes_eq c.args.text.now) (c.as_slice.ensures ∙ c.text.ensures.text)) ∙ c.if-eq.true in
    found_by (λ x. bytes_eq c.args.text.now (code_text x)) all_codes c.loop-code.code-index _ true c.loop-code-test.true test c.loop-code.invariant

pub loop-code-preserved : goal.loop-code-preserved
loop-code-preserved c =
    let test = sym (c.eq.ensures ∙ ap (bytes_eq c.args.text.now) (c.as_slice.ensures ∙ c.text.ensures.text)) ∙ c.if-eq.false in
    found_by (λ x. bytes_eq c.args.text.now (code_text x)) all_codes c.loop-code.code-index _ false c.loop-code-test.true test c.loop-code.invariant

pub returns : goal.returns
unfolding code_of
returns c = sym (at_drop_all (find (λ x. bytes_eq c.args.text.now (code_text x))) all_codes c.loop-code.code-index c.loop-code-test.false) ∙ c.loop-code.invariant
