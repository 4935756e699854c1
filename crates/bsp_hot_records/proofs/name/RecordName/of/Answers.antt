use Rattle.std.proofs.Common.{true, false, List, [], ◌∷◌, ap, sym, ◌∙◌}
use Rattle.std.specs.List.{find}
use Rattle.std.specs.Str.{bytes_eq}
use Rattle.std.proofs.lemmas.List.{at_drop_all}
use Rattle.bsp_hot_records.specs.declared.name.RecordName.{RecordName}
use Rattle.bsp_hot_records.specs.declared.name.RecordName.TheVariants.{Bfh01, Bch02, Boh03, Bkt06, Bks24, Bks30, Bks39, Bks42, Bks45, Bkp84, Bot93, Bot94, Bct95, Bft99}
use Rattle.bsp_hot_records.specs.Records.{name_digits, name_of}
use Rattle.bsp_hot_records.proofs.TestLemmas.{found_by}
use Rattle.bsp_hot_records.proofs.name.RecordName.of.Goals as goal

abbrev all_names : List RecordName
all_names = Bfh01 ∷ Bch02 ∷ Boh03 ∷ Bkt06 ∷ Bks24 ∷ Bks30 ∷ Bks39 ∷ Bks42 ∷ Bks45 ∷ Bkp84 ∷ Bot93 ∷ Bot94 ∷ Bct95 ∷ Bft99 ∷ []

pub returns-then-eq : goal.returns-then-eq
unfolding name_of
returns-then-eq c =
    let test = sym (c.eq.ensures ∙ ap (bytes_eq c.args.digits.now) (c.as_slice.ensures ∙ c.digits.ensures.text)) ∙ c.if-eq.true in
    found_by (λ n. bytes_eq c.args.digits.now (name_digits n)) all_names c.loop-name.name-index _ true c.loop-name-test.true test c.loop-name.invariant

pub loop-name-preserved : goal.loop-name-preserved
loop-name-preserved c =
    let test = sym (c.eq.ensures ∙ ap (bytes_eq c.args.digits.now) (c.as_slice.ensures ∙ c.digits.ensures.text)) ∙ c.if-eq.false in
    found_by (λ n. bytes_eq c.args.digits.now (name_digits n)) all_names c.loop-name.name-index _ false c.loop-name-test.true test c.loop-name.invariant

pub returns : goal.returns
unfolding name_of
returns c =
    sym (at_drop_all (find (λ n. bytes_eq c.args.digits.now (name_digits n))) all_names c.loop-name.name-index c.loop-name-test.false) ∙ c.loop-name.invariant
