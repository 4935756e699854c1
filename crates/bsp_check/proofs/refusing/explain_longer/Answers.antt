use Rattle.std.proofs.Common.{ℕ, List, length, take, sym, ap, ◌∙◌, arith}
use Rattle.std.proofs.lemmas.List.{length-take-le}
use Rattle.bsp_check.specs.Windows.{text_of}
use Rattle.bsp_check.specs.Judging.{Explains}
use Rattle.bsp_check.proofs.JudgingLemmas.{width_long, explained_longer}
use Rattle.bsp_check.proofs.refusing.explain_longer.Goals as goal

pub slice_bounds-copy_from_slice-end-2 : goal.slice_bounds-copy_from_slice-end-2
slice_bounds-copy_from_slice-end-2 g c = sym (length-take-le 1024 c.text.result.now (omega (arith, ap length c.text.ensures.text, c.requires.full)))

pub copy_from_slice-requires : goal.copy_from_slice-requires
copy_from_slice-requires g c = sym (length-take-le 1024 c.text.result.now (omega (arith, ap length c.text.ensures.text, c.requires.full)))

pub explain_long-requires-clause-long : goal.explain_long-requires-clause-long
explain_long-requires-clause-long g c = width_long (text_of c.args.window.now) c.in-Ok.width c.args.window.now c.line_width.new.window _ _ c.requires.full c.in-Ok.ensures.width

pub returns-in-Ok-clause-explained : goal.returns-in-Ok-clause-explained
returns-in-Ok-clause-explained g c =
    let Says : List ℕ → Type 0 = Explains g.J.Judge.HasTaken g.J.Judge.IsAtFault g.J.Judge.IsRefusal c.args.judge.now c.args.fault c.explain_long.result in
    explained_longer Says c.copy_from_slice.new.self c.in-Ok.width c.args.window.now c.line_width.new.window _ _ c.requires.goes_on c.requires.full
    (c.copy_from_slice.ensures.after ∙ ap (take 1024) c.text.ensures.text) c.in-Ok.ensures.width c.explain_long.ensures
