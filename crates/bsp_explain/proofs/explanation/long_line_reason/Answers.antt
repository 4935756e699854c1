use Rattle.std.proofs.Common.{◌≡◌, ◌≢◌, ◌+◌, ◌++◌, ℕ, List, length, sym, ◌∙◌}
use Rattle.bsp_explain.proofs.RowLemmas.{narrow_row_is}
use Rattle.bsp_explain.proofs.explanation.long_line_reason.Goals as goal

pub returns-in_default : goal.returns-in_default
returns-in_default c =
    let other : (more : List ℕ) → length (c.args.head.now ++ more) ≡ c.args.width → length (c.args.head.now ++ more) ≢ 136 = λ more is wide. c.requires.other (sym is ∙ wide) in
    record {
      says = λ at more is. c.long_reason.ensures.says (at.records + 1) at more is;
      row = λ at more is fault. narrow_row_is at (c.args.head.now ++ more) c.args.code c.long_reason.result (other more is) fault c.in_default.not-F09 c.long_reason.ensures.row;
    }
