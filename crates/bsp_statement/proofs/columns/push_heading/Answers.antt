use Rattle.std.proofs.Common.{◌++◌, ◌∙◌, ap, List, ℕ, string_bytes}
use Rattle.bsp_statement.proofs.columns.push_heading.Goals as goal

pub returns : goal.returns
returns c = c.in_ok-push_str.ensures.bytes ∙ ap (λ (line : List ℕ). string_bytes c.args.out.now ++ line) c.heading.ensures
