use Rattle.std.proofs.Common.{◌≡◌, List, None, ap, arith, ◌++◌, ◌∙◌}
use Rattle.std.specs.List.{list_all}
use Rattle.std.specs.Prelude.{ℤ, ◌-ℤ◌}
use Rattle.std.proofs.lemmas.Int.{ints}
use mir.Syntax.{w128}
use mir.Val.{of_z, to_z}
use Rattle.bsp_office_spec.proofs.EachIsRead.{groups_read}
use Rattle.bsp_rules.specs.declared.verdict.Verdict.{Verdict}
use Rattle.bsp_judge.specs.Judged.{is_taken, net_line, owed, verdict_lines}
use Rattle.bsp_judge.specs.Steps.{rows_in}
use Rattle.bsp_judge.proofs.JudgeLemmas.{if_said}
use Rattle.bsp_judge.proofs.UnjudgedLemmas.{whatever}
use Rattle.bsp_judge.proofs.judging.judge_at.Goals as goal

pub returns-clause-judged : goal.returns-clause-judged
returns-clause-judged c =
    let agent = c.args.setup.now.agent in
    let old = c.args.desk.now.book in
    let new = c.report.new.desk.book in
    let vs = c.in_ok-verdicts.verdicts.items in
    let b = to_z w128 (of_z w128 c.in_ok-before.before) in
    let a = to_z w128 (of_z w128 c.in_ok-after.after) in
    if_said c.say.result
    (λ j said text ret.
    let ts = groups_read 1 c.args.file.now.groups ret.groups in
    let reported = c.in_ok-verdicts.ensures.reported ts.0 ts.1 in
    let b_is : b ≡ c.in_ok-before.before = omega (arith, ints, c.in_ok-before.ensures.bound) in
    let a_is : a ≡ c.in_ok-after.after = omega (arith, ints, c.in_ok-after.ensures.bound) in
    let before : b ≡ owed agent (rows_in old) = b_is ∙ (rw c.book.ensures at c.in_ok-before.ensures.net) (rows_in old) None c.requires.settled.holds in
    let after : a ≡ owed agent (rows_in new) = a_is ∙ (rw c.book-2.ensures at c.in_ok-after.ensures.net) (rows_in new) None reported.settled.holds in
    let fits : to_z w128 (of_z w128 (a -ℤ b)) ≡ a -ℤ b = omega (arith, ints, b_is, a_is, c.in_ok-before.ensures.bound, c.in_ok-after.ensures.bound) in
    let owes : to_z w128 (of_z w128 (a -ℤ b)) ≡ owed agent (rows_in new) -ℤ owed agent (rows_in old) =
    fits ∙ ap (λ (n : ℤ). n -ℤ b) after ∙ ap (λ (n : ℤ). owed agent (rows_in new) -ℤ n) before in
    record {
      transactions = ts.0;
      file = (c.args.file.now, ret, ts.1);
      verdicts = vs;
      answered = reported.answered;
      after = reported.after;
      lines_are =
          said.0
          ∙ ap (λ (l : List Verdict). verdict_lines 1 l ++ net_line (to_z w128 (of_z w128 (a -ℤ b)))) c.deref.ensures.value
          ∙ ap (λ (n : ℤ). verdict_lines 1 vs ++ net_line n) owes;
      taken_is = said.1 ∙ ap (list_all is_taken) c.deref.ensures.value;
    })
    c.say.ensures.said

pub returns-clause-left : goal.returns-clause-left
returns-clause-left c =
    let ts = groups_read 1 c.args.file.now.groups c.requires.whole.1.groups in
    whatever c.say.result (c.in_ok-verdicts.ensures.reported ts.0 ts.1).settled
