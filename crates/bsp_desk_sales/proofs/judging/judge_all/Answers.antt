use Rattle.std.proofs.Common.{rules, ◌≡◌, ◌<◌, ◌+◌, ◌++◌, ◌∷◌, [], get_or, take, vec_len, vec_capacity, arith, ℕ, List, subst}
use Rattle.std.proofs.lemmas.Grind.{common_steps}
use Rattle.std.proofs.lemmas.List.{take_all}
use Rattle.bsp_rows.proofs.ContentMakes.{content_makes}
use Rattle.bsp_desk_sales.specs.Judged.{AreJudged}
use Rattle.bsp_desk_sales.proofs.FileLemmas.{fell_back, left_last, more_judged, none_judged}
use Rattle.bsp_desk_sales.proofs.judging.judge_all.Goals as goal

pub loop-index-init : goal.loop-index-init
loop-index-init g c = record {
  judged = none_judged g.B.Book.means c.args.book.now c.args.reporter.now c.args.verdicts.now.items c.requires.none;
  trust = λ t. t;
  works = c.requires.works;
  count = search rules;
  room = c.requires.room;
}

pub judge_next-requires-clause-group : goal.judge_next-requires-clause-group
judge_next-requires-clause-group g c = content_makes (c.loop-index.index + 1) (get_or c.args.file.now.groups c.loop-index.index []) c.in-Some.found c.in-Some.ensures

pub loop-index-preserved : goal.loop-index-preserved
loop-index-preserved g c =
    let i = c.loop-index in
    let fault = c.in_ok-verdict.ensures.fault in
    let room : vec_len i.verdicts < vec_capacity i.verdicts = omega (arith, i.invariant.room, i.invariant.count, c.loop-index-test.true, c.transactions-index-end.ensures) in
    let pushed : c.push.new.self.items ≡ i.verdicts.items ++ c.in_ok-verdict.verdict ∷ [] = grind (arith, common_steps, c.push.ensures.succeeds room) in
    record {
      judged = more_judged g.B.Book.means c.args.book.now i.book c.judge_next.new.book c.args.reporter.now c.args.file.now.groups i.index i.verdicts.items c.push.new.self.items c.in-Some.found c.in_ok-verdict.verdict
          (omega (arith, c.loop-index-test.true, c.transactions-index-end.ensures)) i.invariant.judged c.in-Some.ensures fault.trust c.in_ok-verdict.ensures.judged pushed;
      trust = λ t. i.invariant.trust (fault.trust t);
      works = search rules;
      count = grind (arith, common_steps, c.push.ensures.succeeds room);
      room = omega arith;
    }

pub returns-in_err-verdict-clause-fault : goal.returns-in_err-verdict-clause-fault
returns-in_err-verdict-clause-fault g c =
    let m = g.B.Book.means in
    let i = c.loop-index in
    let fault = c.in_err-verdict.ensures.fault in
    let groups = take i.index c.args.file.now.groups in
    record {
      trust = λ t. i.invariant.trust (fault.trust t);
      full = λ e. fell_back m c.args.book.now i.book c.judge_next.new.book c.args.reporter.now groups i.verdicts.items i.invariant.judged fault.trust (fault.full (search rules));
      failed = search rules;
      left = λ e w. left_last m c.args.book.now i.book c.judge_next.new.book c.args.reporter.now groups i.verdicts.items i.invariant.judged fault.trust (fault.left (search rules) i.invariant.works);
      dead = λ d. search rules;
    }

pub returns-clause-judged : goal.returns-clause-judged
returns-clause-judged g c =
    let i = c.loop-index in
    let all = take_all i.index c.args.file.now.groups (omega (arith, c.loop-index-test.false, c.transactions-index-end.ensures)) in
    let Groups : List (List (List ℕ)) → Type 0 = λ gs. AreJudged g.B.Book.means c.args.book.now i.book c.args.reporter.now gs i.verdicts.items in
    subst Groups all i.invariant.judged
