use Rattle.std.proofs.Common.{sym, ◌∙◌, arith}
use Rattle.bsp_routes.proofs.LineLemmas.{ends_here, goes_on, next_end, rest_left, rest_none}
use Rattle.bsp_routes.proofs.scan.Scan.go_on.Goals as goal

pub slice_bounds-after_bytes-count : goal.slice_bounds-after_bytes-count
slice_bounds-after_bytes-count c =
    let l = c.loop-end in
    let at = next_end c.args.bytes.now l.start c.in-Some.end l.end-iterator c.next.new.self l.invariant.within l.invariant.ends c.in-Some.ensures.steps in
    at.first.low

pub slice_bounds-after_bytes-start : goal.slice_bounds-after_bytes-start
slice_bounds-after_bytes-start c =
    let l = c.loop-end in
    let at = next_end c.args.bytes.now l.start c.in-Some.end l.end-iterator c.next.new.self l.invariant.within l.invariant.ends c.in-Some.ensures.steps in
    omega (arith, at.first.low, at.first.high)

pub slice_bounds-after_bytes-end : goal.slice_bounds-after_bytes-end
slice_bounds-after_bytes-end c =
    let l = c.loop-end in
    let at = next_end c.args.bytes.now l.start c.in-Some.end l.end-iterator c.next.new.self l.invariant.within l.invariant.ends c.in-Some.ensures.steps in
    omega (arith, at.first.low, at.first.high)

pub returns-then-end_line-clause-found : goal.returns-then-end_line-clause-found
returns-then-end_line-clause-found c =
    let l = c.loop-end in
    let at = next_end c.args.bytes.now l.start c.in-Some.end l.end-iterator c.next.new.self l.invariant.within l.invariant.ends c.in-Some.ensures.steps in
    ends_here c.args.bytes.now l.start c.in-Some.end _ at l.self.seen l.self.line _ _ l.invariant.left _ c.after_bytes-line.ensures (sym c.if-end_line.true ∙ c.end_line.ensures.ends)

pub returns-then-end_line-clause-within : goal.returns-then-end_line-clause-within
returns-then-end_line-clause-within c =
    let l = c.loop-end in
    let at = next_end c.args.bytes.now l.start c.in-Some.end l.end-iterator c.next.new.self l.invariant.within l.invariant.ends c.in-Some.ensures.steps in
    omega (arith, at.first.high)

pub loop-end-preserved : goal.loop-end-preserved
loop-end-preserved c =
    let l = c.loop-end in
    let at = next_end c.args.bytes.now l.start c.in-Some.end l.end-iterator c.next.new.self l.invariant.within l.invariant.ends c.in-Some.ensures.steps in
    record {
      within = omega (arith, at.first.high);
      ends = at.behind;
      left = goes_on c.args.bytes.now l.start c.in-Some.end _ at l.self.seen l.self.line _ _ l.invariant.left _ c.after_bytes-line.ensures (sym c.if-end_line.false ∙ c.end_line.ensures.ends) _ _ c.end_line.ensures.seen c.end_line.ensures.line;
    }

pub returns-clause-found : goal.returns-clause-found
returns-clause-found c =
    let l = c.loop-end in
    rest_none c.args.bytes.now l.start l.invariant.within (sym c.in-None.ensures.steps.0 ∙ l.invariant.ends) l.self.seen l.self.line _ _ l.invariant.left _ c.after_bytes-self.ensures

pub returns-clause-left : goal.returns-clause-left
returns-clause-left c =
    let l = c.loop-end in
    λ _. rest_left c.args.bytes.now l.start l.invariant.within (sym c.in-None.ensures.steps.0 ∙ l.invariant.ends) l.self.seen l.self.line _ _ l.invariant.left _ c.after_bytes-self.ensures
