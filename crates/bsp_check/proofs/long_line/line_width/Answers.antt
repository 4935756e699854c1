use Rattle.std.proofs.Common.{◌+◌, ◌-◌, ℕ, length, sym, ap, subst, ◌∙◌, arith}
use Rattle.bsp_ret.specs.Lines.{lines}
use Rattle.bsp_hot_check.proofs.PieceLemmas.{line_room}
use Rattle.bsp_check.specs.Windows.{text_of}
use Rattle.bsp_check.proofs.WindowLemmas.{stops_after}
use Rattle.bsp_check.proofs.LineLemmas.{IsWithin, within_start, within_more, within_sum, width_found}
use Rattle.bsp_check.proofs.long_line.line_width.Goals as goal

pub loop-window-init : goal.loop-window-init
loop-window-init g c =
    let old = c.args.window.now in
    let fills = c.in-Ok.ensures.filled in
    let Within : ℕ → Type 0 = λ n. IsWithin (text_of old) (n - 1) old c.advance.new.self (g.R.Read.remaining c.args.reader.now.inner) (g.R.Read.remaining c.advance.new.reader.inner) in
    record {
      within = subst Within (ap length (sym c.text.ensures.text)) (within_start old c.advance.new.self _ _ (omega (arith, c.requires.full)) c.requires.unended fills);
      full = fills.full;
    }

pub overflow_add-before : goal.overflow_add-before
overflow_add-before g c =
    let l = c.loop-window in
    let sum = within_sum (text_of c.args.window.now) l.before c.args.window.now l.window _ _ l.invariant.within in
    omega (arith, sum, c.requires.few, ap length c.text-in-loop-window.ensures.text)

pub loop-window-preserved : goal.loop-window-preserved
loop-window-preserved g c =
    let old = c.args.window.now in
    let l = c.loop-window in
    let fills = c.in-Ok-advance.ensures.filled in
    let new = c.advance-in-loop-window.new in
    let none = c.has_line.ensures.unended c.loop-window-test.true in
    let Within : ℕ → Type 0 = λ n. IsWithin (text_of old) (l.before + (n - 1)) old new.self (g.R.Read.remaining c.args.reader.now.inner) (g.R.Read.remaining new.reader.inner) in
    record {
      within = subst Within (ap length (sym c.text-in-loop-window.ensures.text)) (within_more (text_of old) l.before old l.window new.self _ _ _ l.invariant.within none fills);
      full = fills.full;
    }

pub returns-in-Err-advance-clause-stopped : goal.returns-in-Err-advance-clause-stopped
returns-in-Err-advance-clause-stopped g c =
    let l = c.loop-window in
    let within = l.invariant.within in
    stops_after c.args.window.now.left l.window.left c.in-Err-advance.fault within.got _ _ _ within.taken within.left c.in-Err-advance.ensures.stopped

pub overflow_add-result : goal.overflow_add-result
overflow_add-result g c =
    let l = c.loop-window in
    let sum = within_sum (text_of c.args.window.now) l.before c.args.window.now l.window _ _ l.invariant.within in
    let first = line_room c.text-2.result.now c.first_line.result.0.now c.first_line.result.1.now c.first_line.ensures in
    omega (arith, sum, first, c.requires.few, ap length c.text-2.ensures.text)

pub returns-clause-width : goal.returns-clause-width
returns-clause-width g c =
    let old = c.args.window.now in
    let l = c.loop-window in
    let first = c.first_line.result in
    let cut = ap lines (sym c.text-2.ensures.text) ∙ c.first_line.ensures.cut in
    width_found (text_of old) l.before old l.window _ _ first.0.now first.1.now l.invariant.within (c.has_line.ensures.whole c.loop-window-test.false) cut
