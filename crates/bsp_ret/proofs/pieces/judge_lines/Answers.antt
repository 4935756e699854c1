use Rattle.std.proofs.Common.{◌∙◌, sym}
use Rattle.std.proofs.lemmas.List.{take_rest}
use Rattle.bsp_ret.specs.Payments.{forms_up_to}
use Rattle.bsp_ret.proofs.FewForms.{three_forms}
use Rattle.bsp_ret.proofs.NoteLemmas.{one_next}
use Rattle.bsp_ret.proofs.PieceLemmas.{fails_at_line, fails_behind, open_before, places_with, kept_on, few_small, noted_more}
use Rattle.bsp_ret.proofs.pieces.judge_lines.Goals as goal

pub returns-in-Err-clause-stop : goal.returns-in-Err-clause-stop
returns-in-Err-clause-stop c =
    let l = c.loop-line in
    let begins = rw (take_rest c.args.bytes.now l.now.judged) at c.in-Some.ensures.some in
    rw (c.fault.ensures, c.in-Err.ensures.same) (fails_at_line l.now l.closed.items c.args.bytes.now c.in-Some.line.now c.in-Some.after.now c.in-Err.code l.invariant.noted begins c.in-Err.ensures.fault)

pub add-requires-clause-places : goal.add-requires-clause-places
add-requires-clause-places c =
    let l = c.loop-line in
    places_with _ _ l.now c.step.new.at l.closed.items c.args.bytes.now (open_before l.now.at c.in-Some.line.now c.in-Ok.ensures.row) l.invariant.noted.places

pub add-requires-clause-small : goal.add-requires-clause-small
add-requires-clause-small c =
    let l = c.loop-line in
    few_small _ (forms_up_to l.now.at.last) (three_forms l.now.at.last) (l.invariant.noted.few (open_before l.now.at c.in-Some.line.now c.in-Ok.ensures.row))

pub loop-line-preserved : goal.loop-line-preserved
loop-line-preserved c =
    let l = c.loop-line in
    let line = c.in-Some.line.now in
    let after = c.in-Some.after.now in
    let added = c.in-Ok-add.ensures in
    let begins = rw (take_rest c.args.bytes.now l.now.judged) at c.in-Some.ensures.some in
    let next = one_next c.args.bytes.now l.now.judged line after l.invariant.noted.places.within begins in
    record {
      noted = noted_more l.now c.add.new.self l.closed.items c.add.new.closed.items c.args.bytes.now line after c.in-Ok.next l.invariant.noted (rw added.judged next)
          record {
            none = c.in-Ok.ensures.row;
            says = c.in-Ok.ensures.says;
            state_is = added.at ∙ c.in-Ok.ensures.state;
            fits = rw added.at c.in-Ok.ensures.fits;
            draft = added.draft;
            places = added.places;
            sum = added.sum;
            bound = added.bound;
          };
      kept = kept_on c.args.closed.now.items l.closed.items c.add.new.closed.items l.invariant.kept added.kept;
    }

pub returns-then-now-bytes-clause-stop : goal.returns-then-now-bytes-clause-stop
returns-then-now-bytes-clause-stop c =
    let l = c.loop-line in
    rw c.fault-then-now-bytes.ensures (fails_behind l.now l.closed.items c.args.bytes.now l.invariant.noted (sym c.has_ended.ensures ∙ c.if-has_ended.true) c.if-now-bytes.true)
