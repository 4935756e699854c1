use Rattle.std.proofs.Common.{◌≡◌, [], true, false, sym, ap, ◌∙◌}
use Rattle.std.proofs.KnownBytes.{Consumes-nil, Appends-kept}
use Rattle.bsp_connection.specs.Outputs.{Put}
use Rattle.bsp_connection.proofs.ProgressLemmas.{goes_sent, goes_unsent, less_with_more, like_less, like_most, like_rest, most_at_rest, step_read, still_further}
use Rattle.bsp_connection.proofs.serving.step.Goals as goal

pub returns-in_default-clause-step : goal.returns-in_default-clause-step
returns-in_default-clause-step g c =
    let m = g.S.Service.means in
    let r = g.S.Service.reads in
    let w = c.in_default.ensures in
    let same : c.send_out.new.c.out.bytes ≡ c.go_on.new.c.out.bytes = ap (λ (o : Put). o.bytes) w.kept.3 in (
      [],
      w.written.0,
      Consumes-nil _,
      w.written.3,
      (
        goes_unsent m r c.args.c.now c.go_on.new.c c.send_out.new.c c.args.desk.now c.go_on.new.desk c.go_on.ensures.moves w.kept,
        (w.written.1, same ∙ w.written.2),
        λ none. w.some (sym same ∙ none),
        λ shut. w.kept.2.begun ∙ c.go_on.ensures.shut c.requires.unclosed (sym w.kept.2.closed ∙ shut),
      ),
    )

pub returns-then-is_closed-clause-step : goal.returns-then-is_closed-clause-step
returns-then-is_closed-clause-step g c =
    let m = g.S.Service.means in
    let r = g.S.Service.reads in
    let w = c.in-Ok.ensures in
    let shut : c.send_out.new.c.closed ≡ true = sym c.is_closed.ensures ∙ c.if-is_closed.true in (
      [],
      c.go_on.new.c.out.bytes,
      Consumes-nil _,
      w.written,
      (
        goes_sent m r c.args.c.now c.go_on.new.c c.send_out.new.c c.args.desk.now c.go_on.new.desk c.go_on.new.c.out.bytes c.go_on.ensures.moves w.sent,
        w.free.0,
        shut,
        w.sent.3.begun ∙ c.go_on.ensures.shut c.requires.unclosed (sym w.sent.3.closed ∙ shut),
      ),
    )

pub returns-then-c-clause-step : goal.returns-then-c-clause-step
returns-then-c-clause-step g c =
    let m = g.S.Service.means in
    let r = g.S.Service.reads in
    let w = c.in-Ok.ensures in
    let still : c.send_out.new.c.closed ≡ false = sym c.is_closed.ensures ∙ c.if-is_closed.false in
    let more : c.go_on.new.c.has_more ≡ true = sym w.sent.2 ∙ c.if-c.true in
    let further = still_further c.args.c.now c.go_on.new.c (c.go_on.ensures.goes_on c.requires.unclosed c.requires.free) (sym w.sent.3.closed ∙ still) in
    let few = (c.requires.has.1 c.requires.unclosed).0 in (
      [],
      c.go_on.new.c.out.bytes,
      Consumes-nil _,
      w.written,
      (
        goes_sent m r c.args.c.now c.go_on.new.c c.send_out.new.c c.args.desk.now c.go_on.new.desk c.go_on.new.c.out.bytes c.go_on.ensures.moves w.sent,
        (w.free.0, w.free.1, still),
        like_less c.args.c.now c.go_on.new.c c.send_out.new.c w.sent.3 w.sent.1 (less_with_more c.args.c.now c.go_on.new.c few further more),
      ),
    )

pub returns-clause-step : goal.returns-clause-step
returns-clause-step g c =
    let m = g.S.Service.means in
    let r = g.S.Service.reads in
    let w = c.in-Ok.ensures in
    let still : c.send_out.new.c.closed ≡ false = sym c.is_closed.ensures ∙ c.if-is_closed.false in
    let none : c.send_out.new.c.has_more ≡ false = c.if-c.false in
    let further = still_further c.args.c.now c.go_on.new.c (c.go_on.ensures.goes_on c.requires.unclosed c.requires.free) (sym w.sent.3.closed ∙ still) in
    let few = (c.requires.has.1 c.requires.unclosed).0 in
    let rests : c.go_on.new.c.has_more ≡ false = sym w.sent.2 ∙ none in
    let read = c.receive.ensures.read in (
      read.0,
      c.go_on.new.c.out.bytes,
      read.1,
      Appends-kept _ _ _ _ w.written c.send_on.ensures.kept,
      step_read m r c.args.c.now c.send_out.new.c c.receive.new.c c.args.desk.now c.go_on.new.desk read.0 c.go_on.new.c.out.bytes c.receive.result
          (goes_sent m r c.args.c.now c.go_on.new.c c.send_out.new.c c.args.desk.now c.go_on.new.desk c.go_on.new.c.out.bytes c.go_on.ensures.moves w.sent) (w.free.0, w.free.1, still) none
          (like_most c.args.c.now c.go_on.new.c c.send_out.new.c w.sent.3 w.sent.1 (most_at_rest c.args.c.now c.go_on.new.c few further rests)) (like_rest c.go_on.new.c c.send_out.new.c w.sent.3 w.sent.1 (further.rest rests)) read.2,
    )
