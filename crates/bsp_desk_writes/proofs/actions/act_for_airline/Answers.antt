use Rattle.std.proofs.Common.{sym, ◌∙◌, Some}
use Rattle.bsp_office_spec.specs.AirlineLedger.{issue_key}
use Rattle.bsp_desk_writes.specs.Actions.{meaning_of, memo_by}
use Rattle.bsp_desk_writes.proofs.MemoLemmas.{by_airline, found_at}
use Rattle.bsp_desk_writes.proofs.ServeLemmas.{acts_for}
use Rattle.bsp_desk_writes.proofs.actions.act_for_airline.Goals as goal

pub returns-clause-served : goal.returns-clause-served
returns-clause-served g c =
    let key = issue_key c.args.airline c.args.document in
    acts_for g.B.Book.means c.args.book.now c.memo.new.self c.act_on.new.book c.act_on.result (meaning_of c.args.action) key c.in_ok-memo.memo (memo_by c.args.airline)
    c.act_on.ensures.fault.trust (λ trust now last h. c.in_ok-memo.ensures.found trust now (Some last) h ∙ sym (by_airline c.args.airline c.args.document now)) c.in_ok-memo.ensures.ok
    (λ rows is. found_at key rows c.in_ok-memo.memo (is ∙ by_airline c.args.airline c.args.document rows)) c.act_on.ensures.served
