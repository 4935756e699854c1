use Rattle.std.proofs.Common.{Some}
use Rattle.bsp_office_spec.specs.Ledger.{memo_named}
use Rattle.bsp_desk_writes.specs.Actions.{meaning_of, memo_to}
use Rattle.bsp_desk_writes.proofs.MemoLemmas.{found_to}
use Rattle.bsp_desk_writes.proofs.ServeLemmas.{acts_for}
use Rattle.bsp_desk_writes.proofs.actions.act_for_agent.Goals as goal

pub returns-clause-served : goal.returns-clause-served
returns-clause-served g c =
    acts_for g.B.Book.means c.args.book.now c.memo_to.new.book c.act_on.new.book c.act_on.result (meaning_of c.args.action) (memo_named c.args.named) c.in_ok-memo.memo (memo_to c.args.agent)
    c.act_on.ensures.fault.trust (λ trust now last h. c.in_ok-memo.ensures.found trust now (Some last) h) c.in_ok-memo.ensures.ok (λ rows is. found_to c.args.agent (memo_named c.args.named) rows c.in_ok-memo.memo is) c.act_on.ensures.served
