use Rattle.std.proofs.Common.{◌≡◌, ap, sym, ◌∙◌, Some}
use Rattle.bsp_rows.specs.Rows.{memo_at, memo_key}
use Rattle.bsp_rows.specs.declared.keys.MemoKey.{MemoKey}
use Rattle.bsp_desk_writes.proofs.ServeLemmas.{places}
use Rattle.bsp_desk_writes.proofs.issues.place.Goals as goal

pub returns-in-None-clause-served : goal.returns-in-None-clause-served
returns-in-None-clause-served g c =
    let key : c.of.result ≡ memo_key c.args.memo.now = c.of.ensures ∙ ap memo_key c.fields.ensures.value in
    places g.B.Book.means c.args.book.now c.memo.new.self c.add.new.book c.add.result c.args.memo.now c.add.ensures.fault.trust
    (λ trust now last h. sym c.in-None.is ∙ (c.in_ok-other.ensures.found trust now (Some last) h ∙ ap (λ (k : MemoKey). memo_at k now) key)) c.in_ok-other.ensures.ok c.add.ensures.served
