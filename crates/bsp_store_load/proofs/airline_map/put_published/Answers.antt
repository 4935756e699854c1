use Rattle.bsp_store_base.proofs.Std.{◌+◌, ◌∙◌, ap, from_entries, insert, nat_cmp, sym, take_all}
use Rattle.bsp_store_base.proofs.Base.{placed, published_at, with_published, with_published-taken}
use Rattle.bsp_store_load.proofs.airline_map.put_published.Goals as goal

pub loop-at-preserved : goal.loop-at-preserved
loop-at-preserved c =
    let tokens = from_entries {R = nat_cmp} c.args.tokens.now.entries in
    let code = c.index-published-at.result in
    c.in_ok-put_at.ensures ∙ ap (λ m. insert m code (published_at tokens (c.loop-at.at + 1, code))) c.loop-at.invariant
    ∙ sym (with_published-taken tokens c.args.published.now c.loop-at.at code (from_entries {R = nat_cmp} c.args.airlines.now.entries) c.loop-at-test.true c.index-published-at.is)

pub returns : goal.returns
returns c =
    c.loop-at.invariant
    ∙ ap (λ l. with_published (from_entries {R = nat_cmp} c.args.tokens.now.entries) (placed 0 l) (from_entries {R = nat_cmp} c.args.airlines.now.entries)) (take_all c.loop-at.at c.args.published.now c.loop-at-test.false)
