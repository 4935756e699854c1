use Rattle.std.proofs.Common.{rules, ◌<◌, inl, inr, length}
use Rattle.bsp_http.proofs.RetLemmas.{fed_before, same_fault}
use Rattle.bsp_http.proofs.bodies.read_on.Goals as goal

pub returns-in-Err-clause-refused : goal.returns-in-Err-clause-refused
returns-in-Err-clause-refused c =
    let some : 0 < length c.args.piece.now = search rules in (
      some,
      λ bytes fed.
          fed_before c.args.reader.now c.feed.new.self bytes c.args.piece.now c.in-Err.fault fed c.if-fault-eq0.true
          (λ known failed. same_fault c.in-Err.fault known ((c.in-Err.ensures.failed known failed).0))
          (λ reading. elim (c.in-Err.ensures.fault reading) [ inl none ↦ inl none.1 | inr final ↦ inr final.1 ]),
    )
