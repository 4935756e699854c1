use Rattle.std.proofs.Common.{arith}
use Rattle.bsp_store_open.proofs.OpeningLemmas.{if_read}
use Rattle.bsp_store.proofs.AdoptingLemmas.{made_left, making_given_up}
use Rattle.bsp_store.proofs.opening.new_book.Goals as goal

pub returns-in-Ok-clause-left : goal.returns-in-Ok-clause-left
returns-in-Ok-clause-left g c = made_left g.S.Store c.args.conn c.make_book.new.conn c.make_book.ensures.stop c.in-Ok.ensures.made c.empty_book.result c.empty_book.ensures.left

pub returns-in-Err-clause-left : goal.returns-in-Err-clause-left
returns-in-Err-clause-left g c = making_given_up g.S.Store c.args.conn c.make_book.new.conn c.make_book.ensures.stop c.into_store.result c.into_store.ensures.quiet

pub returns-in-Ok-clause-earlier : goal.returns-in-Ok-clause-earlier
returns-in-Ok-clause-earlier g c = if_read _ _ c.empty_book.result c.empty_book.ensures.earlier (λ book earlier clean. omega (arith, c.make_book.ensures.stop.clean, earlier clean))
