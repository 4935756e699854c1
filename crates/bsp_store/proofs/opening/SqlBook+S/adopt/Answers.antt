use Rattle.bsp_store.proofs.OpeningLemmas.{not_again, opening_of}
use Rattle.bsp_store.proofs.opening.SqlBook+S.adopt.Goals as goal

pub opened-requires : goal.opened-requires
opened-requires g c = record { outside = c.in_ok-conn.ensures.ok.fresh.autocommit; ordered = c.in_ok-conn.ensures.ordered }

pub returns-in_err-conn : goal.returns-in_err-conn
returns-in_err-conn g c = record { opening = not_again g.S.Store c.args.conn _ _ c.from_residual.ensures.1 c.in_err-conn.ensures.refused c.in_err-conn.ensures.left }

pub returns : goal.returns
returns g c = record { opening = opening_of g.S.Store c.args.conn c.opened.result (c.opened.ensures c.args.conn c.in_ok-conn.ensures.ok) }
