use Rattle.std.proofs.Common.{sym, ◌∙◌}
use Rattle.bsp_rules.proofs.SharedLemmas.{borne_among, or_second}
use Rattle.bsp_rules.proofs.sharing.bears.Goals as goal

pub returns-else-eq : goal.returns-else-eq
returns-else-eq c = c.names.ensures ∙ or_second _ _ _ (sym c.if-eq.ensures) (borne_among c.args.transaction.now c.args.number.now)
