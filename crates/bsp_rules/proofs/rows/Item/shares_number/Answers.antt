use Rattle.std.proofs.Common.{sym, ◌∙◌}
use Rattle.bsp_rules.specs.Selected.{numbers_of}
use Rattle.bsp_rules.proofs.SharedLemmas.{or_first, or_second, shares_placed}
use Rattle.bsp_rules.proofs.rows.Item.shares_number.Goals as goal

pub returns-then-bears : goal.returns-then-bears
returns-then-bears c =
    c.bears.ensures ∙ or_first _ _ _ (sym c.bears.ensures ∙ c.if-bears.true) (shares_placed (numbers_of c.args.transaction.now) c.args.self.now)

pub returns-else-bears : goal.returns-else-bears
returns-else-bears c =
    c.names_one_of.ensures ∙ or_second _ _ _ (sym c.bears.ensures ∙ c.if-bears.false) (shares_placed (numbers_of c.args.transaction.now) c.args.self.now)
