use Rattle.std.proofs.Common.{ap, sym, ◌∙◌}
use Rattle.std.specs.Result.{result_ok}
use Rattle.bsp_office_spec.specs.Ledger.{agent_of}
use Rattle.bsp_desk_sales.proofs.judging.reads_back.Goals as goal

pub returns : goal.returns
returns c = ap agent_of (sym c.digits-text.ensures.text) ∙ ap result_ok c.digits-text.ensures.reads_back
