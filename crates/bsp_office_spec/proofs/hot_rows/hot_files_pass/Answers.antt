use Rattle.bsp_office_spec.proofs.HotRules.{hot_files_pass}
use Rattle.bsp_office_spec.proofs.hot_rows.hot_files_pass.Goals as goal

pub returns : goal.returns
returns c = hot_files_pass
