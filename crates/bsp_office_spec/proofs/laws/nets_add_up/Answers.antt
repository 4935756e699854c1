use Rattle.bsp_office_spec.proofs.HotNets.{hot_files_show}
use Rattle.bsp_office_spec.proofs.NetLemmas.{nets_add_up}
use Rattle.bsp_office_spec.proofs.Printed.{hot_files_print, settlements_print, statements_print}
use Rattle.bsp_office_spec.proofs.PrintedInRuns.{runs_print}
use Rattle.bsp_office_spec.proofs.laws.nets_add_up.Goals as goal

pub returns-clause-sums : goal.returns-clause-sums
returns-clause-sums c = nets_add_up

pub returns-clause-shown : goal.returns-clause-shown
returns-clause-shown c = hot_files_show

pub returns-clause-statements : goal.returns-clause-statements
returns-clause-statements c = statements_print

pub returns-clause-files : goal.returns-clause-files
returns-clause-files c = hot_files_print

pub returns-clause-settlements : goal.returns-clause-settlements
returns-clause-settlements c = settlements_print

pub returns-clause-runs : goal.returns-clause-runs
returns-clause-runs c = runs_print
