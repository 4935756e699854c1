use Rattle.std.proofs.Common.{◌+◌}
use Rattle.bsp_ret.specs.Groups.{records_of}
use Rattle.bsp_ret.proofs.GroupLemmas.{group_fits, has_content}
use Rattle.bsp_ret.proofs.values.transaction.Goals as goal

pub values_of-requires : goal.values_of-requires
values_of-requires c = group_fits (c.args.index + 1) _ (records_of c.in-Some.records) c.in-Some.ensures

pub returns-in-Some : goal.returns-in-Some
returns-in-Some c =
    has_content (c.args.index + 1) _ (records_of c.in-Some.records) c.values_of.result c.in-Some.ensures c.values_of.ensures
