use Rattle.std.proofs.Common.{◌+◌}
use Rattle.bsp_ret.specs.Groups.{records_of}
use Rattle.bsp_ret.proofs.GroupLemmas.{group_fits, has_fields}
use Rattle.bsp_ret.proofs.file.RetFile.fields.Goals as goal

pub of-requires : goal.of-requires
of-requires c = group_fits (c.args.index + 1) _ (records_of c.in-Some.records) c.in-Some.ensures

pub returns-in-Some : goal.returns-in-Some
returns-in-Some c = has_fields (c.args.index + 1) _ (records_of c.in-Some.records) c.of.result c.in-Some.ensures c.of.ensures
