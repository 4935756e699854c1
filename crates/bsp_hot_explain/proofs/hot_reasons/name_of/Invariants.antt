use Rattle.std.proofs.Common.{◌≡◌, drop}
use Rattle.bsp_hot_records.specs.Records.{name_of}
use Rattle.bsp_hot_explain.proofs.Names.{first_named}
use Rattle.bsp_hot_explain.proofs.hot_reasons.name_of.Given as goal

abbrev pub invariant-loop-name : goal.invariant-loop-name
invariant-loop-name l = first_named l.digits (drop l.name-index l.name-items) ≡ name_of l.digits
