use Rattle.std.proofs.Common.{◌≡◌, ◌++◌}
use Rattle.std.specs.Prelude.{map}
use Rattle.std.specs.BTreeMap.{values}
use Rattle.bsp_rows.specs.Audit.{parties_of}
use Rattle.bsp_rows.proofs.limits.memo_parties.Given as goal

abbrev pub invariant-loop-memo : goal.invariant-loop-memo
invariant-loop-memo l = l.keys.items ++ map parties_of l.memo-iterator ≡ map parties_of (values l.memos)
