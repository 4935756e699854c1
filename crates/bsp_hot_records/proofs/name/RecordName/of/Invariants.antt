use Rattle.std.proofs.Common.{◌≡◌, drop}
use Rattle.std.specs.List.{find}
use Rattle.std.specs.Str.{bytes_eq}
use Rattle.bsp_hot_records.specs.Records.{name_digits}
use Rattle.bsp_hot_records.proofs.name.RecordName.of.Given as goal

abbrev pub invariant-loop-name : goal.invariant-loop-name
invariant-loop-name l = find (λ n. bytes_eq l.digits (name_digits n)) (drop l.name-index l.names) ≡ find (λ n. bytes_eq l.digits (name_digits n)) l.names
