use Rattle.std.proofs.Common.{◌≡◌, drop}
use Rattle.std.specs.List.{find}
use Rattle.std.specs.Str.{bytes_eq}
use Rattle.bsp_hot_records.specs.Records.{code_text}
use Rattle.bsp_hot_records.proofs.fields.code_of.Given as goal

abbrev pub invariant-loop-code : goal.invariant-loop-code
invariant-loop-code l = find (λ c. bytes_eq l.text (code_text c)) (drop l.code-index l.codes) ≡ find (λ c. bytes_eq l.text (code_text c)) l.codes
