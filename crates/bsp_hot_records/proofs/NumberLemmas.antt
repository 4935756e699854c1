-- Numbers of digits.
use Rattle.std.proofs.Common.{◌≡◌, ℕ, ◌^◌, ◌<◌, true, List, length, arith}
use Rattle.std.specs.Str.{all_ascii_digits}
use Rattle.bsp_fields.proofs.DecimalLemmas.{number_of-lt}
use Rattle.bsp_hot_records.specs.Records.{number_in}

pub number_in-lt : (text : List ℕ) (width : ℕ) → length text ≡ width → all_ascii_digits text ≡ true → number_in text < 10 ^ width
unfolding number_in
number_in-lt text width long digits = rw digits (number_of-lt text width digits (omega arith))
