-- What a file's trailer tells.
use Rattle.std.proofs.Common.{◌≡◌, ℕ, ℤ, List, length, ap, ◌∙◌}
use Rattle.std.specs.Prelude.{◌==◌, Ok}
use Rattle.std.specs.Str.{all_ascii_digits}
use Rattle.std.proofs.lemmas.Bool.{and_parts, eqb-true}
use Rattle.bsp_fields.specs.Zoned.{zoned_reading}
use Rattle.bsp_fields.specs.Decimal.{number_of}
use Rattle.bsp_ret_records.specs.Records.{record_count, total}
use Rattle.bsp_ret.specs.Table.{total_paid}
use Rattle.bsp_ret.specs.Ret.{File, file_lines, flatten, Ret}

pub same_sum_of : (text : List ℕ) (x y : ℤ) → zoned_reading 15 text ≡ Ok x → zoned_reading 15 text ≡ Ok y → x ≡ y
same_sum_of text x y first second = cc (first, second)

pub told_sum : (ls : List (List ℕ)) (file : File) (trailer : List ℕ) (sum : ℤ) → Ret ls file → trailer ≡ file.trailer → zoned_reading 15 (total trailer) ≡ Ok sum → sum ≡ total_paid (flatten file.groups)
told_sum ls file trailer sum ret same reads =
    same_sum_of (total file.trailer) sum (total_paid (flatten file.groups)) (rw (← same) reads) ret.trailer.sum_is

pub told_records : (ls : List (List ℕ)) (file : File) (trailer : List ℕ) (count : ℕ) → Ret ls file → trailer ≡ file.trailer → count ≡ number_of (record_count trailer) → count ≡ length (file_lines file)
told_records ls file trailer count ret same is =
    let parts = and_parts (all_ascii_digits (record_count file.trailer)) (number_of (record_count file.trailer) == length ls) ret.trailer.records_are in
    is ∙ ap (λ line. number_of (record_count line)) same ∙ eqb-true (number_of (record_count file.trailer)) (length ls) parts.1 ∙ ap length ret.lines_are
