-- What a trailer states.
use Rattle.std.proofs.Common.{◌≡◌, ℕ, ◌+◌, ℤ, true, List, Ok, refl, eq-eqb}
use Rattle.std.specs.Str.{all_ascii_digits}
use Rattle.std.proofs.lemmas.Bool.Decides.{Decides-int_eq}
use Rattle.bsp_fields.specs.Decimal.{number_of}
use Rattle.bsp_fields.specs.Zoned.{zoned_reading}
use Rattle.bsp_ret_records.specs.Records.{record_count, transaction_count, total, trailer_fits}
use Rattle.bsp_ret_records.proofs.ValueLemmas.{trailer_fields}
use Rattle.bsp_ret.specs.declared.model.Standing.{Standing}
use Rattle.bsp_ret.specs.Table.{has_counts, has_sum}

pub stated_digits : (line : List ℕ) → trailer_fits line ≡ true → all_ascii_digits (transaction_count line) ≡ true
stated_digits line fits = (trailer_fields line fits).transactions

pub stated_both : (at : Standing) (line : List ℕ) → trailer_fits line ≡ true → number_of (record_count line) ≡ at.records + 1 → number_of (transaction_count line) ≡ at.transactions → has_counts at line ≡ true
stated_both at line fits same_records same_transactions =
    let fields = trailer_fields line fits in
    rw (fields.records, fields.transactions, eq-eqb (number_of (record_count line)) (at.records + 1) same_records, eq-eqb (number_of (transaction_count line)) at.transactions same_transactions) refl

pub stated_same : (at : Standing) (stated : ℤ) (line : List ℕ) → zoned_reading 15 (total line) ≡ Ok stated → stated ≡ at.sum → has_sum at line ≡ true
stated_same at stated line reads same = rw (reads, same) ((Decides-int_eq at.sum at.sum).1 refl)
