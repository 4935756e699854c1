-- Transaction codes as text.
use Rattle.std.specs.Prelude.{ℕ, List, codes}
use Rattle.bsp_ret_records.specs.declared.codes.TransactionCode.{TransactionCode}
use Rattle.bsp_ret_records.specs.declared.codes.TransactionCode.TheVariants.{Tktt, Rfnd, Canx}

abbrev pub code_text : TransactionCode → List ℕ
code_text Tktt = codes "TKTT"
code_text Rfnd = codes "RFND"
code_text Canx = codes "CANX"
