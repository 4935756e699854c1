-- Lemmas on the data of bodies, and on texts of codes.
use Rattle.std.proofs.Common.{◌≡◌, ℕ, List, Some, None, Bool, true, false, refl, codes}
use Rattle.std.specs.Str.{IsUtf8, chars, is_utf8}
use Rattle.std.proofs.lemmas.Str.{IsUtf8-from_is_utf8, is_utf8-from_IsUtf8}
use Rattle.serde_json.proofs.OnLiterals.{serde_json_on_literals}
use Rattle.serde_json.specs.Data.{Data}
use Rattle.serde_json.specs.Read.{read}
use Rattle.bsp_ret.specs.RetRecordsTexts.{code_text}
use Rattle.bsp_ret.specs.TransactionCode.{TransactionCode}
use Rattle.bsp_ret.specs.Texts.{fault_text}
use Rattle.bsp_ret.specs.declared.model.FaultCode.{FaultCode}
use Rattle.bsp_ret.specs.declared.model.FaultCode.TheVariants.{F01, F02, F03, F04, F05, F06, F07, F08, F09, F10}
use Rattle.bsp_messages.specs.Bodies.{data_of}

pub data_of-some : (bytes : List ℕ) (d : Data) → IsUtf8 bytes → read bytes ≡ Some d → data_of bytes ≡ Some d
data_of-some bytes d u e = rw (is_utf8-from_IsUtf8 bytes u) e

pub data_of-none : (bytes : List ℕ) → (IsUtf8 bytes → read bytes ≡ None) → data_of bytes ≡ None
data_of-none bytes h = go (is_utf8 bytes) refl
  where
    go : (t : Bool) → is_utf8 bytes ≡ t → data_of bytes ≡ None
    go true e = rw e (h (IsUtf8-from_is_utf8 bytes e))
    go false e = rw e refl

-- the code of a fault is UTF-8
pub fault_text-utf8 : (code : FaultCode) → IsUtf8 (fault_text code)
unfolding is_utf8 chars serde_json_on_literals
fault_text-utf8 F01 = IsUtf8-from_is_utf8 (codes "F01") refl
fault_text-utf8 F02 = IsUtf8-from_is_utf8 (codes "F02") refl
fault_text-utf8 F03 = IsUtf8-from_is_utf8 (codes "F03") refl
fault_text-utf8 F04 = IsUtf8-from_is_utf8 (codes "F04") refl
fault_text-utf8 F05 = IsUtf8-from_is_utf8 (codes "F05") refl
fault_text-utf8 F06 = IsUtf8-from_is_utf8 (codes "F06") refl
fault_text-utf8 F07 = IsUtf8-from_is_utf8 (codes "F07") refl
fault_text-utf8 F08 = IsUtf8-from_is_utf8 (codes "F08") refl
fault_text-utf8 F09 = IsUtf8-from_is_utf8 (codes "F09") refl
fault_text-utf8 F10 = IsUtf8-from_is_utf8 (codes "F10") refl

-- so is that of a transaction
pub code_text-utf8 : (code : TransactionCode) → IsUtf8 (code_text code)
unfolding is_utf8 chars serde_json_on_literals
code_text-utf8 TransactionCode.Tktt = IsUtf8-from_is_utf8 (codes "TKTT") refl
code_text-utf8 TransactionCode.Rfnd = IsUtf8-from_is_utf8 (codes "RFND") refl
code_text-utf8 TransactionCode.Canx = IsUtf8-from_is_utf8 (codes "CANX") refl
