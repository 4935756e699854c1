-- Which faults say that a store has no book of this version, and which an error of the store is.
use Rattle.std.specs.Prelude.{◌≡◌, Bool, true, false}
use Rattle.sqlite.specs.declared.error.Error.{Error as StoreError}
use Rattle.bsp_store_base.specs.Sqlite.{OutOfMemory, SqliteFailure, TooBig}
use Rattle.bsp_store_open.specs.declared.fault.OpenFault.{OpenFault}
use Rattle.bsp_store_open.specs.declared.fault.OpenFault.TheVariants.{NoRoom, Damaged, Failed, OtherVersion}

-- it is of another version, or damaged
abbrev pub is_refusal : OpenFault → Bool
is_refusal NoRoom = false
is_refusal Damaged = true
is_refusal (Failed error) = false
is_refusal OtherVersion = true

-- B01 where memory was refused or a row is too big, and else B03 with the error
abbrev pub fault_for : StoreError → OpenFault
fault_for (SqliteFailure OutOfMemory) = NoRoom
fault_for (SqliteFailure TooBig) = NoRoom
fault_for error = Failed error

-- Why tables are refused that cannot be asked for their version: they are damaged, unless the store failed.
abbrev pub refusal_for : StoreError → OpenFault
refusal_for (SqliteFailure code) = fault_for (SqliteFailure code)
refusal_for error = Damaged

-- what an error of the store means at an opening
pub record IsFaultOf (error : StoreError) (fault : OpenFault) : Type 0 where
  pub exact : fault ≡ fault_for error
  pub refuses : is_refusal fault ≡ false
