use Rattle.std.proofs.Common.{inl, inr, refl}
use Rattle.bsp_store_base.specs.Sqlite.{CannotOpen, OutOfMemory, SqliteFailure}
use Rattle.bsp_store.proofs.missing_log.fault_of.Goals as goal

pub returns-in-OutOfMemory : goal.returns-in-OutOfMemory
returns-in-OutOfMemory c = (SqliteFailure OutOfMemory, inr (inl refl), refl)

pub returns-in_default : goal.returns-in_default
returns-in_default c = (SqliteFailure CannotOpen, inl refl, refl)
