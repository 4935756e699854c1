-- What is answered of a store, by whether it was opened.
use Rattle.std.proofs.Common.{◌≡◌, inl, inr, Ok, Err, IfOk, subst}
use Rattle.std.specs.Prelude.{IfErr, MatchResult, Result}
use Rattle.bsp_store_base.proofs.Sqlite.{Error, Held}
use Rattle.bsp_store_open.specs.Faults.{fault_for}
use Rattle.bsp_store_open.specs.declared.fault.OpenFault.{OpenFault}
use Rattle.bsp_store.specs.Files.{Answers}

module _ {S : Type 0} (finds : Held S → Type 0) (fails : Error → Type 0) (Opened : Held S → Type 0) (Unopened : OpenFault → Type 0) where
  pub answers : {L : Type 0} (opened : Result (Held S) (OpenFault × L)) → IfOk opened finds → IfErr opened (λ e. (error : Error) × fails error × (e.0 ≡ fault_for error))
      → MatchResult opened Opened (λ e. Unopened e.0) → Answers finds fails Opened (λ error. Unopened (fault_for error))
  answers (Ok conn) found cause it = inl (conn, found, it)
  answers (Err e) found cause it = inr (cause.0, cause.1, subst Unopened cause.2 it)
