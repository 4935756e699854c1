-- Results that differ, and the fault that one has.
use Rattle.std.proofs.Common.{◌≡◌, ◌⊎◌, ◌∙◌, Bool, true, false, inl, inr, sym, ap, subst}
use Rattle.std.specs.Prelude.{Result, Ok, Err}
use Rattle.bsp_check.specs.declared.fault.Fault.{Fault}
use Rattle.bsp_check.specs.declared.fault.Fault.TheVariants.{Read, TooLong, Write, Memory}

abbrev IsNotRead : Fault → Type 0
IsNotRead Read = ⊥
IsNotRead TooLong = Unit {0}
IsNotRead Write = Unit {0}
IsNotRead Memory = Unit {0}

abbrev pub IsNotLong : Fault → Type 0
IsNotLong Read = Unit {0}
IsNotLong TooLong = ⊥
IsNotLong Write = Unit {0}
IsNotLong Memory = Unit {0}

abbrev pub IsNotWrite : Fault → Type 0
IsNotWrite Read = Unit {0}
IsNotWrite TooLong = Unit {0}
IsNotWrite Write = ⊥
IsNotWrite Memory = Unit {0}

abbrev IsGiven : {T : Type 0} → Result T Fault → Type 0
IsGiven (Ok x) = Unit {0}
IsGiven (Err fault) = ⊥

abbrev IsTrue : Result Bool Fault → Type 0
IsTrue (Ok true) = Unit {0}
IsTrue (Ok false) = ⊥
IsTrue (Err fault) = ⊥

abbrev fault_or : {T : Type 0} → Fault → Result T Fault → Fault
fault_or fault (Ok x) = fault
fault_or fault (Err other) = other

pub same_fault : {T : Type 0} (r : Result T Fault) (first second : Fault) → r ≡ Err first → r ≡ Err second → first ≡ second
same_fault r first second is other = ap (fault_or first) (sym is ∙ other)

pub ok_not_err : {T : Type 0} (x : T) (fault : Fault) (r : Result T Fault) → r ≡ Ok x → r ≡ Err fault → ⊥
ok_not_err x fault r is other = subst IsGiven (sym is ∙ other) tt

pub true_not_false : (r : Result Bool Fault) → r ≡ Ok true → r ≡ Ok false → ⊥
true_not_false r is other = subst IsTrue (sym is ∙ other) tt

pub not_read : {T : Type 0} (r : Result T Fault) (fault : Fault) → r ≡ Err fault → IsNotRead fault → r ≡ Err Read → ⊥
not_read r fault is holds other = subst IsNotRead (same_fault r fault Read is other) holds

pub not_long : {T : Type 0} (r : Result T Fault) (fault : Fault) → r ≡ Err fault → IsNotLong fault → r ≡ Err TooLong → ⊥
not_long r fault is holds other = subst IsNotLong (same_fault r fault TooLong is other) holds

pub not_write : {T : Type 0} (r : Result T Fault) (fault : Fault) → r ≡ Err fault → IsNotWrite fault → r ≡ Err Write → ⊥
not_write r fault is holds other = subst IsNotWrite (same_fault r fault Write is other) holds

-- a piece that was not read has one of two faults
pub piece_not_long : (fault : Fault) (piece : Result Bool Fault) → piece ≡ Err fault → (piece ≡ Err Read) ⊎ (piece ≡ Err Memory) → IsNotLong fault
piece_not_long fault piece is (inl read) = subst IsNotLong (same_fault piece Read fault read is) tt
piece_not_long fault piece is (inr memory) = subst IsNotLong (same_fault piece Memory fault memory is) tt

pub piece_not_write : (fault : Fault) (piece : Result Bool Fault) → piece ≡ Err fault → (piece ≡ Err Read) ⊎ (piece ≡ Err Memory) → IsNotWrite fault
piece_not_write fault piece is (inl read) = subst IsNotWrite (same_fault piece Read fault read is) tt
piece_not_write fault piece is (inr memory) = subst IsNotWrite (same_fault piece Memory fault memory is) tt
