-- Faults of a RET file have the number of a record; out of memory has none.
use Rattle.std.proofs.Common.{◌≡◌, ◌⊎◌, inl, inr, ℕ, ◌+◌, ◌<◌, Bool, true, false, cond, List, [], ◌∷◌, ◌++◌, length, Option, Some, None, Result, Ok, Err, sym, ap, ◌∙◌, arith}
use Rattle.bsp_ret.specs.Lines.{lines}
use Rattle.bsp_ret.specs.declared.model.FaultCode.{FaultCode}
use Rattle.bsp_ret.specs.declared.model.FaultCode.TheVariants.{F08}
use Rattle.bsp_ret.specs.declared.model.RetFault.{RetFault}
use Rattle.bsp_ret.specs.Table.{standing, has_ended, row_fault, or_later, fault_from}
use Rattle.bsp_ret.specs.declared.model.Progress.TheVariants.{Reading, Failed}
use Rattle.bsp_ret.specs.Pieces.{Fed, IsFinal}
use Rattle.bsp_http.specs.Bodies.{HasRet}

at_end : (ended : Bool) (fault first : RetFault) → 0 < fault.at → cond ended None (Some fault) ≡ Some first → 0 < first.at
at_end true fault first some e = absurd cc
at_end false fault first some e = let same : fault ≡ first = cc in rw (← same) some

at_row : (row : Result (Unit {0}) FaultCode) (at : ℕ) (later : Option RetFault) (first : RetFault) → 0 < at → (later ≡ Some first → 0 < first.at) → or_later row at later ≡ Some first → 0 < first.at
at_row (Ok none) at later first some behind e = behind e
at_row (Err code) at later first some behind e = let same : at ≡ first.at = cc in rw (← same) some

at_record : (before rest : List (List ℕ)) (first : RetFault) → fault_from before rest ≡ Some first → 0 < first.at
at_record before [] first e = at_end (has_ended (standing before).last) (record { code = F08; at = length before + 1 }) first (omega arith) e
at_record before (line ∷ rest) first e =
    at_row (row_fault (standing before) line) (length before + 1) (fault_from (before ++ line ∷ []) rest) first (omega arith) (at_record (before ++ line ∷ []) rest first) e

has_record : (bytes : List ℕ) (fault : RetFault) → IsFinal bytes fault → 0 < fault.at
has_record bytes fault final = at_record [] (lines (bytes ++ [])) fault (final [])

pub same_fault : (fault known : RetFault) → ◌≡◌ {A = Result (Unit {0}) RetFault} (Err fault) (Err known) → fault ≡ known
same_fault fault known e = cc

-- a piece that was refused as out of memory left the reader as it was
pub fed_before : (old new : Fed) (bytes piece : List ℕ) (fault : RetFault) → HasRet old bytes → fault.at ≡ 0
    → ((known : RetFault) → old.progress ≡ Failed known → fault ≡ known)
    → (old.progress ≡ Reading → (new ≡ old) ⊎ IsFinal (old.bytes ++ piece) fault) → HasRet new bytes
fed_before old new bytes piece fault (inl reading) none failed same = elim (same (ap (λ (f : Fed). f.progress) reading)) [
  | inl kept ↦ inl (kept ∙ reading)
  | inr final ↦ let some = has_record (old.bytes ++ piece) fault final in absurd (omega (arith, some, none))
]
fed_before old new bytes piece fault (inr faulty) none failed same =
    let known : fault ≡ faulty.fault = failed faulty.fault (ap (λ (f : Fed). f.progress) faulty.fed_is) in
    let some = has_record faulty.front faulty.fault faulty.final in
    let zero : faulty.fault.at ≡ 0 = ap (λ (f : RetFault). f.at) (sym known) ∙ none in
    absurd (omega (arith, some, zero))
