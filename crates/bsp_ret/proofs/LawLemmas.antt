-- The fault table and the relation Ret agree.
use Rattle.std.proofs.Common.{◌≡◌, ℕ, ◌+◌, Bool, true, false, cond, List, [], ◌∷◌, ◌++◌, length, Option, Some, None, Result, Ok, Err, refl, sym, ap, ◌∙◌}
use Rattle.bsp_ret.specs.declared.model.FaultCode.{FaultCode}
use Rattle.bsp_ret.specs.declared.model.FaultCode.TheVariants.{F08}
use Rattle.bsp_ret.specs.declared.model.RetFault.{RetFault}
use Rattle.bsp_ret.specs.declared.model.Standing.{Standing}
use Rattle.bsp_ret.specs.Table.{standing, has_ended, row_fault, or_later, fault_from, first_fault}
use Rattle.bsp_ret.specs.Standings.{standing_behind, fault_behind}
use Rattle.bsp_ret.specs.Ret.{File, Ret}
use Rattle.bsp_ret.specs.Reading.{Draft, nothing, add, or_read, read_from, read_all}
use Rattle.bsp_ret.specs.Law.{FaultOrFile}
use Rattle.bsp_ret.proofs.Steps.{standing_snoc, read_nil, read_cons}
pub use Rattle.bsp_ret.proofs.Sound.{is_file}
pub use Rattle.bsp_ret.proofs.Complete.{is_read}

-- ---- the first fault

pub behind_nil : (at : Standing) → fault_behind at [] ≡ cond (has_ended at.last) None (Some (record { code = F08; at = at.records + 1 }))
unfolding fault_behind
behind_nil at = refl

pub behind_cons : (at : Standing) (line : List ℕ) (lines : List (List ℕ)) → fault_behind at (line ∷ lines) ≡ or_later (row_fault at line) (at.records + 1) (fault_behind (standing_behind at line) lines)
unfolding fault_behind
behind_cons at line lines = refl

-- what is at fault behind lines depends on how they stand alone
pub is_first : (before lines : List (List ℕ)) → fault_behind (standing before) lines ≡ fault_from before lines
is_first before [] = behind_nil (standing before)
is_first before (line ∷ lines) =
    let more : fault_behind (standing_behind (standing before) line) lines ≡ fault_from (before ++ line ∷ []) lines = ap (λ (at : Standing). fault_behind at lines) (sym (standing_snoc before line)) ∙ is_first (before ++ line ∷ []) lines in
    behind_cons (standing before) line lines ∙ ap (or_later (row_fault (standing before) line) (length before + 1)) more

abbrev pub fault_of : Result File RetFault → Option RetFault
fault_of (Ok file) = None
fault_of (Err fault) = Some fault

row_read : (row : Result (Unit {0}) FaultCode) (at : ℕ) (read : Result File RetFault) → fault_of (or_read row at read) ≡ or_later row at (fault_of read)
row_read (Ok none) at read = refl
row_read (Err code) at read = refl

end_read : (ended : Bool) (file : File) (fault : RetFault) → fault_of (cond ended (Ok file) (Err fault)) ≡ cond ended None (Some fault)
end_read true file fault = refl
end_read false file fault = refl

pub read_behind : (lines : List (List ℕ)) (at : Standing) (d : Draft) → fault_of (read_from at d lines) ≡ fault_behind at lines
read_behind [] at d = ap fault_of (read_nil at d) ∙ end_read (has_ended at.last) _ _ ∙ sym (behind_nil at)
read_behind (line ∷ lines) at d =
    ap fault_of (read_cons at d line lines)
    ∙ row_read (row_fault at line) (at.records + 1) (read_from (standing_behind at line) (add d line) lines)
    ∙ ap (or_later (row_fault at line) (at.records + 1)) (read_behind lines (standing_behind at line) (add d line))
    ∙ sym (behind_cons at line lines)

-- what a reader meets is the first record to which a row applies
pub read_is_fault : (lines : List (List ℕ)) → fault_of (read_all lines) ≡ first_fault lines
read_is_fault lines = read_behind lines (standing []) nothing ∙ is_first [] lines

-- ---- the law

read_or_fault : (lines : List (List ℕ)) (read : Result File RetFault) → read_all lines ≡ read → first_fault lines ≡ None → (file : File) × Ret lines file
read_or_fault lines (Ok file) e none = (file, is_file lines file e)
read_or_fault lines (Err fault) e none = let k : Some fault ≡ None = sym (ap fault_of e) ∙ read_is_fault lines ∙ none in absurd cc

same_file : (file other : File) (read : Result File RetFault) → read ≡ Ok file → read ≡ Ok other → file ≡ other
same_file file other read e f = cc

pub law : (lines : List (List ℕ)) → FaultOrFile lines
law lines = record {
  file = read_or_fault lines (read_all lines) refl;
  none = λ file ret. sym (read_is_fault lines) ∙ ap fault_of (is_read lines file ret);
  one = λ file other ret ret2. same_file file other (read_all lines) (is_read lines file ret) (is_read lines other ret2);
}
