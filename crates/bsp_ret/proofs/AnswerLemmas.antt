-- What a reading's answer says of the files and the faults.
use Rattle.std.proofs.Common.{◌≡◌, ℕ, List, Option, Some, None, Result, Ok, Err, ◌⊎◌, inl, inr, sym, ap, subst, ◌∙◌}
use Rattle.std.specs.Prelude.{IfOk, IfErr}
use Rattle.bsp_ret.specs.declared.model.RetFault.{RetFault}
use Rattle.bsp_ret.specs.Table.{first_fault}
use Rattle.bsp_ret.specs.Ret.{File, Ret}
use Rattle.bsp_ret.specs.Reading.{read_all, no_memory}
use Rattle.bsp_ret.proofs.LawLemmas.{fault_of, read_is_fault, is_file, is_read, law}

abbrev Answer : Type 0
Answer = Result File RetFault

-- the file that was read is the one that stands in the relation
pub only_file : (lines : List (List ℕ)) (read : File) → read_all lines ≡ Ok read → (file : File) → Ret lines file → ◌≡◌ {A = Answer} (Ok read) (Ok file)
only_file lines read is file ret = sym is ∙ is_read lines file ret

abbrev HasFault : Option RetFault → Type 0
HasFault None = ⊥
HasFault (Some fault) = Unit {0}

-- lines with a fault are no file's
pub faulty : (lines : List (List ℕ)) (fault : RetFault) → first_fault lines ≡ Some fault → (file : File) → Ret lines file → ⊥
faulty lines fault is file ret =
    let k : Some fault ≡ None = sym is ∙ (law lines).none file ret in
    subst HasFault k tt

-- ---- a file that was read, or no memory

pub answer_found : (lines : List (List ℕ)) (r : Answer) → IfOk r (λ file. read_all lines ≡ Ok file) → IfOk r (λ file. Ret lines file)
answer_found lines (Ok file) read = is_file lines file read
answer_found lines (Err fault) read = tt

pub answer_only : (lines : List (List ℕ)) (r : Answer) → IfOk r (λ file. read_all lines ≡ Ok file) → IfErr r (λ fault. fault ≡ no_memory) → (file : File) → Ret lines file → (r ≡ Ok file) ⊎ (r ≡ Err no_memory)
answer_only lines (Ok read) is none file ret = inl (only_file lines read is file ret)
answer_only lines (Err fault) is none file ret = inr (ap Err none)

-- ---- which fault it is

pub answer_fault : {A : Type 0} (lines : List (List ℕ)) (r : Result A RetFault) → IfErr r (λ fault. fault ≡ no_memory) → IfErr r (λ fault. (fault ≡ no_memory) ⊎ (first_fault lines ≡ Some fault))
answer_fault lines (Ok file) none = tt
answer_fault lines (Err fault) none = inl none

pub read_fault : {A : Type 0} (lines : List (List ℕ)) (r : Result A RetFault) → IfErr r (λ fault. read_all lines ≡ Err fault) → IfErr r (λ fault. (fault ≡ no_memory) ⊎ (first_fault lines ≡ Some fault))
read_fault lines (Ok file) is = tt
read_fault lines (Err fault) is = inr (sym (read_is_fault lines) ∙ ap fault_of is)
