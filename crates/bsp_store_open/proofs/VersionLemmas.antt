-- The tables of a version are not those of another one, and a store without tables has those of none.
use Rattle.std.proofs.Common.{◌≡◌, Bool, List, [], ◌∷◌, true, false, true≢false, ap, arith, drop, refl, sym}
use Rattle.bsp_store_base.proofs.Sqlite.{Schema, Table}
use Rattle.bsp_store_load.specs.Schema.{no_schema, our_schema}
use Rattle.bsp_store_load.specs.Columns.{version as our_version}
use Rattle.bsp_store_open.specs.Old.{old_number, old_schema}
use Rattle.bsp_store_open.specs.declared.old_versions.OldVersion.{OldVersion}
use Rattle.bsp_store_open.specs.declared.old_versions.OldVersion.TheVariants.{First, Second}

abbrev has_none : List Table → Bool
has_none [] = true
has_none (t ∷ ts) = false

pub bare_not_ours : no_schema ≡ our_schema → ⊥
bare_not_ours same = true≢false (ap (λ (s : Schema). has_none s.tables) same)

pub old_not_ours : (version : OldVersion) → old_schema version ≡ our_schema → ⊥
old_not_ours First same = true≢false (ap (λ (s : Schema). has_none (drop 10 s.tables)) same)
old_not_ours Second same = true≢false (ap (λ (s : Schema). has_none (drop 13 s.tables)) same)

pub old_not_bare : (version : OldVersion) → no_schema ≡ old_schema version → ⊥
old_not_bare First same = true≢false (ap (λ (s : Schema). has_none s.tables) same)
old_not_bare Second same = true≢false (ap (λ (s : Schema). has_none s.tables) same)

pub one_old : (a b : OldVersion) → old_schema a ≡ old_schema b → a ≡ b
one_old First First same = refl
one_old Second Second same = refl
one_old First Second same = absurd (true≢false (ap (λ (s : Schema). has_none (drop 10 s.tables)) same))
one_old Second First same = absurd (true≢false (ap (λ (s : Schema). has_none (drop 10 s.tables)) (sym same)))

-- ---- and so of their numbers

pub other_number : (version : OldVersion) → old_number version ≡ our_version → ⊥
other_number First same = omega arith
other_number Second same = omega arith

pub one_number : (a b : OldVersion) → old_number a ≡ old_number b → a ≡ b
one_number First First same = refl
one_number Second Second same = refl
one_number First Second same = absurd (omega arith)
one_number Second First same = absurd (omega arith)
