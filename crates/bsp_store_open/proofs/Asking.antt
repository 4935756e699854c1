-- A text that selects commits nothing, whatever the tables are.
use Rattle.bsp_store_base.proofs.Std.{[], ◌≡◌, Bool, Err, false, if◌then◌else◌, List, None, Ok, refl, Result, subst, sym, true, ℕ}
use Rattle.bsp_store_base.specs.Sqlite.{Command, CommitsShowing, compiled, Compiled, CompileError, everything, first, Ghosts, Held, if_select, is_select, meaning, planned, reads_listing, returning, returning_by, Schema, state, State, Survives, Trees, understood, with_command}
use Rattle.sqlite_syntax.specs.declared.statement.Parsed.{Parsed}
use Rattle.sqlite_resolve.specs.Lowering.{Checked, and_then}
use Rattle.sqlite_resolve.specs.declared.error.CompileError.TheVariants.{NoSuchTable}
use Rattle.sqlite.proofs.StateLemmas.{survives_weaker}
use Rattle.bsp_store_load.specs.Kept.{Spares}
use Rattle.bsp_store_load.proofs.Showing.{spares_of}
use Rattle.bsp_store_open.specs.Opening.{version_text}

-- it has no RETURNING, where it is understood
abbrev ShowsAlone : Result Compiled CompileError → Type 0
ShowsAlone (Ok c) = c.returning ≡ None
ShowsAlone (Err e) = Unit {0}

with_none : (p : Parsed) (formats : List (List ℕ)) (r : Checked Command) → ShowsAlone (and_then (and_then (and_then r (λ c. Ok (c, None))) (λ found. Ok (formats, found))) (λ plan. Ok (with_command p plan)))
with_none p formats (Ok c) = refl
with_none p formats (Err e) = tt

planned_alone : (schema : Schema) (p : Parsed) → ((base : ℕ) → returning_by schema base p.statement ≡ Ok None) → ShowsAlone (and_then (planned schema p) (λ plan. Ok (with_command p plan)))
unfolding planned meaning returning
planned_alone schema p none = rw (none _) (with_none p _ _)

parsed_text : (p : Parsed) × (first version_text ≡ Ok p) × ((schema : Schema) (base : ℕ) → returning_by schema base p.statement ≡ Ok None)
unfolding first everything
parsed_text = (_, refl, λ schema base. refl)

compiled_alone : (schema : Schema) → ShowsAlone (compiled schema version_text)
unfolding compiled
compiled_alone schema =
    subst (λ r. ShowsAlone (and_then r (λ p. and_then (planned schema p) (λ plan. Ok (with_command p plan))))) (sym parsed_text.1) (planned_alone schema parsed_text.0 (parsed_text.2 schema))

one_alone : (b : Bool) (c : Compiled) → ShowsAlone (Ok c) → ShowsAlone (if b then Ok c else Err NoSuchTable)
one_alone true c alone = alone
one_alone false c alone = tt

select_alone : (r : Result Compiled CompileError) → ShowsAlone r → ShowsAlone (if_select r)
select_alone (Ok c) alone = one_alone (is_select c.command) c alone
select_alone (Err e) alone = tt

either_alone : (b : Bool) (r s : Result Compiled CompileError) → ShowsAlone r → ShowsAlone s → ShowsAlone (if b then r else s)
either_alone true r s one two = one
either_alone false r s one two = two

understood_alone : (schema : Schema) → ShowsAlone (understood schema version_text)
unfolding understood
understood_alone schema = either_alone (reads_listing schema version_text) _ _ (select_alone _ (compiled_alone _)) (compiled_alone schema)

pub version_commits_nothing : (s : State) (db : Trees) → CommitsShowing version_text [] s db → ⊥
unfolding CommitsShowing
version_commits_nothing s db commits = let none = subst ShowsAlone commits.1.is (understood_alone s.now.schema) in absurd (let shown = rw none at commits.2 in cc)

-- so to ask for the version leaves to a stop no more than there was
pub version_spares : {S : Type 0} (g : Ghosts S) (old new : Held S) → Survives (state g old) (state g new) (CommitsShowing version_text [] (state g old)) → Spares g old new
version_spares g old new kept = spares_of g old new (survives_weaker (state g old) (state g new) _ _ (λ _ db. version_commits_nothing (state g old) db) kept)
