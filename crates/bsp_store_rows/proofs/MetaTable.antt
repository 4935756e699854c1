-- The tables of one row at most: that of the day and of the closed periods, and that of the terms.
use Rattle.std.proofs.Common.{◌+◌, ◌≡◌, ℕ, List, [], ◌∷◌, map, Bool, true, false, is_some, Option, Some, None, Ok, refl, sym, ap, ap₂, subst, IsPermutation, Equal, filter, not}
use Rattle.bsp_store_base.proofs.Std.{⊤, IsPermutation-refl, option_to_list, range_with_len}
use Rattle.bsp_store_base.proofs.Sqlite.{all_of, cast_all, col, command_of, Delete, eval_all, everything, Executes, filter_none, Ghosts, Held, Insert, IsDatabase, IsPlain, lit, Null, reads_listing, Row, rowid, runs_as, Select, State, state, understood, Update}
use Rattle.sqlite_schema.specs.declared.command.Source.TheVariants.{Values}
use Rattle.sqlite_schema.specs.declared.schema.Column.{Column}
use Rattle.bsp_store_base.proofs.Base.{width_of, cast_int, cast_null, cast_same, Content, deletes, Does, flag_is, form, inserts, Keeps, KeepsTable, key_project, key_test, Meta, meta_table, meta_row, meta_rows, no_work, one_column, our_schema, simple, terms_table, terms_row, terms_rows, updates, writes, wrote}
use Rattle.bsp_rows.specs.Terms.{Terms}
use Rattle.bsp_store_rows.specs.declared.one_row.TheConstants.{ADD, ADD_TERMS, ALL, ALL_TERMS, CLEAR_TERMS, SET}

abbrev meta_width : ℕ
meta_width = width_of meta_table.tree

abbrev terms_width : ℕ
terms_width = width_of terms_table.tree

meta_casts : (entry : Meta) → cast_all meta_table.columns (meta_row entry) ≡ meta_row entry
meta_casts entry = search (cast_same, cast_int) depth 20 parts 20

terms_casts : (entry : Terms) → cast_all terms_table.columns (terms_row entry) ≡ terms_row entry
terms_casts entry = search (cast_same, cast_int) depth 20 parts 20

-- ---- the texts

abbrev pub add_text : List ℕ
add_text = ADD.now

abbrev pub all_text : List ℕ
all_text = ALL.now

abbrev pub set_text : List ℕ
set_text = SET.now

set_is : (command_of (understood our_schema set_text) ≡ Update 0 (record { lets = []; body = simple meta_table.tree (key_test 1) (key_project 1 meta_width) [] })) × IsPlain (understood our_schema set_text)
unfolding understood everything
set_is = (refl, (refl, refl))

add_is : (command_of (understood our_schema add_text) ≡ Insert 0 (Values (lit Null ∷ map (col 0) (range_with_len 0 meta_width)) (meta_width + 1))) × IsPlain (understood our_schema add_text)
unfolding understood everything
add_is = (refl, (refl, refl))

abbrev pub names : List (List ℕ)
names = map (λ (c : Column). c.name) meta_table.columns

pub all_is : (command_of (understood our_schema all_text) ≡ Select (record { lets = []; body = simple meta_table.tree [] (map (col 1) (range_with_len 1 meta_width)) [] }) names) × IsPlain (understood our_schema all_text) × (reads_listing our_schema all_text ≡ false)
unfolding understood everything
all_is = (refl, (refl, refl), refl)

-- ---- the content

abbrev pub with : Meta → Content → Content
with entry now = record now { meta = Some entry }

replaces : (old new : State) (was entry : Meta) (count : ℕ) (now : Content) → now.meta ≡ Some was → Keeps form now old.now → Executes set_text (meta_row entry) old new (Ok count) → Keeps form (with entry now) new.now
replaces old new was entry count now there keeps h =
    let row = meta_row entry in
    let it = updates our_schema 0 meta_table refl refl (λ db. refl) meta_width (no_work meta_table.tree) set_text set_is.1 row (key_test 1) (key_project 1 meta_width) set_is.0 meta_row (λ e. true) (λ r. refl) (λ r. refl) (λ e. one_column _ Equal (flag_is true true)) (λ e. refl) was row (λ r same. ap (λ cs. eval_all (key_project 1 meta_width) (row ∷ (rowid r ∷ cs) ∷ [])) same)
    (meta_casts entry) (λ id. refl) old new keeps.schema count h (was ∷ []) refl (subst (λ l. KeepsTable meta_width l (old.now.trees meta_table.tree)) (ap meta_rows there) keeps.kept.0) in
    wrote form old.now new.now meta_table.tree now (with entry now) _ it.same it.kept it.others (IsPermutation-refl _, (refl, (refl, (refl, (refl, (refl, (refl, (refl, (refl, (refl, (refl, (refl, (refl, (refl, tt)))))))))))))) keeps

-- the row that is there
replaces_some : (old new : State) (entry : Meta) (count : ℕ) (now : Content) (was : Option Meta) → now.meta ≡ was → is_some was ≡ true → Keeps form now old.now → Executes set_text (meta_row entry) old new (Ok count) → Keeps form (with entry now) new.now
replaces_some old new entry count now (Some was) is there keeps h = replaces old new was entry count now is keeps h
replaces_some old new entry count now None is there keeps h = absurd (cc there)

pub adds : (old new : State) (entry : Meta) (count : ℕ) (now : Content) → now.meta ≡ None → Keeps form now old.now → Executes add_text (meta_row entry) old new (Ok count) → Keeps form (with entry now) new.now
adds old new entry count now none keeps h =
    let row = meta_row entry in
    let it = inserts our_schema 0 meta_table refl refl (λ db. refl) meta_width (no_work meta_table.tree) add_text add_is.1 row _ (meta_width + 1) add_is.0 (Null ∷ row) row refl
    (ap₂ ◌∷◌ cast_null (meta_casts entry)) (λ id. refl) old new keeps.schema count h _ keeps.kept.0 in
    let alone = subst (λ o. IsPermutation (row ∷ []) (row ∷ meta_rows o)) (sym none) (IsPermutation-refl _) in
    wrote form old.now new.now meta_table.tree now (with entry now) _ it.same it.kept it.others (alone, (refl, (refl, (refl, (refl, (refl, (refl, (refl, (refl, (refl, (refl, (refl, (refl, (refl, tt)))))))))))))) keeps

-- and the trees list the schema and obey it
pub adds_sound : (old new : State) (entry : Meta) (count : ℕ) → old.now.schema ≡ our_schema → Executes add_text (meta_row entry) old new (Ok count) → IsDatabase new.now
adds_sound old new entry count ours h = (runs_as add_text (meta_row entry) old new our_schema ours _ add_is.0 add_is.1 count h).sound

-- ---- the calls

none_there : (o : Option Meta) → is_some o ≡ false → o ≡ None
none_there None is = refl
none_there (Some m) is = absurd (cc is)

abbrev pub text_for : Bool → List ℕ
text_for true = set_text
text_for false = add_text

-- the row is written over, or added as the first, by whether one is there
pub writing : {S : Type 0} (g : Ghosts S) (old new : Held S) (entry : Meta) (there : Bool) → Does g old new (text_for there) (meta_row entry) (λ now. is_some now.meta ≡ there) (with entry)
writing g old new entry true r kept ran =
    writes form g old new set_text (meta_row entry) _ set_is.0 set_is.1 (λ is. cc) (λ name is. cc) (λ o n count w. w) r kept ran (λ now. is_some now.meta ≡ true) (with entry)
    (λ now count may keeps h. replaces_some (state g old) (state g new) entry count now now.meta refl may keeps h)
writing g old new entry false r kept ran =
    writes form g old new add_text (meta_row entry) _ add_is.0 add_is.1 (λ is. cc) (λ name is. cc) (λ o n count w. w) r kept ran (λ now. is_some now.meta ≡ false) (with entry)
    (λ now count may keeps h. adds (state g old) (state g new) entry count now (none_there now.meta may) keeps h)

-- ---- the terms

-- all are taken out
no_rows : {A : Type 0} (row_of : A → Row) (xs : List A) → IsPermutation [] (map row_of (filter (λ x. not true) xs))
no_rows row_of xs = subst (λ l. IsPermutation [] (map row_of l)) (sym (filter_none _ xs (all_of _ (λ x. refl) xs))) (IsPermutation-refl [])

abbrev pub clear_text : List ℕ
clear_text = CLEAR_TERMS.now

abbrev pub terms_text : List ℕ
terms_text = ADD_TERMS.now

abbrev pub all_terms_text : List ℕ
all_terms_text = ALL_TERMS.now

clear_is : (command_of (understood our_schema clear_text) ≡ Delete 1 (record { lets = []; body = simple terms_table.tree [] (col 1 0 ∷ []) [] })) × IsPlain (understood our_schema clear_text)
unfolding understood everything
clear_is = (refl, (refl, refl))

terms_is : (command_of (understood our_schema terms_text) ≡ Insert 1 (Values (lit Null ∷ map (col 0) (range_with_len 0 terms_width)) (terms_width + 1))) × IsPlain (understood our_schema terms_text)
unfolding understood everything
terms_is = (refl, (refl, refl))

pub all_terms_is : (command_of (understood our_schema all_terms_text) ≡ Select (record { lets = []; body = simple terms_table.tree [] (map (col 1) (range_with_len 1 terms_width)) [] }) (map (λ (c : Column). c.name) terms_table.columns)) × IsPlain (understood our_schema all_terms_text) × (reads_listing our_schema all_terms_text ≡ false)
unfolding understood everything
all_terms_is = (refl, (refl, refl), refl)

abbrev pub without : Content → Content
without now = record now { terms = None }

abbrev pub with_terms : Terms → Content → Content
with_terms entry now = record now { terms = Some entry }

listed : (o : Option Terms) → terms_rows o ≡ map terms_row (option_to_list o)
listed None = refl
listed (Some entry) = refl

clears : (old new : State) (count : ℕ) (now : Content) → Keeps form now old.now → Executes clear_text [] old new (Ok count) → Keeps form (without now) new.now
clears old new count now keeps h =
    let entries = option_to_list now.terms in
    let it = deletes our_schema 1 terms_table refl refl (λ db. refl) terms_width (no_work terms_table.tree) clear_text clear_is.1 [] [] clear_is.0 terms_row (λ e. true) (λ r. refl) (λ r. refl) (λ e. refl) (λ e. refl)
    old new keeps.schema count h entries (subst (λ l. KeepsTable terms_width l (old.now.trees terms_table.tree)) (listed now.terms) keeps.kept.1.0) in
    wrote form old.now new.now terms_table.tree now (without now) _ it.same it.kept it.others (refl, (no_rows terms_row entries, (refl, (refl, (refl, (refl, (refl, (refl, (refl, (refl, (refl, (refl, (refl, (refl, tt)))))))))))))) keeps

adds_terms : (old new : State) (entry : Terms) (count : ℕ) (now : Content) → now.terms ≡ None → Keeps form now old.now → Executes terms_text (terms_row entry) old new (Ok count) → Keeps form (with_terms entry now) new.now
adds_terms old new entry count now none keeps h =
    let row = terms_row entry in
    let it = inserts our_schema 1 terms_table refl refl (λ db. refl) terms_width (no_work terms_table.tree) terms_text terms_is.1 row _ (terms_width + 1) terms_is.0 (Null ∷ row) row refl
    (ap₂ ◌∷◌ cast_null (terms_casts entry)) (λ id. refl) old new keeps.schema count h _ keeps.kept.1.0 in
    let alone = subst (λ o. IsPermutation (row ∷ []) (row ∷ terms_rows o)) (sym none) (IsPermutation-refl _) in
    wrote form old.now new.now terms_table.tree now (with_terms entry now) _ it.same it.kept it.others (refl, (alone, (refl, (refl, (refl, (refl, (refl, (refl, (refl, (refl, (refl, (refl, (refl, (refl, tt)))))))))))))) keeps

module _ {S : Type 0} (g : Ghosts S) (old new : Held S) where
  pub clearing : Does g old new clear_text [] (λ now. ⊤) without
  clearing r kept ran = writes form g old new clear_text [] _ clear_is.0 clear_is.1 (λ is. cc) (λ name is. cc) (λ o n count w. w) r kept ran (λ now. ⊤) without
      (λ now count may keeps h. clears (state g old) (state g new) count now keeps h)

  pub adding : (entry : Terms) → Does g old new terms_text (terms_row entry) (λ now. now.terms ≡ None) (with_terms entry)
  adding entry r kept ran = writes form g old new terms_text (terms_row entry) _ terms_is.0 terms_is.1 (λ is. cc) (λ name is. cc) (λ o n count w. w) r kept ran (λ now. now.terms ≡ None) (with_terms entry)
      (λ now count may keeps h. adds_terms (state g old) (state g new) entry count now may keeps h)
