-- The text of the tables makes them in a store that has nothing, one statement after the other.
use Rattle.bsp_store_base.proofs.Std.{[], ◌∙◌, ◌∷◌, ◌≡◌, ap, append-nil, cases_Bool, digits, drop, Err, false, fold, inl, inr, length, List, nat_lt, None, none-some, Ok, OnOk, Option, refl, Result, same_Some, Some, subst, subst₂, suc, sym, take, true, zero, ℕ}
use Rattle.bsp_store_base.specs.Sqlite.{Command, CompileError, Compiled, CreateTable, Database, Error, Ghosts, Gives, HasCleanDisk, Held, MakesSequence, MakesTable, Returning, Row, Runs, Schema, State, Table, Tally, Then, Writes, lacks_sequence, no_rows, shows_rows, state, text_of, timed}
use Rattle.bsp_store_base.proofs.Sqlite.{all-append, all_both, command_of, everything, ExecutesIn, IsPlain, statement_of, table_defined_by, through, understood}
use Rattle.sqlite_catalog.specs.Change.{KeepsRows, created, next_tree}
use Rattle.sqlite.specs.Batch.{ExecutesAllInside, RunInTurn, first_len}
use Rattle.bsp_store_base.specs.Made.{HasNoRows}
use Rattle.bsp_store_base.specs.Schema.{no_schema, our_schema, our_tables}
use Rattle.bsp_store_base.specs.declared.made.TheConstants.{TABLES}
use Rattle.bsp_store_base.proofs.Writing.{same_value}

-- ---- one statement of a text

module _ (sql : List ℕ) (params : Row) (old new : State) (schema : Schema) (has : old.now.schema ≡ schema) (command : Command) (is : command_of (understood schema sql) ≡ command)
    (plain : IsPlain (understood schema sql)) where
  -- a statement of a text means what it means by itself
  ran_as : (count : ℕ) → ExecutesIn true sql params old new (Ok count) → Runs old new None command (statement_of sql (understood schema sql)) params count
  unfolding ExecutesIn
  ran_as count h =
      let known = sym h.1.is ∙ ap (λ s. understood s sql) has in
      let bare = subst IsPlain (sym known) plain in
      let ran : Runs old new h.0.returning h.0.command (text_of sql h.0) (timed params h.0.formats h.1.now) count = elim (cases_Bool (shows_rows true h.0)) [
        | inl shows ↦ absurd (let e = (rw shows at h.2).0 in cc)
        | inr runs ↦ rw runs at h.2
      ] in
      subst₂ (λ k t. Runs old new None k t params count) (ap command_of known ∙ is) (ap (statement_of sql) known) (rw (bare.0, bare.1, append-nil params) at ran)

-- CREATE TABLE adds its table, which has no row, and leaves the others without rows
creates : (schema : Schema) (sql : List ℕ) (table : Table) → command_of (understood schema sql) ≡ CreateTable → IsPlain (understood schema sql)
    → table_defined_by (statement_of sql (understood schema sql)) ≡ Ok table → lacks_sequence (created schema table) ≡ false
    → (old new : State) (count : ℕ) → ExecutesIn true sql [] old new (Ok count) → HasNoRows schema old.now → HasNoRows (created schema table) new.now
creates schema sql table is plain defined uncounted old new count h has =
    let text = statement_of sql (understood schema sql) in
    let w : Writes old new None CreateTable text [] count = ran_as sql [] old new schema has.schema CreateTable is plain count h in
    let all = through (Then (MakesTable text old.now) MakesSequence) (λ after. Gives (no_rows false, after)) _ w.changed in
    let first = through (MakesTable text old.now) MakesSequence _ all.1 in
    let made = first.1 in
    let both : Ok made.table ≡ Ok table = sym made.defined ∙ defined in
    let same : made.table ≡ table = cc in
    let after : first.0.schema ≡ created schema table = made.is ∙ ap (λ s. created s made.table) has.schema ∙ ap (created schema) same in
    let counted : lacks_sequence first.0.schema ≡ false = ap lacks_sequence after ∙ uncounted in
    let now : new.now ≡ first.0 = ap (λ (p : Tally × Database). p.1) (same_value all.2) ∙ same_value (rw counted at first.2) in
    let keeps : KeepsRows schema.tables old.now.trees first.0.trees = subst (λ (s : Schema). KeepsRows s.tables old.now.trees first.0.trees) has.schema made.others in
    let last : first.0.trees (next_tree schema) ≡ [] = subst (λ s. first.0.trees (next_tree s) ≡ []) has.schema made.empty in
    subst (HasNoRows (created schema table)) (sym now) (record {
      schema = after;
      empty = all-append (λ (t : Table). first.0.trees t.tree ≡ []) schema.tables (record table { tree = next_tree schema } ∷ []) (all_both _ _ _ (λ t same empty. same ∙ empty) schema.tables keeps has.empty) (last, tt);
    })

-- ---- the statements one after the other

-- what there is to know of a statement that makes a table, in one value
abbrev Seen : Type 0
Seen = Command × Option Returning × List (List ℕ) × Result Table CompileError

abbrev makes : Table → Option Seen
makes table = Some (CreateTable, None, [], Ok table)

abbrev seen_of : List ℕ → Result Compiled CompileError → Option Seen
seen_of sql (Ok c) = Some (c.command, c.returning, c.formats, table_defined_by (text_of sql c))
seen_of sql (Err e) = None

as_seen : (sql : List ℕ) (r : Result Compiled CompileError) (table : Table) → seen_of sql r ≡ makes table
    → (command_of r ≡ CreateTable) × IsPlain r × (table_defined_by (statement_of sql r) ≡ Ok table)
as_seen sql (Ok c) table is = let same = same_Some _ _ is in (ap (λ (s : Seen). s.0) same, (ap (λ (s : Seen). s.1) same, ap (λ (s : Seen). s.2) same), ap (λ (s : Seen). s.3) same)
as_seen sql (Err e) table is = absurd (none-some _ is)

-- the first statement of a text makes the table
record Makes (schema : Schema) (text : List ℕ) (table : Table) : Type 0 where
  some : nat_lt 0 (length text) ≡ true
  seen : seen_of (take (first_len text) text) (understood schema (take (first_len text) text)) ≡ makes table
  uncounted : lacks_sequence (created schema table) ≡ false

-- each statement makes one of the tables, which gets its tree by it
abbrev MakeAll : Schema → List ℕ → List Table → Type 0
MakeAll schema text [] = text ≡ []
MakeAll schema text (t ∷ ts) = Makes schema text (record t { tree = 0 }) × MakeAll (created schema (record t { tree = 0 })) (drop (first_len text) text) ts

module _ {S : Type 0} (g : Ghosts S) (held : ℕ) where
  all_made : (ts : List Table) (schema : Schema) (text : List ℕ) → MakeAll schema text ts → (most : ℕ) (old new : Held S) (done : Unit {0}) → RunInTurn g (Some held) most text old new (Ok done)
      → HasNoRows schema (state g old).now → HasNoRows (fold (λ made t. created made (record t { tree = 0 })) schema ts) (state g new).now
  all_made [] schema [] none most old new done ran has = subst (λ h. HasNoRows schema (state g h).now) (sym ran.1) has
  all_made [] schema (b ∷ more) none most old new done ran has = absurd (cc none)
  all_made (t ∷ ts) schema [] make most old new done ran has = absurd (let some = make.0.some in cc)
  all_made (t ∷ ts) schema (b ∷ more) make zero old new done ran has = absurd ran
  all_made (t ∷ ts) schema (b ∷ more) make (suc most) old new done (inl failed) has = absurd (let no = failed.1 in cc)
  all_made (t ∷ ts) schema (b ∷ more) make (suc most) old new done (inr (mid, count, first, rest, stays)) has =
      let text = b ∷ more in
      let found = as_seen _ _ _ make.0.seen in
      all_made ts (created schema (record t { tree = 0 })) (drop (first_len text) text) make.1 most mid new done rest
      (creates schema (take (first_len text) text) (record t { tree = 0 }) found.0 found.1 found.2 make.0.uncounted (state g old) (state g mid) count first.runs has)

-- ---- the text of the tables

-- what CREATE TABLE makes of the tables, which get their trees by it
made_is_our_schema : fold (λ made t. created made (record t { tree = 0 })) no_schema our_tables ≡ our_schema
unfolding digits
made_is_our_schema = refl

tables_make : MakeAll no_schema TABLES.now our_tables
unfolding understood everything
tables_make = (record { some = refl; seen = refl; uncounted = refl }, (record { some = refl; seen = refl; uncounted = refl }, (record { some = refl; seen = refl; uncounted = refl }, (record { some = refl; seen = refl; uncounted = refl }, (record { some = refl; seen = refl; uncounted = refl }, (record { some = refl; seen = refl; uncounted = refl }, (record { some = refl; seen = refl; uncounted = refl }, (record { some = refl; seen = refl; uncounted = refl }, (record { some = refl; seen = refl; uncounted = refl }, (record { some = refl; seen = refl; uncounted = refl }, (record { some = refl; seen = refl; uncounted = refl }, (record { some = refl; seen = refl; uncounted = refl }, (record { some = refl; seen = refl; uncounted = refl }, (record { some = refl; seen = refl; uncounted = refl }, refl))))))))))))))

pub tables_made : {S : Type 0} (g : Ghosts S) (old new : Held S) (r : Result (Unit {0}) Error) → (HasCleanDisk (state g new) → ExecutesAllInside g 0 TABLES.now old new r)
    → OnOk r (HasCleanDisk (state g new) → (state g old).now.schema ≡ no_schema → HasNoRows our_schema (state g new).now)
unfolding ExecutesAllInside
tables_made g old new (Err e) ran = tt
tables_made g old new (Ok done) ran = λ clean bare.
    subst (λ s. HasNoRows s (state g new).now) made_is_our_schema (all_made g 0 our_tables no_schema TABLES.now tables_make (length TABLES.now) old new done (ran clean) (record { schema = bare; empty = tt }))
