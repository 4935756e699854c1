-- Tables without a row, and then the row of `meta`, are those of an empty book.
use Rattle.bsp_store_base.proofs.Std.{[], ◌∙◌, ◌≡◌, ap, empty, entries, filter, filter_map, from_entries, IsPermutation-refl, List, map, nat_cmp, None, refl, Some, subst, subst₂, sym, ℕ}
use Rattle.bsp_store_base.proofs.Sqlite.{Database, IsDatabase, Row}
use Rattle.bsp_store_base.proofs.Entries.{CivilDay, Item, item_cmp, ItemKey, memo_cmp, no_entries, no_rows, opening, range_cmp, Tally, tally_cmp, TallyKey}
use Rattle.bsp_memory_rows.specs.Lookups.{has_rows}
use Rattle.bsp_memory_rows.proofs.DerivedLemmas.{no_totals}
use Rattle.bsp_store_base.proofs.Base.{agent_row, airline_entries, airline_row, Content, content_with, entries-seconds_of, form, HasNoRows, item_row, item_tax_row, Keeps, KeepsSound, KeepsTable, memo_row, our_schema, second_entry, second_row, seconds_of, stock_row, tally_row, tally_tax_row, unplaced}
use Rattle.bsp_store_load.specs.Contents.{used_tallies}
use Rattle.bsp_store_load.specs.Formed.{IsBook}
use Rattle.bsp_store_load.proofs.FormedContent.{no_rows_formed}
use Rattle.bsp_store_load.proofs.TallyLemmas.{content_is}
use Rattle.bsp_store_save.specs.Making.{IsNewBook}

abbrev new_content : Content
new_content = content_with no_rows (used_tallies empty)

-- before the row of `meta`
abbrev no_content : Content
no_content = record new_content { meta = None }

no_tallies : entries (used_tallies empty) ≡ []
no_tallies = ap (λ (l : List (TallyKey × Tally)). entries (from_entries {R = tally_cmp} (filter (λ e. has_rows e.1) l))) (no_entries tally_cmp) ∙ no_entries tally_cmp

no_airlines : entries (airline_entries [] empty) ≡ []
unfolding airline_entries
no_airlines = ap (λ (l : List (ℕ × List ℕ)). entries (from_entries {R = nat_cmp} (map unplaced l))) (no_entries nat_cmp) ∙ no_entries nat_cmp

no_seconds : entries (seconds_of empty) ≡ []
no_seconds = entries-seconds_of empty ∙ ap (λ (l : List (ItemKey × Item)). filter_map second_entry l) (no_entries item_cmp)

-- no row of the content, and none of the tree
keeps_none : (width : ℕ) (content tree : List Row) → content ≡ [] → tree ≡ [] → KeepsTable width content tree
keeps_none width content tree none bare = subst₂ (KeepsTable width) (sym none) (sym bare) (record { table = tt; keyed = tt; rows = IsPermutation-refl [] })

bare_keeps : (db : Database) → HasNoRows our_schema db → Keeps form no_content db
bare_keeps db has =
    let e = has.empty in
    record {
      schema = has.schema;
      kept = (keeps_none _ _ _ refl e.0, (keeps_none _ _ _ refl e.1.0, (keeps_none _ _ _ (ap (map airline_row) no_airlines) e.1.1.0, (keeps_none _ _ _ refl e.1.1.1.0, (keeps_none _ _ _ refl e.1.1.1.1.0, (keeps_none _ _ _ (ap (map agent_row) (no_entries nat_cmp)) e.1.1.1.1.1.0, (keeps_none _ _ _ (ap (map stock_row) (no_entries range_cmp)) e.1.1.1.1.1.1.0, (keeps_none _ _ _ (ap (map item_row) (no_entries item_cmp)) e.1.1.1.1.1.1.1.0, (keeps_none _ _ _ (ap (map memo_row) (no_entries memo_cmp)) e.1.1.1.1.1.1.1.1.0, (keeps_none _ _ _ (ap (map tally_row) no_tallies) e.1.1.1.1.1.1.1.1.1.0, (keeps_none _ _ _ refl e.1.1.1.1.1.1.1.1.1.1.0, (keeps_none _ _ _ (ap (map item_tax_row) (no_entries item_cmp)) e.1.1.1.1.1.1.1.1.1.1.1.0, (keeps_none _ _ _ (ap (map tally_tax_row) no_tallies) e.1.1.1.1.1.1.1.1.1.1.1.1.0, (keeps_none _ _ _ (ap (map second_row) no_seconds) e.1.1.1.1.1.1.1.1.1.1.1.1.1.0, tt))))))))))))));
    }

-- after the row of `meta`
pub new_book : (before after : Database) (day : CivilDay) → day ≡ opening.day → HasNoRows our_schema before
    → ((now : Content) → now.meta ≡ None → Keeps form now before → KeepsSound form (record now { meta = Some (record { day = day; closed = 0 }) }) after) → IsNewBook after
new_book before after day is has adds =
    let added = adds no_content refl (bare_keeps before has) in
    let keeps : KeepsSound form new_content after = subst (λ d. KeepsSound form (record no_content { meta = Some (record { day = d; closed = 0 }) }) after) is added in
    record { schema = keeps.0.schema; keeps = (new_content, content_is no_rows empty no_totals, keeps.0.kept); sound = keeps.1 }

-- its trees are a book's
pub new_trees : (db : Database) → IsNewBook db → IsBook no_rows db.trees
new_trees db new = record { formed = no_rows_formed; keeps = new.keeps; sound = subst (λ s. IsDatabase (record { schema = s; trees = db.trees })) new.schema new.sound }
