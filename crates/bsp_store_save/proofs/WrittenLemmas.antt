-- A table of the store after the keys that were written are brought up to date with the map in memory.
use Rattle.bsp_store_base.proofs.Std.{◌≡◌, BTreeMap, entries, from_entries, get, List, Option, Ordering, Result, subst}
use Rattle.bsp_store_base.proofs.Sqlite.{Ghosts, Held}
use Rattle.bsp_maps.specs.Undo.{IsEarlier, before, content, undone}
use Rattle.bsp_maps.specs.declared.logged.Logged.{Logged}
use Rattle.bsp_maps.specs.declared.logged.Old.{Old}
use Rattle.bsp_store_load.specs.Content.{Content}
use Rattle.bsp_store_save.specs.Each.{AreThere, with_each}
use Rattle.bsp_store_save.proofs.EachLemmas.{all_set, are_there}
use Rattle.bsp_store_save.specs.Saving.{Saves}
use Rattle.bsp_store_save.proofs.Followed.{Followed, has_row, set}
use Rattle.bsp_store_save.proofs.StepLemmas.{restated}

module _ {K V F : Type 0} {R : K → K → Ordering} (table : Followed K V F R) (t : Logged K V) (values : BTreeMap K V) (olds : List (Old K V)) (found : BTreeMap K (Option V)) (same_map : values ≡ t.map) (same_olds : olds ≡ t.undo.items)
    (is : IsEarlier (from_entries {R = R} found.entries) (from_entries values.entries) (undone olds (from_entries values.entries))) where
  abbrev before_them : List (K × Option V)
  before_them = entries (from_entries {R = R} found.entries)

  abbrev at : BTreeMap K V → K → Option V
  at m = get (from_entries {R = R} m.entries)

  abbrev There : BTreeMap K V → Content → Type 0
  There m = AreThere (set table) (at m) (has_row table) table.rows before_them

  earlier : IsEarlier (from_entries {R = R} found.entries) (content R t) (before R t)
  earlier =
      subst (λ (m : BTreeMap K V). IsEarlier (from_entries {R = R} found.entries) (from_entries m.entries) (undone t.undo.items (from_entries m.entries))) same_map
      (subst (λ (l : List (Old K V)). IsEarlier (from_entries {R = R} found.entries) (from_entries values.entries) (undone l (from_entries values.entries))) same_olds is)

  pub table_saves : {S X E : Type 0} {g : Ghosts S} {old new : Held S} (r : Result X E) → Saves g old new r (There values) (with_each (set table) (at values) before_them) → Saves g old new r (λ c. table.field c ≡ table.of (before R t)) (table.put (table.of (content R t)))
  table_saves {g = g} {old = old} {new = new} r it =
      restated r (subst (λ (m : BTreeMap K V). Saves g old new r (There m) (with_each (set table) (at m) before_them)) same_map it)
      (are_there table (content R t) (before R t) (from_entries found.entries) earlier) (all_set table (content R t) (before R t) (from_entries found.entries) earlier)
