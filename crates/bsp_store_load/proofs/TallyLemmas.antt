-- Rows have one content: the tallies to which some of them add, and nothing beside the rows.
use Rattle.bsp_store_base.proofs.Std.{[], ◌∙◌, ◌∷◌, ◌≡◌, AllByRecursion, ap, Bool, BTreeMap, entries, entries_sorted, filter, FinMap, get, get-entries, get-from_entries, IsStrictlySortedBy, keys_of, List, map, None, Option, refl, same_map, Some, sym, unwrap_or, values}
use Rattle.std.specs.FinMap.Entries.{find}
use Rattle.bsp_store_base.proofs.Entries.{content, find_passing, in_order, key_tally, Rows, sorted_filter, Tally, tally_cmp, tally_exact, tally_of, tally_total, TallyKey, wanted}
use Rattle.bsp_memory_rows.specs.Kept.{AreAddedUp, tally_at}
use Rattle.bsp_memory_rows.specs.Lookups.{has_rows}
use Rattle.bsp_store_base.specs.Content.{Content, content_with}
use Rattle.bsp_store_load.specs.Contents.{IsContentOf, used, used_at, used_tallies}
use Rattle.sqlite_value.specs.Order.{Row}
use Rattle.bsp_maps.specs.declared.logged.Logged.{Logged}
use Rattle.bsp_maps.proofs.ContentLemmas.{of_content}
use Rattle.bsp_store_load.proofs.PutLemmas.{strictly}

abbrev adds : TallyKey → Tally → Bool
adds k t = has_rows t

same_used : (k : TallyKey) (found : Option Tally) → wanted tally_cmp tally_total tally_exact adds k found ≡ used_at found
same_used k None = refl
same_used k (Some t) = refl

pub get-used : (m : FinMap tally_cmp Tally) (k : TallyKey) → get (used_tallies m) k ≡ used_at (get m k)
get-used m k =
    get-from_entries tally_total _ k
    ∙ find_passing tally_cmp tally_total tally_exact adds k (entries m) (entries_sorted m)
    ∙ same_used k (find tally_cmp k (entries m))
    ∙ ap used_at (sym (get-entries m k))

module _ (rows : Rows) where
  there : (kept : FinMap tally_cmp Tally) (k : TallyKey) (found : Option Tally) → get kept k ≡ found → tally_at kept k ≡ tally_of k rows → used_at found ≡ used (tally_of k rows)
  there kept k None is at = ap used (sym (ap (λ o. unwrap_or o (key_tally k)) is) ∙ at)
  there kept k (Some t) is at = ap used (sym (ap (λ o. unwrap_or o (key_tally k)) is) ∙ at)

  -- tallies that add up, less those to which no row adds
  pub content_is : (kept : FinMap tally_cmp Tally) → AreAddedUp (values rows.items) (values rows.memos) kept → IsContentOf rows (content_with rows (used_tallies kept))
  content_is kept are = record { same = refl; tallies = λ k. get-used kept k ∙ there kept k (get kept k) refl (are k) }

  -- rows have one content
  pub one_content : (c d : Content) → IsContentOf rows c → IsContentOf rows d → c ≡ d
  one_content c d a b = a.same ∙ ap (content_with rows) (same_map tally_total tally_exact c.tallies d.tallies (λ k. a.tallies k ∙ sym (b.tallies k))) ∙ sym b.same

-- ---- the tallies in memory that have a row

-- a condition that asks nothing
pub all_have : {A : Type 0} (xs : List A) → AllByRecursion (λ x. Unit {0}) xs
all_have [] = tt
all_have (x ∷ xs) = (tt, all_have xs)

entries-used : (m : FinMap tally_cmp Tally) → entries (used_tallies m) ≡ filter (λ e. has_rows e.1) (entries m)
entries-used m = in_order tally_total (filter (λ e. has_rows e.1) (entries m)) (strictly tally_cmp (filter (λ e. has_rows e.1) (entries m)) (sorted_filter tally_cmp tally_total (λ e. has_rows e.1) (entries m) (entries_sorted m)))

pub used_are : (row_of : TallyKey × Tally → Row) (t : Logged TallyKey Tally) (m : BTreeMap TallyKey Tally) → m ≡ t.map → IsStrictlySortedBy tally_cmp (keys_of m.entries)
    → map row_of (filter (λ e. has_rows e.1) m.entries) ≡ map row_of (entries (used_tallies (content tally_cmp t)))
used_are row_of t m is up =
    ap (λ es. map row_of (filter (λ e. has_rows e.1) es)) (of_content tally_total t m is up)
    ∙ ap (map row_of) (sym (entries-used (content tally_cmp t)))
