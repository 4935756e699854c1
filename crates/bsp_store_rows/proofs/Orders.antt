-- The rows of each table, in the order of their keys or of their places, and what the statements of a table of keys mean.
use Rattle.bsp_store_base.proofs.Std.{[], ◌∙◌, ◌≡◌, AllByRecursion, entries, false, Less, map, None, Option, Ordering, range_with_len, Some}
use Rattle.bsp_store_base.proofs.Sqlite.{col, IsAscending, Output, reads_listing, Row, Trees}
use Rattle.bsp_rows.specs.Terms.{Terms}
use Rattle.bsp_store_base.proofs.Base.{AreStatementsOf, by_keys, change, code_order, columns_of, Content, deletion, entries_rise, insertion, IsAgentEntry, IsAirlineEntry, IsBefore, IsFormed, IsMapTable, IsMemoEntry, IsRangeEntry, IsTallyKey, IsText, keys_of, MapTable, Meta, meta_rows, one_order, our_schema, out, part, rows_rise, selection, shows_all, terms_rows, three_orders, two_orders, width}
use Rattle.bsp_store_base.specs.declared.keyed_table.Statements.{Statements}
use Rattle.bsp_store_rows.specs.Tables.{agents_map, memos_map, ranges_map, tallies_map, airlines_map}

-- ---- by keys

module _ {K V : Type 0} {R : K → K → Ordering} (t : MapTable K V R) where
  abbrev pub Rise : Type 0
  Rise = (c : Content) → IsFormed c → IsAscending (IsBefore (by_keys t)) ((part t).rows c)

  -- ORDER BY compares the rows of such entries as their keys are
  rises : (IsEntry : K × V → Type 0) → ((c : Content) → IsFormed c → AllByRecursion IsEntry (entries (t.of c)))
      → ((a b : K × V) → IsEntry a → IsEntry b → R a.0 b.0 ≡ Less → IsBefore (by_keys t) (t.row_of a) (t.row_of b)) → Rise
  rises IsEntry are before c formed = rows_rise IsEntry (λ a b. R a.0 b.0 ≡ Less) (IsBefore (by_keys t)) t.row_of before (entries (t.of c)) (are c formed) (entries_rise R (t.of c))

  abbrev seen : Trees → Row → Output
  seen trees r = out t.table.tree [] (map (col 1) (range_with_len 1 (width t))) (by_keys t) trees [] r

  -- what texts of a table mean
  pub meant : IsMapTable t → Rise → (s : Statements) → IsText s.delete.now (deletion t) → IsText s.insert.now (insertion t) → IsText s.update.now (change t) → IsText s.query.now (selection t) → reads_listing our_schema s.query.now ≡ false
      → ((trees : Trees) (r : Row) → (seen trees r).1 ≡ columns_of (width t) r) → ((trees : Trees) (r : Row) → (seen trees r).0 ≡ keys_of (by_keys t) (columns_of (width t) r)) → AreStatementsOf t s
  meant l rise s delete insert update query unlisted lists sees = record { delete = delete; insert = insert; update = update; query = shows_all t l lists sees rise _ query unlisted }

pub agents_rise : Rise agents_map
agents_rise = rises agents_map IsAgentEntry (λ c formed. formed.agents) (λ a b f g less. one_order _ _ (code_order 8 a.0 b.0 f.0.has_digits g.0.has_digits) ∙ less)

pub airlines_rise : Rise airlines_map
airlines_rise = rises airlines_map IsAirlineEntry (λ c formed. formed.airlines) (λ a b f g less. one_order _ _ (code_order 3 a.0 b.0 f.0 g.0) ∙ less)

pub ranges_rise : Rise ranges_map
ranges_rise = rises ranges_map IsRangeEntry (λ c formed. formed.ranges)
    (λ a b f g less. two_orders _ _ _ _ (code_order 8 a.0.agent b.0.agent f.0.has_digits g.0.has_digits) (code_order 10 a.0.first b.0.first f.1 g.1) ∙ less)

pub memos_rise : Rise memos_map
memos_rise = rises memos_map IsMemoEntry (λ c formed. formed.memos)
    (λ a b f g less. two_orders _ _ _ _ (code_order 3 a.0.airline b.0.airline f.0 g.0) (code_order 10 a.0.document b.0.document f.1 g.1) ∙ less)

pub tallies_rise : Rise tallies_map
tallies_rise = rises tallies_map (λ e. IsTallyKey e.0) (λ c formed. formed.tallies)
    (λ a b f g less. three_orders _ _ _ _ _ _ (code_order 8 a.0.agent b.0.agent f.agent.has_digits g.agent.has_digits) (code_order 3 a.0.airline b.0.airline f.airline.has_digits g.airline.has_digits) (code_order 5 a.0.period b.0.period f.period g.period) ∙ less)

-- ---- one row, or none

one_meta : (o : Option Meta) → IsAscending (IsBefore []) (meta_rows o)
one_meta None = tt
one_meta (Some meta) = (tt, tt)

one_terms : (o : Option Terms) → IsAscending (IsBefore []) (terms_rows o)
one_terms None = tt
one_terms (Some terms) = (tt, tt)

pub meta_rise : (c : Content) → IsFormed c → IsAscending (IsBefore []) (meta_rows c.meta)
meta_rise c formed = one_meta c.meta

pub terms_rise : (c : Content) → IsFormed c → IsAscending (IsBefore []) (terms_rows c.terms)
terms_rise c formed = one_terms c.terms
