-- A commit of a book in tables.
use Rattle.std.proofs.Common.{◌≡◌, inl, inr, sym, subst, Result, Ok, Err, OnErr, OnOk, Some}
use Rattle.bsp_store_base.proofs.Sqlite.{Ghosts, Held, Trees}
use Rattle.bsp_rows.specs.Rows.{Rows}
use Rattle.bsp_book.specs.Listed.{Holds as ListHolds, meaning as listed}
use Rattle.bsp_book.specs.declared.list.ListBook.{ListBook}
use Rattle.bsp_store_open.specs.Formed.{AreFormed, IsBook}
use Rattle.bsp_store_open.specs.Opening.{KeepsAtRest}
use Rattle.bsp_store_save.specs.MemoryRowsTables.{committed_rows, rows_of}
use Rattle.bsp_store_base.proofs.Base.{AreTreesOf, Content, form, HasCommitted, HasContents, IsKept}
use Rattle.bsp_store_save.specs.Contents.{IsContentOf, content_before, content_now}
use Rattle.bsp_store_save.specs.Tables.{Tables}
use Rattle.bsp_store_save.proofs.TallyLemmas.{content_is, one_content}
use Rattle.bsp_store.specs.Keeping.{HasStopped, IfKept, LeavesOne}

-- trees that keep the content of formed rows are a book's
same_book : (rows : Rows) (c : Content) → AreFormed rows → IsContentOf rows c → (db : Trees) → AreTreesOf form c db → IsBook rows db
same_book rows c formed of db trees = record { formed = formed; keeps = (c, of, trees.0); sound = trees.1 }

module _ {S : Type 0} (g : Ghosts S) (list : ListBook) (old : Held S) where
  -- ---- what the tables have, and are to have

  module _ (now last : Rows) (holds : ListHolds list now (Some last)) where
    before_of : IsContentOf last (content_before list.tables)
    before_of = subst (λ rows. IsContentOf rows (content_before list.tables)) (sym holds.committed) (content_is (committed_rows list.tables) _ holds.was_derived.totals)

    now_of : IsContentOf now (content_now list.tables)
    now_of = subst (λ rows. IsContentOf rows (content_now list.tables)) (sym holds.rows) (content_is (rows_of list.tables) _ holds.derived.totals)

    before_is : KeepsAtRest g old last → IsKept g old (content_before list.tables)
    before_is kept = subst (IsKept g old) (one_content last kept.0 (content_before list.tables) kept.1 before_of) kept.2

  -- ---- what a save makes of them

  module _ {E : Type 0} (new : Held S) (tables : Tables) (same : tables ≡ list.tables) where
    pub saved : (r : Result (Unit {0}) E) → OnOk r (IsKept g old (content_before tables) → IsKept g new (content_now tables)) → OnOk r (IfKept listed (KeepsAtRest g) list old (λ last now. KeepsAtRest g new now))
    saved (Ok it) saves = λ now last holds formed was_formed kept.
        let own = subst (λ (t : Tables). IsKept g old (content_before t) → IsKept g new (content_now t)) same saves in
        (content_now list.tables, now_of now last holds, own (before_is now last holds kept))
    saved (Err e) saves = tt

    pub stopped : (r : Result (Unit {0}) E) → OnErr r (IsKept g old (content_before tables) → HasCommitted form g new (content_before tables) (content_before tables) (content_now tables))
        → OnErr r (IfKept listed (KeepsAtRest g) list old (λ last now. HasStopped g new last now))
    stopped (Ok it) fell = tt
    stopped (Err e) fell = λ now last holds formed was_formed kept.
        let own = subst (λ (t : Tables). IsKept g old (content_before t) → HasCommitted form g new (content_before t) (content_before t) (content_now t)) same fell in
        record {
          was_formed = was_formed;
          formed = formed;
          before = content_before list.tables;
          after = content_now list.tables;
          before_of = before_of now last holds;
          after_of = now_of now last holds;
          committed = own (before_is now last holds kept);
        }

-- ---- what a transaction that is given up leaves

pub given_up : {S : Type 0} (g : Ghosts S) (new : Held S) (last now : Rows) (before after : Content) → AreFormed last → AreFormed now → IsContentOf last before → IsContentOf now after → HasContents form g new before before before after → LeavesOne g new last now
given_up g new last now before after was_formed formed before_of after_of stands = λ clean db may. elim (stands.leaves clean db may) [
  | inl it ↦ inl (same_book last before was_formed before_of db it)
  | inr it ↦ inr (same_book now after formed after_of db it)
]
