use Rattle.bsp_store_load.specs.Whole.{part_of}
use Rattle.std.proofs.Common.{◌≡◌, [], List, ℕ, false, Vec, Global, Result, Ok, Err, IfOk, OnOk, sym, subst, inl, inr, arith}
use Rattle.bsp_store_base.proofs.Sqlite.{CommitsShowing, Error, Ghosts, HasCleanDisk, Held, never_commits, Row, Shown, state, Survives, understood}
use Rattle.sqlite.specs.Given.{IsPlain}
use Rattle.bsp_maps.proofs.PickLemmas.{if_ok}
use Rattle.bsp_store_base.proofs.Base.{AreAllOf, Content, our_schema, Part, Reads, ShowsAll, ShowsTable, unchanged_by, whole_shown}
use Rattle.bsp_store_load.proofs.whole.all_rows.Goals as goal

module _ (part : Part Content) (text : List ℕ) (shows : ShowsTable part text) {S : Type 0} (g : Ghosts S) (old new : Held S) where
  -- over our tables the text only reads
  plain : old.schema ≡ our_schema → IsPlain (understood old.schema text)
  plain has = subst (λ s. IsPlain (understood s text)) (sym has) shows.plain

  all_of : (r : Result (Vec Row Global) Error) → IfOk r (λ rows. Shown text [] (state g old) (state g new) rows.items) → IfOk r (λ rows. old.schema ≡ our_schema → AreAllOf part (state g old).now.trees rows.items)
  all_of (Ok rows) shown = λ has. whole_shown part text shows (state g old) (state g new) has rows.items shown
  all_of (Err e) shown = tt

  module _ (kept : Survives (state g old) (state g new) (CommitsShowing text [] (state g old))) where
    reads : (r : Result (Vec Row Global) Error) → (HasCleanDisk (state g new) → IfOk r (λ rows. Shown text [] (state g old) (state g new) rows.items)) → OnOk r (old.schema ≡ our_schema → Reads g old new)
    reads (Ok rows) shown = λ has.
        let same = λ (clean : HasCleanDisk (state g new)). unchanged_by text [] (state g old) (state g new) rows.items (plain has) (shown clean) in
        record { earlier = λ clean. omega (arith, kept.clean); same = λ clean. (same clean).0.now_is; is_open = λ clean. (same clean).0.is_open }
    reads (Err e) shown = tt

    whole : (r : Result (Vec Row Global) Error) → (HasCleanDisk (state g new) → IfOk r (λ rows. Shown text [] (state g old) (state g new) rows.items)) → (old.in_transaction ≡ false → new.in_transaction ≡ false) → ShowsAll part g old new r
    whole r shown mode = record {
      rows = λ clean. if_ok r (λ rows all has. (all has).in_any_order) (all_of r (shown clean));
      order = λ clean. if_ok r (λ rows all has. (all has).in_order) (all_of r (shown clean));
      read = reads r shown;
      mode = mode;
      spares = λ has. record {
        earlier = λ clean. omega (arith, kept.clean);
        leaves = λ clean db may. elim (kept.crash clean db may) [ inl before ↦ before | inr made ↦ absurd (never_commits text [] (state g old) db (plain has) made) ];
      };
    }

pub returns : goal.returns
returns g c =
    whole (part_of c.args.table) _ c.query.ensures g.S.Store c.args.conn.now c.query_all.new.self c.query_all.ensures.survives c.query_all.result c.query_all.ensures.ok c.query_all.ensures.mode
