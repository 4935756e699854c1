-- The rows of a table, read one at a time and put.
use Rattle.bsp_store_base.proofs.Std.{[], ◌++◌, ◌∙◌, ◌∷◌, ◌≡◌, ap, append-nil, append_assoc, ap₂, arith, Bool, false, inl, inr, IsPermutation, IsPermutation-cons, IsPermutation-middle, IsPermutation-refl, IsPermutation-trans, List, map, None, refl, Some, subst, sym, true, ℕ}
use Rattle.bsp_store_base.proofs.Sqlite.{begun_plain, CommitsShowing, Database, Ghosts, given_begin, Held, IsPlain, IsUnchanged, never_commits, Row, state, State, Survives, survives_weaker, unchanged_then, understood}
use Rattle.sqlite.specs.Given.{Advances, HasBegun, HasGiven}
use Rattle.bsp_store_base.proofs.Base.{AreAllOf, Content, our_schema, Part, rest_shown, ShowsTable, Spares, whole_shown}
use Rattle.bsp_store_load.specs.Loading.{IsLoaded, MayAll, after_all}

-- ---- rows that are put one after another

module _ {E W R : Type 0} (row_of : E → R) (step : E → W → W) where
  -- entries whose rows are those before a row, that row, and those after it
  record Split (before : List R) (row : R) (after : List R) (es : List E) : Type 0 where
    front : List E
    entry : E
    back : List E
    is : es ≡ front ++ entry ∷ back
    first : before ≡ map row_of front
    here : row ≡ row_of entry
    last : after ≡ map row_of back

  splits : (before : List R) (row : R) (after : List R) (es : List E) → before ++ row ∷ after ≡ map row_of es → Split before row after es
  splits [] row after [] is = absurd (cc is)
  splits [] row after (e ∷ es) is = record { front = []; entry = e; back = es; is = refl; first = refl; here = cc is; last = cc is }
  splits (r ∷ before) row after [] is = absurd (cc is)
  splits (r ∷ before) row after (e ∷ es) is =
      let rest = splits before row after es (cc is) in
      record {
        front = e ∷ rest.front;
        entry = rest.entry;
        back = rest.back;
        is = ap (λ l. e ∷ l) rest.is;
        first = ap₂ ◌∷◌ (cc is) rest.first;
        here = rest.here;
        last = rest.last;
      }

  no_rows : (es : List E) → [] ≡ map row_of es → es ≡ []
  no_rows [] is = refl
  no_rows (e ∷ es) is = absurd (cc is)

  after_append : (front back : List E) (w : W) → after_all step (front ++ back) w ≡ after_all step back (after_all step front w)
  after_append [] back w = refl
  after_append (e ∷ front) back w = after_append front back (step e w)

  module _ (may : E → W → Type 0) where
    may_split : (front back : List E) (w : W) → MayAll step may (front ++ back) w → MayAll step may front w × MayAll step may back (after_all step front w)
    may_split [] back w all = (tt, all)
    may_split (e ∷ front) back w all = let rest = may_split front back (step e w) all.1 in ((all.0, rest.0), rest.1)

    -- the rows so far were put, if they are those of entries that may be put
    abbrev Follows : List R → W → W → Type 0
    Follows before first now = (es : List E) → MayAll step may es first → before ≡ map row_of es → now ≡ after_all step es first

    -- what is known of a call that puts a row
    abbrev Puts : R → W → W → Bool → Type 0
    Puts row now next done = (e : E) → may e now → row ≡ row_of e → (done ≡ true) × (next ≡ step e now)

    none_yet : (first : W) → Follows [] first first
    none_yet first es all is = ap (λ l. after_all step l first) (sym (no_rows es is))

    module _ (before : List R) (row : R) (first now next : W) (done : Bool) (so_far : Follows before first now) (put : Puts row now next done) where
      put_at : (after : List R) (es : List E) → MayAll step may es first → (s : Split before row after es) → (now ≡ after_all step s.front first) × (done ≡ true) × (next ≡ step s.entry now)
      put_at after es all s =
          let parts = may_split s.front (s.entry ∷ s.back) first (subst (λ l. MayAll step may l first) s.is all) in
          let is = so_far s.front parts.0 s.first in
          let it = put s.entry (subst (may s.entry) (sym is) parts.1.0) s.here in
          (is, it.0, it.1)

      one_more : Follows (before ++ row ∷ []) first next
      one_more es all same =
          let s = splits before row [] es same in
          let it = put_at [] es all s in
          it.2 ∙ ap (step s.entry) it.0 ∙ sym (after_append s.front (s.entry ∷ []) first)
          ∙ ap (λ l. after_all step (s.front ++ s.entry ∷ l) first) (sym (no_rows s.back s.last)) ∙ ap (λ l. after_all step l first) (sym s.is)

      -- it is put, whatever rows come after it
      put_then : (after : List R) (es : List E) → MayAll step may es first → before ++ row ∷ after ≡ map row_of es → done ≡ true
      put_then after es all same = (put_at after es all (splits before row after es same)).1

-- a row more is in memory
more_rows : {R : Type 0} (before : List R) (row : R) (old now next : List R) → IsPermutation (before ++ old) now → IsPermutation (row ∷ now) next → IsPermutation ((before ++ row ∷ []) ++ old) next
more_rows before row old now next so_far put =
    subst (λ l. IsPermutation l next) (sym (append_assoc before (row ∷ []) old))
    (IsPermutation-trans _ _ _ (IsPermutation-middle before row old) (IsPermutation-trans _ _ _ (IsPermutation-cons row _ _ so_far) put))

-- ---- calls that change nothing

unchanged_itself : (a b : State) → IsUnchanged a b → IsUnchanged b b
unchanged_itself a b same = (record { was_open = same.0.is_open; is_open = same.0.is_open; now_is = refl; committed_is = refl; mode = refl }, record { changes = refl; last_rowid = refl }, refl)

module _ {S : Type 0} (g : Ghosts S) (old new : Held S) where
  pub spares_of : Survives (state g old) (state g new) (λ _. ⊥) → Spares g old new
  spares_of kept = record { earlier = λ clean. omega (arith, kept.clean); leaves = λ clean db may. elim (kept.crash clean db may) [ inl before ↦ before | inr made ↦ absurd made ] }

  -- a query commits nothing
  pub commits_nothing : (text : List ℕ) → IsPlain (understood our_schema text) → old.schema ≡ our_schema → Survives (state g old) (state g new) (CommitsShowing text [] (state g old)) → Survives (state g old) (state g new) (λ _. ⊥)
  commits_nothing text plain ours = survives_weaker (state g old) (state g new) _ _ (λ _ db. never_commits text [] (state g old) db (subst (λ s. IsPlain (understood s text)) (sym ours) plain))

-- ---- a table

module _ (part : Part Content) {E W : Type 0} (row_of : E → Row) (with_entry : E → W → W) (fits : E → Type 0) (lacks : E → W → Type 0) (rows_in : W → List Row) where
  abbrev may : E → W → Type 0
  may e rows = fits e × lacks e rows

  module _ {S : Type 0} (g : Ghosts S) where
    -- the rows so far were put
    pub record IsSoFar (old now : Held S) (zero rows : W) : Type 0 where
      pub text : List ℕ
      pub shows : ShowsTable part text
      pub unchanged : IsUnchanged (state g old) (state g now)
      pub before : List Row
      pub given : HasGiven g text [] now before
      pub put : IsPermutation (before ++ rows_in zero) (rows_in rows)
      pub entries : List E
      pub made : rows ≡ after_all with_entry entries zero
      pub follows : Follows row_of with_entry may before zero rows

    pub begun : (text : List ℕ) → ShowsTable part text → (old now : Held S) (zero : W) → old.schema ≡ our_schema → HasBegun g text [] old now → IsSoFar old now zero zero
    begun text shows old now zero ours made =
        let first = begun_plain g text [] old now (subst (λ s. IsPlain (understood s text)) (sym ours) shows.plain) made in
        record {
          text = text;
          shows = shows;
          unchanged = first.1;
          before = [];
          given = first.0;
          put = IsPermutation-refl _;
          entries = [];
          made = refl;
          follows = none_yet row_of with_entry may zero;
        }

    module _ (old now next : Held S) (ours : old.schema ≡ our_schema) (zero rows : W) (so_far : IsSoFar old now zero rows) (same : IsUnchanged (state g now) (state g next)) where
      whole : IsUnchanged (state g old) (state g next)
      whole = unchanged_then (state g old) (state g now) (state g next) so_far.unchanged same

      now_ours : (state g now).now.schema ≡ our_schema
      now_ours = ap (λ (d : Database). d.schema) so_far.unchanged.0.now_is ∙ ours

      next_ours : (state g next).now.schema ≡ our_schema
      next_ours = ap (λ (d : Database). d.schema) whole.0.now_is ∙ ours

      -- no row is to come
      pub all_put : Advances g now next None → IsLoaded part row_of with_entry fits lacks rows_in (state g old).now.trees zero rows None
      all_put moved = record {
        before = so_far.before;
        after = [];
        are = subst (AreAllOf part (state g old).now.trees) (sym (append-nil so_far.before))
            (subst (λ (d : Database). AreAllOf part d.trees so_far.before) so_far.unchanged.0.now_is
            (whole_shown part so_far.text so_far.shows (state g now) (state g next) now_ours so_far.before (moved so_far.text [] so_far.before so_far.given)));
        put = so_far.put;
        made = (so_far.entries, so_far.made);
        refused = tt;
        entries = λ es all is. (refl, so_far.follows es all (sym (append-nil so_far.before) ∙ is));
      }

      module _ (row : Row) (moved : Advances g now next (Some row)) (more : W) (done : Bool) (puts : Puts row_of with_entry may row rows more done) where
        given : HasGiven g so_far.text [] next (so_far.before ++ row ∷ [])
        given = moved so_far.text [] so_far.before so_far.given

        pub row_put : (e : E) → lacks e rows → row ≡ row_of e → more ≡ with_entry e rows → ((entry : E) (all : W) → lacks entry all → IsPermutation (row_of entry ∷ rows_in all) (rows_in (with_entry entry all))) → IsSoFar old next zero more
        row_put e new is made adds = record {
          text = so_far.text;
          shows = so_far.shows;
          unchanged = whole;
          before = so_far.before ++ row ∷ [];
          given = given;
          put = more_rows so_far.before row (rows_in zero) (rows_in rows) (rows_in more) so_far.put
              (subst (λ r. IsPermutation (r ∷ rows_in rows) (rows_in more)) (sym is) (subst (λ all. IsPermutation (row_of e ∷ rows_in rows) (rows_in all)) (sym made) (adds e rows new)));
          entries = so_far.entries ++ e ∷ [];
          made = made ∙ ap (with_entry e) so_far.made ∙ sym (after_append row_of with_entry so_far.entries (e ∷ []) zero);
          follows = one_more row_of with_entry may so_far.before row zero rows more done so_far.follows puts;
        }

        -- a row that is not put
        pub row_left : done ≡ false → more ≡ rows → IsLoaded part row_of with_entry fits lacks rows_in (state g old).now.trees zero more (Some row)
        row_left none kept =
            let first = so_far.before ++ row ∷ [] in
            let itself = unchanged_itself (state g now) (state g next) same in
            let rest = rest_shown part so_far.text so_far.shows (state g next) (state g next) next_ours itself first (given_begin g so_far.text [] next first given) in
            let all = whole_shown part so_far.text so_far.shows (state g next) (state g next) next_ours (first ++ rest.0) rest.1 in
            record {
              before = so_far.before;
              after = rest.0;
              are = subst (AreAllOf part (state g old).now.trees) (append_assoc so_far.before (row ∷ []) rest.0) (subst (λ (d : Database). AreAllOf part d.trees (first ++ rest.0)) whole.0.now_is all);
              put = subst (λ r. IsPermutation (so_far.before ++ rows_in zero) (rows_in r)) (sym kept) so_far.put;
              made = (so_far.entries, kept ∙ so_far.made);
              refused = λ e may_be is. let yes = puts e (subst (may e) kept may_be) is in cc (yes.0, none);
              entries = λ es may_be is.
                  let yes_done = put_then row_of with_entry may so_far.before row zero rows more done so_far.follows puts rest.0 es may_be is in
                  absurd (cc (yes_done, none));
            }
