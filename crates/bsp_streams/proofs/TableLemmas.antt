-- The table of connections after one more step.
use Rattle.std.proofs.Common.{◌≡◌, ◌≢◌, ℕ, ◌+◌, ◌<◌, ◌≤◌, false, List, [], ◌∷◌, ◌++◌, length, Option, Some, None, refl, sym, ap, ◌∙◌, subst, arith, BTreeMap, ⊎_elim}
use Rattle.std.proofs.lemmas.Grind.{common_steps}
use Rattle.std.proofs.lemmas.Bool.{cases_eq, cases_lt}
use Rattle.std.proofs.lemmas.List.{length_push, nil_from_length}
use Rattle.std.proofs.lemmas.Option.{none-some}
use Rattle.std.specs.Ordering.{nat_cmp}
use Rattle.std.specs.BTreeMap.{IsEmpty, UpdatesBy, btree_map_len, get, is_at}
use Rattle.std.specs.Map.{lookup}
use Rattle.bsp_streams.specs.Events.{Event}
use Rattle.bsp_streams.specs.Events.Event.{happened, quiet, closed}
use Rattle.bsp_streams.specs.Shares.{History, Share, happenings, nothing, share_of}
use Rattle.bsp_streams.specs.Serving.{Goes, IsHeld, IsKnown, IsOngoing, IsOver, IsServed, IsServing, IsUnderWay, Served, SoFar, Turns, closed_as}
use Rattle.bsp_streams.specs.declared.held.Held.{Held}
use Rattle.bsp_streams.specs.declared.held.Table.{Table}
use Rattle.bsp_streams.specs.declared.peers.Ending.{Ending}
use Rattle.bsp_streams.specs.declared.peers.Ending.TheVariants as ending
use Rattle.bsp_streams.specs.declared.peers.Happened.{Happened}
use Rattle.bsp_streams.proofs.ShareLemmas.{did_more, happenings_push, happenings_same, share_push, spares_closed, spares_happened, spares_quiet, start, with_closed}
use Rattle.bsp_streams.proofs.TurnLemmas.{ends_now, held_served}

-- ---- one number of a map

-- the number has this, and the others have what they had
abbrev pub IsSet : {V : Type 0} → BTreeMap ℕ V → BTreeMap ℕ V → ℕ → Option V → Type 0
IsSet old new n w = (get nat_cmp new n ≡ w) × ((q : ℕ) → q ≢ n → get nat_cmp new q ≡ get nat_cmp old q)

apart : (n q : ℕ) → q ≢ n → is_at (nat_cmp n) q ≡ false
apart n q ne = grind (arith, common_steps)

pub is_set : {V : Type 0} (old new : BTreeMap ℕ V) (n : ℕ) (w : Option V) → UpdatesBy nat_cmp (nat_cmp n) old new w → IsSet old new n w
is_set old new n w h = (h.1, λ q ne. h.2 q (apart n q ne))

pub set_again : {V : Type 0} (a b c : BTreeMap ℕ V) (n : ℕ) (v w : Option V) → IsSet a b n v → IsSet b c n w → IsSet a c n w
set_again a b c n v w h k = (k.0, λ q ne. k.1 q ne ∙ h.1 q ne)

-- the same entries
set_same : {V : Type 0} (a b : BTreeMap ℕ V) (n : ℕ) → a.entries ≡ b.entries → IsSet a b n (get nat_cmp a n)
set_same {V} a b n e =
    let at : (q : ℕ) → get nat_cmp b q ≡ get nat_cmp a q = λ q. ap (λ (es : List (ℕ × V)). lookup (is_at (nat_cmp q)) es) (sym e) in
    (at n, λ q ne. at q)

no_end : (ends : List Ending) (how : Ending) → ends ++ how ∷ [] ≢ []
no_end ends how e =
    let long : length (ends ++ how ∷ []) ≡ length ends + 1 = length_push ends how in
    let short : length (ends ++ how ∷ []) ≡ 0 = ap (λ (l : List Ending). length l) e in
    omega (arith, long, short)

module _ {P D C X : Type 0} (did : P → Event → P → Type 0) (steps : D → X → D → Type 0) (talks : List ℕ → List X → List ℕ → C → Type 0) (rests : C → Type 0) where
  abbrev IsAt : Share X → ℕ → ℕ → Option (Held C) → Type 0
  IsAt s i next o = IsHeld talks rests s i next o

  held_same : (s t : Share X) (i next : ℕ) (o w : Option (Held C)) → s ≡ t → o ≡ w → IsAt s i next o → IsAt t i next w
  held_same s t i next o w es eo h = subst (λ (v : Option (Held C)). IsAt t i next v) eo (subst (λ (u : Share X). IsAt u i next o) es h)

  -- what is known of one number, where a connection is held, and where none is
  held_known : (s : Share X) (i next : ℕ) (held : Held C) (o : Option (Held C)) → o ≡ Some held → IsAt s i next o → (i < next) × IsOngoing talks rests held.connection s
  held_known s i next held o e h =
      let k : IsAt s i next (Some held) = held_same s s i next o (Some held) refl e h in
      ⊎_elim (λ (lt : i < next). (lt, k.0 lt)) (λ (le : next ≤ i). let no : ⊥ = none-some held (sym (k.1 le).1) in absurd no) (cases_lt i next)

  pub held_under_way : (p : P) (d : D) (t : Table C) (n : ℕ) (held : Held C) → get nat_cmp t.held n ≡ Some held → IsServing did steps talks rests p d t → IsUnderWay did steps talks rests n held.connection p d
  held_under_way p d t n held e h = (h.0, h.1, h.3.history, (held_known _ n t.next held _ e (h.3.each n)).1)

  known_served : (s : Share X) (o : Option (Held C)) → IsKnown talks rests s o → IsServed talks rests s
  known_served s (Some held) h = held_served talks rests s held.connection h
  known_served s None h = h.0

  -- where one number changes
  one_changes : (p0 p q : P) (d0 d e : D) (waits : List Happened) (old new : Table C) (n : ℕ) (w : Option (Held C)) (h : SoFar did steps talks rests p0 p d0 d waits old) (k : History did steps p0 q d0 e)
      → IsSet old.held new.held n w → ((j : ℕ) → j ≢ n → share_of j k.events k.run ≡ share_of j h.history.events h.history.run) → ((j : ℕ) (s : Share X) (o : Option (Held C)) → j ≢ n → IsAt s j old.next o → IsAt s j new.next o)
      → happenings k.events ≡ happenings h.history.events → IsAt (share_of n k.events k.run) n new.next w → SoFar did steps talks rests p0 q d0 e waits new
  one_changes p0 p q d0 d e waits old new n w h k set others later waited at = record {
    history = k;
    waited = waited ∙ h.waited;
    each = λ i. ⊎_elim
        (λ (eq : i ≡ n). subst (λ (j : ℕ). IsAt (share_of j k.events k.run) j new.next (get nat_cmp new.held j)) (sym eq) (held_same _ _ n new.next w _ refl (sym set.0) at))
        (λ (ne : i ≡ n → ⊥). later i _ _ ne (held_same _ _ i old.next _ _ (sym (others i ne)) (sym (set.1 i ne)) (h.each i)))
        (cases_eq i n);
  }

  pub goes_same : (p : P) (d : D) (old : Table C) (m : BTreeMap ℕ (Held C)) → m ≡ old.held → Goes did steps talks rests p p d d old (record { held = m; next = old.next })
  goes_same p d old m e p0 d0 waits h = subst (λ (n : BTreeMap ℕ (Held C)). SoFar did steps talks rests p0 p d0 d waits (record { held = n; next = old.next })) (sym e) h

  -- nothing was done with any
  pub so_far_quiet : (p0 p q : P) (d0 d : D) (waits : List Happened) (t : Table C) → did p quiet q → SoFar did steps talks rests p0 p d0 d waits t → SoFar did steps talks rests p0 q d0 d waits t
  so_far_quiet p0 p q d0 d waits t k h = record {
    history = did_more did steps p0 p q d0 d quiet h.history k;
    waited = happenings_same h.history.events quiet refl ∙ h.waited;
    each = λ i. held_same _ _ i t.next _ _ (sym (share_push i h.history.events quiet h.history.run ∙ spares_quiet i _)) refl (h.each i);
  }

  -- the peers were waited for
  pub so_far_waited : (p0 p q : P) (d0 d : D) (waits : List Happened) (t : Table C) (what : Happened) → did p (happened what) q → SoFar did steps talks rests p0 p d0 d waits t → SoFar did steps talks rests p0 q d0 d (waits ++ what ∷ []) t
  so_far_waited p0 p q d0 d waits t what k h = record {
    history = did_more did steps p0 p q d0 d (happened what) h.history k;
    waited = happenings_push h.history.events (happened what) ∙ ap (λ (l : List Happened). l ++ what ∷ []) h.waited;
    each = λ i. held_same _ _ i t.next _ _ (sym (share_push i h.history.events (happened what) h.history.run ∙ spares_happened i what _)) refl (h.each i);
  }

  -- a connection goes on
  pub goes_turn : (p q : P) (d e : D) (old : Table C) (m : BTreeMap ℕ (Held C)) (n : ℕ) (a b : Held C) → Turns did steps talks rests n a.connection b.connection None p q d e → get nat_cmp old.held n ≡ Some a
      → IsSet old.held m n (Some b) → Goes did steps talks rests p q d e old (record { held = m; next = old.next })
  goes_turn p q d e old m n a b turns was set p0 d0 waits h =
      let k = held_known _ n old.next a _ was (h.each n) in
      let t = turns p0 d0 h.history k.1 in
      one_changes p0 p q d0 d e waits old (record { held = m; next = old.next }) n (Some b) h t.0 set t.2 (λ j s o ne at. at) t.3
      (λ lt. t.1, λ le. let no : ⊥ = omega (arith, le, k.0) in absurd no)

  -- a connection ends
  pub goes_end : (p q r : P) (d e : D) (old : Table C) (m : BTreeMap ℕ (Held C)) (n : ℕ) (a : Held C) (c : C) (how : Ending) → Turns did steps talks rests n a.connection c (Some how) p q d e → did q (closed n how) r
      → get nat_cmp old.held n ≡ Some a → IsSet old.held m n None → Goes did steps talks rests p r d e old (record { held = m; next = old.next })
  goes_end p q r d e old m n a c how turns close was set p0 d0 waits h =
      let k = held_known _ n old.next a _ was (h.each n) in
      let t = turns p0 d0 h.history k.1 in
      let own = share_push n t.0.events (closed n how) t.0.run ∙ with_closed n how (share_of n t.0.events t.0.run) in
      one_changes p0 p r d0 d e waits old (record { held = m; next = old.next }) n None h (did_more did steps p0 q r d0 e (closed n how) t.0 close) set
      (λ j ne. share_push j t.0.events (closed n how) t.0.run ∙ spares_closed j n how ne _ ∙ t.2 j ne) (λ j s o ne at. at) (happenings_same t.0.events (closed n how) refl ∙ t.3)
      (λ lt. subst (λ (s : Share X). IsKnown talks rests s None) (sym own) (t.1, no_end (share_of n t.0.events t.0.run).ends how), λ le. let no : ⊥ = omega (arith, le, k.0) in absurd no)

  -- one that is not held is taken out
  pub goes_none : (p : P) (d : D) (old : Table C) (m : BTreeMap ℕ (Held C)) (n : ℕ) → get nat_cmp old.held n ≡ None → IsSet old.held m n None → Goes did steps talks rests p p d d old (record { held = m; next = old.next })
  goes_none p d old m n was set p0 d0 waits h = one_changes p0 p p d0 d d waits old (record { held = m; next = old.next }) n None h h.history set (λ j ne. refl) (λ j s o ne at. at) refl (held_same _ _ n old.next _ _ refl was (h.each n))

  -- ---- a connection comes

  later_one : (s : Share X) (i next : ℕ) (o : Option (Held C)) → i ≢ next → IsAt s i next o → IsAt s i (next + 1) o
  later_one s i next o ne h = (λ lt. h.0 (omega (arith, lt, ne)), λ le. h.1 (omega (arith, le)))

  pub goes_new : (p q : P) (d : D) (old : Table C) (m : BTreeMap ℕ (Held C)) (held : Held C) → did p quiet q → talks [] [] [] held.connection → IsSet old.held m old.next (Some held)
      → Goes did steps talks rests p q d d old (record { held = m; next = old.next + 1 })
  goes_new p q d old m held k said set p0 d0 waits h =
      let n = old.next in
      let free = (h.each n).1 (omega arith) in
      let own = share_push n h.history.events quiet h.history.run ∙ spares_quiet n _ ∙ free.0 in
      one_changes p0 p q d0 d d waits old (record { held = m; next = n + 1 }) n (Some held) h (did_more did steps p0 p q d0 d quiet h.history k) set
      (λ j ne. share_push j h.history.events quiet h.history.run ∙ spares_quiet j _) (λ j s o ne at. later_one s j n o ne at) (happenings_same h.history.events quiet refl)
      (λ lt. subst (λ (s : Share X). IsOngoing talks rests held.connection s) (sym own) (said, refl), λ le. let no : ⊥ = omega (arith, le) in absurd no)

  -- and there is no memory for it
  pub goes_refused : (p q r : P) (d : D) (old : Table C) (m : BTreeMap ℕ (Held C)) (c : C) → did p quiet q → did q (closed old.next ending.NoRoom) r → talks [] [] [] c → old.held.entries ≡ m.entries
      → Goes did steps talks rests p r d d old (record { held = m; next = old.next + 1 })
  goes_refused p q r d old m c k close said e p0 d0 waits h =
      let n = old.next in
      let free = (h.each n).1 (omega arith) in
      let f = did_more did steps p0 p q d0 d quiet h.history k in
      let first : (j : ℕ) → share_of j f.events f.run ≡ share_of j h.history.events h.history.run = λ j. share_push j h.history.events quiet h.history.run ∙ spares_quiet j _ in
      let own = share_push n f.events (closed n ending.NoRoom) f.run ∙ with_closed n ending.NoRoom (share_of n f.events f.run) ∙ ap (λ (s : Share X). closed_as ending.NoRoom s) (first n ∙ free.0) in
      one_changes p0 p r d0 d d waits old (record { held = m; next = n + 1 }) n (get nat_cmp old.held n) h (did_more did steps p0 q r d0 d (closed n ending.NoRoom) f close) (set_same old.held m n e)
      (λ j ne. share_push j f.events (closed n ending.NoRoom) f.run ∙ spares_closed j n ending.NoRoom ne _ ∙ first j) (λ j s o ne at. later_one s j n o ne at)
      (happenings_same f.events (closed n ending.NoRoom) refl ∙ happenings_same h.history.events quiet refl)
      (held_same _ _ n (n + 1) None _ (sym own) (sym free.1) (λ lt. (ends_now talks rests ending.NoRoom nothing c (said, refl) tt, no_end [] ending.NoRoom), λ le. let no : ⊥ = omega (arith, le) in absurd no))

  -- ---- from the first on

  pub so_far_start : (p : P) (d : D) (m : BTreeMap ℕ (Held C)) → IsEmpty m → SoFar did steps talks rests p p d d [] (record { held = m; next = 0 })
  so_far_start p d m empty = record {
    history = start did steps p d;
    waited = refl;
    each = λ i. held_same _ _ i 0 None _ refl (sym (ap (λ (es : List (ℕ × Held C)). lookup (is_at (nat_cmp i)) es) empty)) (λ lt. let no : ⊥ = omega (arith, lt) in absurd no, λ le. (refl, refl));
  }

  pub served_now : (p0 p q : P) (d0 d e : D) (waits : List Happened) (t u : Table C) (in_all : ℕ) → q ≡ p → e ≡ d → u ≡ t
      → ((shares : ℕ → Share X) → ((i : ℕ) → IsAt (shares i) i t.next (get nat_cmp t.held i)) → IsOver did steps talks rests in_all t.next shares waits) → SoFar did steps talks rests p0 p d0 d waits t → Served did steps talks rests p0 q d0 e in_all u.next
  served_now p0 p q d0 d e waits t u in_all same_peers same_desk same_table over h =
      let all : Served did steps talks rests p0 p d0 d in_all t.next = record {
        history = h.history;
        each = λ i lt. known_served _ _ ((h.each i).0 lt);
        others = λ i le. ((h.each i).1 le).0;
        over = subst (λ (l : List Happened). IsOver did steps talks rests in_all t.next (λ i. share_of i h.history.events h.history.run) l) (sym h.waited) (over (λ i. share_of i h.history.events h.history.run) h.each);
      } in
      subst (λ (v : Table C). Served did steps talks rests p0 q d0 e in_all v.next) (sym same_table)
      (subst (λ (r : P). Served did steps talks rests p0 r d0 e in_all t.next) (sym same_peers) (subst (λ (f : D). Served did steps talks rests p0 p d0 f in_all t.next) (sym same_desk) all))

  -- each was closed
  pub all_gone : (shares : ℕ → Share X) (t : Table C) → btree_map_len t.held ≡ 0 → ((i : ℕ) → IsAt (shares i) i t.next (get nat_cmp t.held i)) → (i : ℕ) → i < t.next → (shares i).ends ≢ []
  all_gone shares t empty each i lt =
      let none : get nat_cmp t.held i ≡ None = ap (λ (es : List (ℕ × Held C)). lookup (is_at (nat_cmp i)) es) (nil_from_length t.held.entries empty) in
      ((held_same _ _ i t.next _ None refl none (each i)).0 lt).1
