-- Calls in one transaction, one after the other.
use Rattle.bsp_store_base.proofs.Std.{[], ◌∙◌, ◌∷◌, ◌≡◌, ap, Bool, Err, IsErrAnd, List, Ok, OnErr, OnOk, Option, refl, Result, subst, sym}
use Rattle.bsp_store_base.proofs.Sqlite.{Ghosts, Held}
use Rattle.bsp_store_base.proofs.Base.{Changes, Content, form, GivesUp, GivesUpIf, HasContents, IsInside}
use Rattle.bsp_store_load.proofs.Held.{fallen_from}
use Rattle.bsp_store_save.specs.Each.{AreThere, with_each}
use Rattle.bsp_store_save.specs.Saving.{Saves}

-- from what a call ensures to what its caller does
pub on_ok : {X E : Type 0} (P Q : Type 0) (r : Result X E) → OnOk r P → (P → Q) → OnOk r Q
on_ok P Q (Ok x) it f = f it
on_ok P Q (Err e) it f = tt

-- what a call answers that succeeds
abbrev pub success : {X E : Type 0} → X → Result X E
success x = Ok x

-- a call failed, and what then holds is known
pub on_err : {X E Q : Type 0} (r : Result X E) → Q → OnErr r Q
on_err (Ok x) it = tt
on_err (Err e) it = it

module _ {S : Type 0} {g : Ghosts S} where
  -- a call that is not made
  pub unmade : {X E : Type 0} {h : Held S} {r : Result X E} {P : Content → Type 0} {f : Content → Content} (e : E) → IsErrAnd r (λ d. d ≡ e) → Saves g h h r P f
  unmade {h = h} {r = Err d} e is = record { ok = tt; err = λ now last a b met stands inside. fallen_from form g h inside now last a b stands }
  unmade {r = Ok x} e is = absurd is

  -- where nothing changes, since the content is as it is to be
  pub stays : (h : Held S) (P : Content → Type 0) (f : Content → Content) → ((c : Content) → P c → f c ≡ c) → Changes g h h P f
  stays h P f same now last a b met stands inside = (subst (λ c. HasContents form g h c last a b) (sym (same now met)) stands, inside)

  pub as_it_is : {X E : Type 0} {x : X} {h : Held S} {P : Content → Type 0} {f : Content → Content} → ((c : Content) → P c → f c ≡ c) → Saves g h h (success {E = E} x) P f
  as_it_is {h = h} {P = P} {f = f} same = record { ok = stays h P f same; err = tt }

  module _ {old new : Held S} {P : Content → Type 0} {f : Content → Content} where
    -- a call that gives up the transaction whatever the content was
    pub ended : {X E : Type 0} (r : Result X E) → OnOk r (Changes g old new P f) → OnErr r (GivesUp g old new) → Saves g old new r P f
    ended (Ok x) made fails = record { ok = made; err = tt }
    ended (Err e) made fails = record { ok = tt; err = λ now last a b met stands inside. fails now last a b stands inside }

    -- a call that failed, as its caller answers it
    pub stops : {X E : Type 0} {r : Result X E} (e : E) → IsErrAnd r (λ d. d ≡ e) → GivesUpIf g old new P → Saves g old new r P f
    stops {r = Ok x} e is fails = absurd is
    stops {r = Err d} e is fails = record { ok = tt; err = fails }

    -- the same under another condition, and of the content that is the same then
    pub restated : {X E : Type 0} {Q : Content → Type 0} {h : Content → Content} (r : Result X E) → Saves g old new r P f → ((c : Content) → Q c → P c) → ((c : Content) → Q c → f c ≡ h c) → Saves g old new r Q h
    restated (Ok x) it to same = record {
      ok = λ now last a b met stands inside.
          let made = it.ok now last a b (to now met) stands inside in
          (subst (λ c. HasContents form g new c last a b) (same now met) made.0, made.1);
      err = tt;
    }
    restated (Err e) it to same = record { ok = tt; err = λ now last a b met stands inside. it.err now last a b (to now met) stands inside }

    -- the same under a condition that implies it
    pub under : {X E : Type 0} {r : Result X E} (Q : Content → Type 0) → Saves g old new r P f → ((c : Content) → Q c → P c) → Saves g old new r Q f
    under {r = r} Q it to = restated r it to (λ c met. refl)

    -- a call after another
    pub after : {X Y E F : Type 0} {x : X} {third : Held S} {Q : Content → Type 0} {h : Content → Content} (r : Result Y E) → Saves g old new (success {E = F} x) P f → Saves g new third r Q h → ((c : Content) → P c → Q (f c)) → Saves g old third r P (λ c. h (f c))
    after (Ok y) one two to = record {
      ok = λ now last a b met stands inside.
          let mid = one.ok now last a b met stands inside in
          two.ok (f now) last a b (to now met) mid.0 mid.1;
      err = tt;
    }
    after (Err e) one two to = record {
      ok = tt;
      err = λ now last a b met stands inside.
          let mid = one.ok now last a b met stands inside in
          two.err (f now) last a b (to now met) mid.0 mid.1;
    }

module _ {S : Type 0} (g : Ghosts S) where
  -- ---- keys that are written one after the other

  module _ {K V W : Type 0} (set : K → Option V → Content → Content) (at : K → Option V) (holds : K → Content → Bool) (rows : K → Option W → Bool) (first : Held S) (all : List (K × Option W)) where
    -- up to those that are left
    abbrev pub IsPut : Held S → List (K × Option W) → Type 0
    IsPut h left =
        (now last a b : Content) → AreThere set at holds rows all now → HasContents form g first now last a b → IsInside form g first
        → (mid : Content) × AreThere set at holds rows left mid × (with_each set at left mid ≡ with_each set at all now) × HasContents form g h mid last a b × IsInside form g h

    pub none_put : (left : List (K × Option W)) → left ≡ all → IsPut first left
    none_put left is now last a b there stands inside = (now, subst (λ l. AreThere set at holds rows l now) (sym is) there, ap (λ l. with_each set at l now) is, stands, inside)

    module _ (h next : Held S) (left more : List (K × Option W)) (e : K × Option W) (is : left ≡ e ∷ more) (put : IsPut h left) where
      pub one_put : (k : K) (was : Bool) (v : Option V) → k ≡ e.0 → was ≡ rows e.0 e.1 → v ≡ at k → Changes g h next (λ now. holds k now ≡ was) (set k v) → IsPut next more
      one_put k was v key old value changes now last a b there stands inside =
          let so_far = put now last a b there stands inside in
          let mid = so_far.0 in
          let these : AreThere set at holds rows (e ∷ more) mid = subst (λ l. AreThere set at holds rows l mid) is so_far.1 in
          let here : holds k mid ≡ was = ap (λ x. holds x mid) key ∙ these.0 ∙ sym old in
          let done = changes mid last a b here so_far.3 so_far.4 in
          let same : set k v mid ≡ set e.0 (at e.0) mid = ap (λ x. set x v mid) key ∙ ap (λ y. set e.0 y mid) (value ∙ ap at key) in
          (set e.0 (at e.0) mid, these.1, subst (λ l. with_each set at l mid ≡ with_each set at all now) is so_far.2, subst (λ c. HasContents form g next c last a b) same done.0, done.1)

    pub all_put : {X E : Type 0} {x : X} (h : Held S) (left : List (K × Option W)) → left ≡ [] → IsPut h left → Saves g first h (success {E = E} x) (AreThere set at holds rows all) (with_each set at all)
    all_put h left none put = record {
      ok = λ now last a b there stands inside.
          let end = put now last a b there stands inside in
          let same : end.0 ≡ with_each set at all now = sym (ap (λ l. with_each set at l end.0) none) ∙ end.2 in
          (subst (λ c. HasContents form g h c last a b) same end.3, end.4);
      err = tt;
    }

    pub not_put : (h next : Held S) (left : List (K × Option W)) → IsPut h left → GivesUp g h next → GivesUpIf g first next (AreThere set at holds rows all)
    not_put h next left put fails now last a b there stands inside =
        let so_far = put now last a b there stands inside in
        fails so_far.0 last a b so_far.3 so_far.4
