-- What is left of two maps, of which one has an entry, or none, for each of the other's.
use Rattle.bsp_store_base.proofs.Std.{[], ◌↔◌, ◌∙◌, ◌∷◌, ◌≡◌, ap, Bool, cons_option, false, filter_map, is_some, IsTrue, List, None, not, Option, refl, Some, sym, TakesFirst, true}

none_of : {B : Type 0} (o : Option B) → is_some o ≡ false → o ≡ None
none_of None is = refl
none_of (Some b) is = absurd (cc is)

some_of : {B : Type 0} (o : Option B) → is_some o ≡ true → (b : B) × (o ≡ Some b)
some_of None is = absurd (cc is)
some_of (Some b) is = (b, refl)

-- ---- an entry put where there is none

-- it is put where there is none
pub put_told : {V : Type 0} (there : Option V) (done : Bool) → is_some there ≡ not done → there ≡ None → done ≡ true
put_told there true is none = refl
put_told there false is none = let empty : is_some there ≡ false = ap is_some none in absurd (cc (is, empty))

-- and there is none where it was put
pub none_there : {V : Type 0} (there : Option V) (done : Bool) → is_some there ≡ not done → done ≡ true → there ≡ None
none_there there true is put = none_of there is
none_there there false is put = absurd (cc put)

-- ---- a map and what its entries are of

module _ {A B : Type 0} (entry_of : A → Option B) (own : List B) (all : List A) where
  -- what is left of the entries of one is that of the other's exactly where all are
  pub record AreLeft (rest : List B) (now : List A) : Type 0 where
    pub same : rest ≡ filter_map entry_of now → own ≡ filter_map entry_of all
    pub whole : own ≡ filter_map entry_of all → rest ≡ filter_map entry_of now

  pub all_left : AreLeft own all
  all_left = record { same = λ is. is; whole = λ is. is }

  module _ (now next : List A) (e : A) (is : now ≡ e ∷ next) (rest : List B) (left : AreLeft rest now) where
    step : (o : Option B) → entry_of e ≡ o → filter_map entry_of now ≡ cons_option o (filter_map entry_of next)
    step o at = ap (filter_map entry_of) is ∙ ap (λ p. cons_option p (filter_map entry_of next)) at

    -- there is no entry of the next
    pub passed_over : is_some (entry_of e) ≡ false → AreLeft rest next
    passed_over none =
        let same = step None (none_of (entry_of e) none) in
        record { same = λ h. left.same (h ∙ sym same); whole = λ h. left.whole h ∙ same }

    -- the next entry is that of the next
    pub taken : (b : B) (others : List B) → rest ≡ b ∷ others → entry_of e ≡ Some b → AreLeft others next
    taken b others first at =
        let same = step (Some b) at in
        record { same = λ h. left.same (first ∙ ap (λ l. b ∷ l) h ∙ sym same); whole = λ h. let both : b ∷ others ≡ b ∷ filter_map entry_of next = sym first ∙ left.whole h ∙ same in cc both }

    -- no entry is left for the next
    pub none_for : is_some (entry_of e) ≡ true → rest ≡ [] → own ≡ filter_map entry_of all → ⊥
    none_for some none h =
        let it = some_of (entry_of e) some in
        let both : [] ≡ it.0 ∷ filter_map entry_of next = sym none ∙ left.whole h ∙ step (Some it.0) it.1 in
        cc both

    -- the next entry is that of the next, where all are
    pub must_be : is_some (entry_of e) ≡ true → (b : B) (others : List B) → rest ≡ b ∷ others → own ≡ filter_map entry_of all → entry_of e ≡ Some b
    must_be some b others first h =
        let it = some_of (entry_of e) some in
        let both : b ∷ others ≡ it.0 ∷ filter_map entry_of next = sym first ∙ left.whole h ∙ step (Some it.0) it.1 in
        let value : it.0 ≡ b = cc both in
        it.1 ∙ ap (λ x. Some x) value

  -- nothing is left of the other
  pub ended : {P : Type 0} (shows : P → B) (now : List A) (rest after : List B) (r : Option P) (b : Bool) → now ≡ [] → AreLeft rest now → TakesFirst shows rest r after → is_some r ≡ not b → IsTrue b ↔ (own ≡ filter_map entry_of all)
  ended shows now rest after None true end left first is = (λ t. left.same (first.0 ∙ sym (ap (filter_map entry_of) end)), λ h. refl)
  ended shows now rest after None false end left first is = absurd (cc is)
  ended shows now rest after (Some x) true end left first is = absurd (cc is)
  ended shows now rest after (Some x) false end left first is =
      (λ t. absurd (cc t), λ h. let both : shows x ∷ after ≡ [] = sym first ∙ left.whole h ∙ ap (filter_map entry_of) end in absurd (cc both))
