-- What is read of the rows of airlines: the published ones in the order of their places, and the tokens.
use Rattle.std.proofs.Common.{◌≡◌, ℕ, suc, ◌+◌, ◌<◌, ◌==◌, Bool, true, false, cond, List, [], ◌∷◌, map, length, get_or, Option, Some, None, inl, inr, refl, sym, ap, ap₂, subst, ◌∙◌, arith, eq-eqb, Less}
use Rattle.bsp_store_base.proofs.Std.{AllByRecursion, AllPairs, BTreeMap, Contains, empty, entries, eqb-true, FinMap, from_entries, get, IsStrictlySortedBy, keys_of, lt-ltb, nat_cmp, nat_cmp-IsAntisymmetric, nat_cmp_total, option_map, option_or}
use Rattle.bsp_store_base.proofs.Entries.{contains_cases, contains_head, contains_none, contains_tail, entry_get, get_entry, in_order, Published, same_Some}
use Rattle.sqlite_value.specs.Order.{Row}
use Rattle.bsp_rows.specs.Requests.{AreDistinct, same_airline}
use Rattle.bsp_store_base.proofs.Base.{airline_entries, airline_row, entry_of, get-airline_entries, IsAirlineEntry, place_among, place_of, placed}
use Rattle.bsp_store_columns.specs.declared.airlines.AirlineEntry.{AirlineEntry}
use Rattle.bsp_store_load.specs.Stored.{AreReadAs, IsFormedPlan, IsListedAirline, code_token, gathered, placed_code}
use Rattle.bsp_store_load.proofs.CloseLemmas.{of_entries}
use Rattle.bsp_store_load.proofs.Gathering.{Gives, gathered_is}
use Rattle.bsp_store_load.proofs.PlanReads.{are_read}

-- ---- values with their places

less_is : (a b : ℕ) → a < b → nat_cmp a b ≡ Less
less_is a b less = rw (lt-ltb a b less) refl

later : {A : Type 0} (at before : ℕ) (xs : List A) → at < before + 1 → AllByRecursion (λ y. nat_cmp at y ≡ Less) (keys_of (placed before xs))
later at before [] low = tt
later at before (x ∷ xs) low = (less_is at (before + 1) low, later at (before + 1) xs (omega arith))

rises_from : {A : Type 0} (before : ℕ) (xs : List A) → IsStrictlySortedBy nat_cmp (keys_of (placed before xs))
unfolding IsStrictlySortedBy
rises_from before [] = tt
rises_from before (x ∷ xs) = (later (before + 1) (before + 1) xs (omega arith), rises_from (before + 1) xs)

placed_rises : {A : Type 0} (xs : List A) → IsStrictlySortedBy nat_cmp (keys_of (placed 0 xs))
placed_rises xs = rises_from 0 xs

second_of_placed : {A : Type 0} (before : ℕ) (xs : List A) → map (λ e. e.1) (placed before xs) ≡ xs
second_of_placed before [] = refl
second_of_placed before (x ∷ xs) = ap (λ l. x ∷ l) (second_of_placed (before + 1) xs)

-- ---- the parts of an entry

pub entry_parts : (place : Option ℕ) (token : Option (List ℕ)) (a : AirlineEntry) → entry_of place token ≡ Some a → (a.place ≡ place) × (a.token ≡ token)
entry_parts None None a is = absurd (cc is)
entry_parts None (Some t) a is = let same = sym (same_Some _ a is) in (ap (λ (x : AirlineEntry). x.place) same, ap (λ (x : AirlineEntry). x.token) same)
entry_parts (Some p) token a is = let same = sym (same_Some _ a is) in (ap (λ (x : AirlineEntry). x.place) same, ap (λ (x : AirlineEntry). x.token) same)

-- an airline that has one of the two has an entry
with_token : (place : Option ℕ) (token : List ℕ) → entry_of place (Some token) ≡ Some (record { place = place; token = Some token })
with_token None token = refl
with_token (Some place) token = refl

-- the key and the value of a pair
of_option : {X K V : Type 0} (pair : X → K × V) (o : Option X) (k : K) (v : V) → option_map pair o ≡ Some (k, v) → (x : X) × (o ≡ Some x) × (pair x ≡ (k, v))
of_option pair None k v is = absurd (cc is)
of_option pair (Some x) k v is = (x, refl, same_Some (pair x) (k, v) is)

-- ---- places

-- what has a place is there
place_contains : (v : ℕ) (es : List (ℕ × ℕ)) (k : ℕ) → place_among v es ≡ Some k → Contains es (k, v)
place_contains v [] k is = absurd (cc is)
place_contains v (e ∷ es) k is = first (place_contains v es k) (place_among v es) refl is
  where
    here : (b : Bool) → (v == e.1) ≡ b → cond b (Some e.0) None ≡ Some k → Contains (e ∷ es) (k, v)
    here true tie found =
        let place = same_Some e.0 k found in
        let code = sym (eqb-true v e.1 tie) in
        subst (Contains (e ∷ es)) (λ i. (place i, code i)) (contains_head e es)
    here false tie found = absurd (cc found)

    first : (place_among v es ≡ Some k → Contains es (k, v)) → (later : Option ℕ) → place_among v es ≡ later → option_or later (cond (v == e.1) (Some e.0) None) ≡ Some k → Contains (e ∷ es) (k, v)
    first deeper None at found = here (v == e.1) refl found
    first deeper (Some j) at found = contains_tail e es (k, v) (deeper (at ∙ found))

no_place : (v before : ℕ) (ps : List ℕ) → ((i d : ℕ) → i < length ps → (v == get_or ps i d) ≡ false) → place_among v (placed before ps) ≡ None
no_place v before [] apart = refl
no_place v before (p ∷ ps) apart =
    let later = no_place v (before + 1) ps (λ i d below. apart (suc i) d (omega arith)) in
    let first : (v == p) ≡ false = apart 0 p (omega arith) in
    rw (later, first) refl

-- where each is published once, its place is the one where it is
contains_place : (v k before : ℕ) (ps : List ℕ) → AllPairs (λ x y. (x == y) ≡ false) ps → Contains (placed before ps) (k, v) → place_among v (placed before ps) ≡ Some k
contains_place v k before [] apart has = contains_none (k, v) has
contains_place v k before (p ∷ ps) apart has =
    elim (contains_cases (before + 1, p) (placed (before + 1) ps) (k, v) has) [
      | inl here ↦
          let code : v ≡ p = sym (ap (λ (e : ℕ × ℕ). e.1) here) in
          let later : place_among v (placed (before + 1) ps) ≡ None = no_place v (before + 1) ps (λ i d below. ap (λ (x : ℕ). x == get_or ps i d) code ∙ apart 0 (suc i) d (omega arith) (omega arith)) in
          let tie : (v == p) ≡ true = eq-eqb v p code in
          rw (later, tie) (ap (λ (e : ℕ × ℕ). Some e.0) here)
      | inr there ↦
          ap (λ (r : Option ℕ). option_or r (cond (v == p) (Some (before + 1)) None)) (contains_place v k (before + 1) ps (λ i j d less below. apart (suc i) (suc j) d (omega arith) (omega arith)) there)
    ]

-- ---- the entries of a plan's airlines and of tokens

module _ (ps : List ℕ) (tokens : FinMap nat_cmp (List ℕ)) where
  abbrev all : FinMap nat_cmp AirlineEntry
  all = airline_entries ps tokens

  at_entry : (c : ℕ) (a : AirlineEntry) → get all c ≡ Some a → (a.place ≡ place_of c ps) × (a.token ≡ get tokens c)
  at_entry c a is = entry_parts (place_of c ps) (get tokens c) a (sym (get-airline_entries tokens ps c) ∙ is)

  of_entry : (e : ℕ × AirlineEntry) → Contains (entries all) e → (e.1.place ≡ place_of e.0 ps) × (e.1.token ≡ get tokens e.0)
  of_entry e has = at_entry e.0 e.1 (entry_get nat_cmp_total nat_cmp-IsAntisymmetric all e.0 e.1 has)

  -- each has a place or a token
  each_some : AllByRecursion (λ e. entry_of e.1.place e.1.token ≡ Some e.1) (entries all)
  each_some = of_entries nat_cmp_total nat_cmp-IsAntisymmetric (λ e. entry_of e.1.place e.1.token ≡ Some e.1) all (λ c a is.
      let parts = at_entry c a is in
      ap₂ entry_of parts.0 parts.1 ∙ (sym (get-airline_entries tokens ps c) ∙ is))

  listed : (es : List (ℕ × AirlineEntry)) → AllByRecursion IsAirlineEntry es → AllByRecursion (λ e. entry_of e.1.place e.1.token ≡ Some e.1) es → AllByRecursion IsListedAirline es
  listed [] formed some = tt
  listed (e ∷ es) formed some = (record { formed = formed.0; some = some.0 }, listed es formed.1 some.1)

  pub all_listed : AllByRecursion IsAirlineEntry (entries all) → AllByRecursion IsListedAirline (entries all)
  all_listed formed = listed (entries all) formed each_some

  -- ---- the tokens

  token_sound : (e : ℕ × AirlineEntry) (k : ℕ) (v : List ℕ) → Contains (entries all) e → code_token e ≡ Some (k, v) → get tokens k ≡ Some v
  token_sound e k v has is =
      let pair = of_option (λ (t : List ℕ). (e.0, t)) e.1.token k v is in
      let code : k ≡ e.0 = sym (ap (λ (x : ℕ × List ℕ). x.0) pair.2) in
      ap (get tokens) code ∙ sym (of_entry e has).1 ∙ pair.1 ∙ ap (λ (x : ℕ × List ℕ). Some x.1) pair.2

  token_complete : (k : ℕ) (v : List ℕ) → get tokens k ≡ Some v → Gives code_token (entries all) k v
  token_complete k v is =
      let a : AirlineEntry = record { place = place_of k ps; token = Some v } in
      let there : get all k ≡ Some a = get-airline_entries tokens ps k ∙ ap (entry_of (place_of k ps)) is ∙ with_token (place_of k ps) v in
      ((k, a), get_entry nat_cmp_total nat_cmp-IsAntisymmetric all k a there, refl)

  pub tokens_are : gathered code_token (entries all) empty ≡ tokens
  tokens_are = gathered_is code_token nat_cmp_total nat_cmp-IsAntisymmetric (entries all) tokens token_sound token_complete

  -- ---- the places

  module _ (apart : AreDistinct same_airline ps) where
    abbrev codes : FinMap nat_cmp ℕ
    codes = from_entries (placed 0 ps)

    codes_are : entries codes ≡ placed 0 ps
    codes_are = in_order nat_cmp_total (placed 0 ps) (placed_rises ps)

    place_sound : (e : ℕ × AirlineEntry) (k v : ℕ) → Contains (entries all) e → placed_code e ≡ Some (k, v) → get codes k ≡ Some v
    place_sound e k v has is =
        let pair = of_option (λ (p : ℕ). (p, e.0)) e.1.place k v is in
        let code : v ≡ e.0 = sym (ap (λ (x : ℕ × ℕ). x.1) pair.2) in
        let at : place_of v ps ≡ Some k = ap (λ (c : ℕ). place_of c ps) code ∙ sym (of_entry e has).0 ∙ pair.1 ∙ ap (λ (x : ℕ × ℕ). Some x.0) pair.2 in
        entry_get nat_cmp_total nat_cmp-IsAntisymmetric codes k v (subst (λ es. Contains es (k, v)) (sym codes_are) (place_contains v (placed 0 ps) k at))

    place_complete : (k v : ℕ) → get codes k ≡ Some v → Gives placed_code (entries all) k v
    place_complete k v is =
        let a : AirlineEntry = record { place = Some k; token = get tokens v } in
        let has : Contains (placed 0 ps) (k, v) = subst (λ es. Contains es (k, v)) codes_are (get_entry nat_cmp_total nat_cmp-IsAntisymmetric codes k v is) in
        let there : get all v ≡ Some a = get-airline_entries tokens ps v ∙ ap (λ p. entry_of p (get tokens v)) (contains_place v k 0 ps apart has) in
        ((v, a), get_entry nat_cmp_total nat_cmp-IsAntisymmetric all v a there, refl)

    places_are : gathered placed_code (entries all) empty ≡ codes
    places_are = gathered_is placed_code nat_cmp_total nat_cmp-IsAntisymmetric (entries all) codes place_sound place_complete

    -- the codes by their places are the published airlines in their order
    pub codes_in_order : (found : BTreeMap ℕ ℕ) → from_entries {R = nat_cmp} found.entries ≡ gathered placed_code (entries all) empty → IsStrictlySortedBy nat_cmp (keys_of found.entries) → map (λ e. e.1) found.entries ≡ ps
    codes_in_order found is up =
        ap (map (λ e. e.1)) (sym (in_order nat_cmp_total found.entries up) ∙ ap entries (is ∙ places_are) ∙ codes_are) ∙ second_of_placed 0 ps

-- ---- what is read of the rows of a plan

pub airlines_read : (p : Published) (tokens : FinMap nat_cmp (List ℕ)) → IsFormedPlan p tokens → (rows : List Row) → rows ≡ map airline_row (entries (airline_entries p.airlines tokens))
    → AreReadAs (λ e row. IsListedAirline e × (row ≡ airline_row e)) rows (entries (airline_entries p.airlines tokens))
airlines_read p tokens formed = are_read _ airline_row IsListedAirline (λ e listed. (listed, refl)) (entries (airline_entries p.airlines tokens)) (all_listed p.airlines tokens formed.airlines)
