-- The map of the airlines: what is at each of them, and what one more publication or another token makes of it.
use Rattle.std.proofs.Common.{◌≡◌, ℕ, ◌+◌, ◌<◌, ◌==◌, Bool, true, false, cond, List, [], ◌∷◌, ◌++◌, map, length, take, get_or, refl, sym, ap, ◌∙◌, Option, Some, None, eqb-true}
use Rattle.std.specs.FinMap.{entries, find, FinMap, get, get-entries, get-from_entries, get-insert, insert}
use Rattle.std.specs.Ordering.{eq_by_cmp, nat_cmp}
use Rattle.std.specs.Cmp.{nat_cmp_total, unsigned_tied}
use Rattle.std.specs.Option.{option_or}
use Rattle.bsp_store_columns.specs.declared.airlines.AirlineEntry.{AirlineEntry}
use Rattle.bsp_store_columns.specs.Airlines.{airline_entries, entry_of, place_among, place_of, published_at, registered, unplaced, with_published}
use Rattle.bsp_store_columns.specs.Values.{placed}
use Rattle.bsp_store_columns.proofs.Placing.{placed_taken}

-- ---- places

first_of : (b : Bool) (n : ℕ) (x y : Option ℕ) → option_or (cond b (Some n) x) y ≡ cond b (Some n) (option_or x y)
first_of true n x y = refl
first_of false n x y = refl

place_among-last : (a : ℕ) (es : List (ℕ × ℕ)) (e : ℕ × ℕ) → place_among a (es ++ e ∷ []) ≡ cond (a == e.1) (Some e.0) (place_among a es)
place_among-last a [] e = refl
place_among-last a (d ∷ es) e =
    let own : Option ℕ = cond (a == d.1) (Some d.0) None in
    ap (λ o. option_or o own) (place_among-last a es e) ∙ first_of (a == e.1) e.0 (place_among a es) own

-- the place among one more of a list
pub place_taken : (a : ℕ) (ps : List ℕ) (i p : ℕ) → i < length ps → p ≡ get_or ps i p → place_of a (take (i + 1) ps) ≡ cond (a == p) (Some (i + 1)) (place_of a (take i ps))
place_taken a ps i p below is = ap (place_among a) (placed_taken ps i p below is) ∙ place_among-last a (placed 0 (take i ps)) (i + 1, p)

-- ---- what is at an airline

without_place : (b : Bool) (token : List ℕ) (o : Option (List ℕ)) → cond b (Some (record { place = None; token = Some token })) (entry_of None o) ≡ entry_of None (cond b (Some token) o)
without_place true token o = refl
without_place false token o = refl

-- an airline at a place, and else what was there
abbrev over : Option ℕ → Option (List ℕ) → Option AirlineEntry → Option AirlineEntry
over None token old = old
over (Some place) token old = Some (record { place = Some place; token = token })

over_step : (b : Bool) (at : Option ℕ) (place : ℕ) (own token : Option (List ℕ)) (old : Option AirlineEntry) → (b ≡ true → own ≡ token)
    → over at token (cond b (Some (record { place = Some place; token = own })) old) ≡ over (option_or at (cond b (Some place) None)) token old
over_step b (Some p) place own token old same = refl
over_step true None place own token old same = ap (λ (t : Option (List ℕ)). over (Some place) t None) (same refl)
over_step false None place own token old same = refl

over_registered : (at : Option ℕ) (token : Option (List ℕ)) → over at token (entry_of None token) ≡ entry_of at token
over_registered None token = refl
over_registered (Some place) token = refl

module _ (tokens : FinMap nat_cmp (List ℕ)) where
  find-unplaced : (q : ℕ) (es : List (ℕ × List ℕ)) → find nat_cmp q (map unplaced es) ≡ entry_of None (find nat_cmp q es)
  find-unplaced q [] = refl
  find-unplaced q (e ∷ es) =
      ap (cond (eq_by_cmp nat_cmp q e.0) (Some (record { place = None; token = Some e.1 }))) (find-unplaced q es)
      ∙ without_place (eq_by_cmp nat_cmp q e.0) e.1 (find nat_cmp q es)

  get-registered : (q : ℕ) → get (registered tokens) q ≡ entry_of None (get tokens q)
  get-registered q =
      get-from_entries nat_cmp_total (map unplaced (entries tokens)) q ∙ find-unplaced q (entries tokens) ∙ ap (entry_of None) (sym (get-entries tokens q))

  get-with_published : (q : ℕ) (es : List (ℕ × ℕ)) (m : FinMap nat_cmp AirlineEntry) → get (with_published tokens es m) q ≡ over (place_among q es) (get tokens q) (get m q)
  get-with_published q [] m = refl
  get-with_published q (e ∷ es) m =
      get-with_published q es (insert m e.1 (published_at tokens e))
      ∙ ap (over (place_among q es) (get tokens q)) (get-insert nat_cmp_total m e.1 (published_at tokens e) q ∙ ap (λ b. cond b (Some (published_at tokens e)) (get m q)) (unsigned_tied q e.1))
      ∙ over_step (q == e.1) (place_among q es) e.0 (get tokens e.1) (get tokens q) (get m q) (λ tie. ap (get tokens) (sym (eqb-true q e.1 tie)))

  -- nothing where it is neither published nor registered
  pub get-airline_entries : (ps : List ℕ) (q : ℕ) → get (airline_entries ps tokens) q ≡ entry_of (place_of q ps) (get tokens q)
  unfolding airline_entries
  get-airline_entries ps q =
      get-with_published q (placed 0 ps) (registered tokens) ∙ ap (over (place_of q ps) (get tokens q)) (get-registered q)
      ∙ over_registered (place_of q ps) (get tokens q)

  -- ---- one airline more

  with_published-last : (es : List (ℕ × ℕ)) (e : ℕ × ℕ) (m : FinMap nat_cmp AirlineEntry) → with_published tokens (es ++ e ∷ []) m ≡ insert (with_published tokens es m) e.1 (published_at tokens e)
  with_published-last [] e m = refl
  with_published-last (d ∷ es) e m = with_published-last es e (insert m d.1 (published_at tokens d))

  -- one airline more of a list
  pub with_published-taken : (ps : List ℕ) (i p : ℕ) (m : FinMap nat_cmp AirlineEntry) → i < length ps → p ≡ get_or ps i p
      → with_published tokens (placed 0 (take (i + 1) ps)) m ≡ insert (with_published tokens (placed 0 (take i ps)) m) p (published_at tokens (i + 1, p))
  with_published-taken ps i p m below is = ap (λ es. with_published tokens es m) (placed_taken ps i p below is) ∙ with_published-last (placed 0 (take i ps)) (i + 1, p) m

  pub airline_entries-taken : (ps : List ℕ) (i p : ℕ) → i < length ps → p ≡ get_or ps i p
      → airline_entries (take (i + 1) ps) tokens ≡ insert (airline_entries (take i ps) tokens) p (record { place = Some (i + 1); token = get tokens p })
  unfolding airline_entries
  airline_entries-taken ps i p below is = with_published-taken ps i p (registered tokens) below is
