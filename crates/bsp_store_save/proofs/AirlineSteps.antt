-- The table of airlines after tokens and publications are written.
use Rattle.bsp_store_base.proofs.Std.{◌+◌, ◌<◌, ◌∙◌, ◌≡◌, ap, ap₂, Bool, FinMap, get, get_or, insert, is_some, length, List, nat_cmp, Option, Result, Some, sym, take, ℕ}
use Rattle.bsp_store_base.proofs.Sqlite.{Ghosts, Held}
use Rattle.bsp_store_base.proofs.Base.{airline_entries, Content, entry_of, place_of}
use Rattle.bsp_store_load.proofs.AirlineLemmas.{airline_entries-taken, get-airline_entries}
use Rattle.bsp_store_save.specs.Saving.{Saves}
use Rattle.bsp_store_save.proofs.StepLemmas.{after, restated, success, under}

-- the content with these airlines
abbrev pub with_airlines : List ℕ → FinMap nat_cmp (List ℕ) → Content → Content
with_airlines ps tokens c = record c { airlines = airline_entries ps tokens }

abbrev pub has_airlines : List ℕ → FinMap nat_cmp (List ℕ) → Content → Type 0
has_airlines ps tokens c = c.airlines ≡ airline_entries ps tokens

-- one airline more is published
module _ (ps : List ℕ) (tokens : FinMap nat_cmp (List ℕ)) (at code : ℕ) (below : at < length ps) (is : code ≡ get_or ps at code) (place : Option ℕ) (token : Option (List ℕ)) (there : Bool)
    (is_place : place ≡ place_of code (take at ps)) (is_token : token ≡ get tokens code) (is_there : there ≡ is_some (entry_of place token)) where
  here : (now : Content) → has_airlines (take at ps) tokens now → is_some (get now.airlines code) ≡ there
  here now met = ap (λ m. is_some (get m code)) met ∙ ap is_some (get-airline_entries tokens (take at ps) code) ∙ ap₂ (λ p t. is_some (entry_of p t)) (sym is_place) (sym is_token) ∙ sym is_there

  one_more : (now : Content) → has_airlines (take at ps) tokens now → record now { airlines = insert now.airlines code (record { place = Some (at + 1); token = token }) } ≡ with_airlines (take (at + 1) ps) tokens now
  one_more now met = ap (λ m. record now { airlines = m })
      (ap (λ m. insert m code (record { place = Some (at + 1); token = token })) met
      ∙ ap (λ (t : Option (List ℕ)). insert (airline_entries (take at ps) tokens) code (record { place = Some (at + 1); token = t })) is_token
      ∙ sym (airline_entries-taken tokens ps at code below is))

  pub published : {S X E : Type 0} {g : Ghosts S} {old new : Held S} (r : Result X E) → Saves g old new r (λ c. is_some (get c.airlines code) ≡ there) (λ c. record c { airlines = insert c.airlines code (record { place = Some (at + 1); token = token }) }) → Saves g old new r (has_airlines (take at ps) tokens) (with_airlines (take (at + 1) ps) tokens)
  published r made = restated r made here one_more

-- the tokens are written over the front of the published airlines, and then the others are
module _ {S : Type 0} {g : Ghosts S} {first second : Held S} (was front all ps : List ℕ) (n : ℕ) (old_tokens tokens values : FinMap nat_cmp (List ℕ)) (kept : was ≡ take n ps) (front_is : front ≡ take n all) (all_is : all ≡ ps) (values_are : values ≡ tokens) where
  -- the tokens, whether they are written or not
  pub tokens_first : {X E : Type 0} {r : Result X E} → Saves g first second r (has_airlines front old_tokens) (with_airlines front tokens) → Saves g first second r (has_airlines was old_tokens) (with_airlines front tokens)
  tokens_first one = under (has_airlines was old_tokens) one (λ now met. met ∙ ap (λ l. airline_entries l old_tokens) (kept ∙ sym (front_is ∙ ap (take n) all_is)))

  pub others_then : {X Y E F : Type 0} {x : X} {third : Held S} (r : Result Y E) → Saves g first second (success {E = F} x) (has_airlines front old_tokens) (with_airlines front tokens) → Saves g second third r (has_airlines (take n all) values) (with_airlines all values)
      → Saves g first third r (has_airlines was old_tokens) (with_airlines ps tokens)
  others_then r one two =
      restated r (after r (tokens_first one) two (λ now met. ap₂ airline_entries front_is (sym values_are)))
      (λ now met. met) (λ now met. ap (λ m. record now { airlines = m }) (ap₂ airline_entries all_is values_are))
