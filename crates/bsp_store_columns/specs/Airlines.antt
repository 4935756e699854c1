-- The airlines of a plan, and the tokens of airlines, as the entries of one map.
use Rattle.std.specs.Prelude.{[], ◌<◌, ◌==◌, ◌^◌, ◌∷◌, if◌then◌else◌, List, map, None, Option, Some, ℕ}
use Rattle.std.specs.FinMap.{entries, FinMap, from_entries, get, insert}
use Rattle.std.specs.Option.{ForSome, option_or}
use Rattle.std.specs.Ordering.{nat_cmp}
use Rattle.bsp_store_columns.specs.declared.airlines.AirlineEntry.{AirlineEntry}
use Rattle.bsp_store_columns.specs.Values.{placed}

-- its place, if it has one, is an integer of a store
abbrev pub HasStoredPlace : AirlineEntry → Type 0
HasStoredPlace airline = ForSome airline.place (λ place. place < 2 ^ 63)

-- an airline with this place and this token, and nothing where it has neither
abbrev pub entry_of : Option ℕ → Option (List ℕ) → Option AirlineEntry
entry_of None None = None
entry_of None (Some token) = Some (record { place = None; token = Some token })
entry_of (Some place) token = Some (record { place = Some place; token = token })

-- the last place of an airline
abbrev pub place_among : ℕ → List (ℕ × ℕ) → Option ℕ
place_among airline [] = None
place_among airline (e ∷ es) = option_or (place_among airline es) (if airline == e.1 then Some e.0 else None)

-- the place of an airline among those that are published, counted from 1; the last of them, if there are several
abbrev pub place_of : ℕ → List ℕ → Option ℕ
place_of airline published = place_among airline (placed 0 published)

-- an airline that is registered, without a place
abbrev pub unplaced : ℕ × List ℕ → ℕ × AirlineEntry
unplaced e = (e.0, record { place = None; token = Some e.1 })

module _ (tokens : FinMap nat_cmp (List ℕ)) where
  -- the registered airlines
  abbrev pub registered : FinMap nat_cmp AirlineEntry
  registered = from_entries (map unplaced (entries tokens))

  -- an airline at its place, with the token that it has
  abbrev pub published_at : ℕ × ℕ → AirlineEntry
  published_at e = record { place = Some e.0; token = get tokens e.1 }

  -- with the airlines at these places, one after another
  abbrev pub with_published : List (ℕ × ℕ) → FinMap nat_cmp AirlineEntry → FinMap nat_cmp AirlineEntry
  with_published [] m = m
  with_published (e ∷ es) m = with_published es (insert m e.1 (published_at e))

-- the airlines that are registered or published
unfoldable pub airline_entries : List ℕ → FinMap nat_cmp (List ℕ) → FinMap nat_cmp AirlineEntry
airline_entries published tokens = with_published tokens (placed 0 published) (registered tokens)
