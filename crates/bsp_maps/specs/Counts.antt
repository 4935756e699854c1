-- Counts of rows, by the place that each row has.
use Rattle.std.specs.Prelude.{◌≡◌, ◌≤◌, ℕ, ◌+◌, ◌-◌, Bool, cond, Option, Some, None, count_by, unwrap_or}
use Rattle.std.specs.declared.cmp.Ordering.{Ordering}
use Rattle.std.specs.FinMap.{FinMap, entries, get, insert}
use Rattle.bsp_maps.specs.Undo.{before, content}
use Rattle.bsp_maps.specs.Indexes.{is_place}
use Rattle.bsp_maps.specs.declared.place_counts.Counts.{Counts}

-- one row, or none
abbrev pub ones : Bool → ℕ
ones b = cond b 1 0

module _ {P : Type 0} {RP : P → P → Ordering} where
  -- how many are counted at a place: of one that has no entry, none
  abbrev pub count_at : FinMap RP ℕ → P → ℕ
  count_at counts place = unwrap_or (get counts place) 0

  -- with a row less at a place, and a row more
  abbrev pub without_one : Option P → FinMap RP ℕ → FinMap RP ℕ
  without_one None counts = counts
  without_one (Some place) counts = insert counts place (count_at counts place - 1)

  abbrev pub with_one : P → FinMap RP ℕ → FinMap RP ℕ
  with_one place counts = insert counts place (count_at counts place + 1)

module _ {P : Type 0} (RP : P → P → Ordering) where
  -- the counts now, and at the last commit
  abbrev pub counted : Counts P → FinMap RP ℕ
  counted counts = content RP counts.counts

  abbrev pub counted_before : Counts P → FinMap RP ℕ
  counted_before counts = before RP counts.counts

  -- a row is among those that are counted at its place
  abbrev pub HasCounted : Option P → FinMap RP ℕ → Type 0
  HasCounted from counts = (place : P) → ones (is_place RP from place) ≤ count_at counts place

  -- a row is counted at a place, and no more where it was
  abbrev pub IsRecounted : Option P → P → FinMap RP ℕ → FinMap RP ℕ → Type 0
  IsRecounted from to old new = (place : P) → count_at new place + ones (is_place RP from place) ≡ count_at old place + ones (is_place RP (Some to) place)

  -- how many rows have a place
  abbrev pub row_count : {K V : Type 0} {RK : K → K → Ordering} → (K → V → P) → FinMap RK V → P → ℕ
  row_count at rows place = count_by (λ e. is_place RP (Some (at e.0 e.1)) place) (entries rows)

  -- each place has the count of the rows that have it
  abbrev pub AreCounted : {K V : Type 0} {RK : K → K → Ordering} → (K → V → P) → FinMap RK V → FinMap RP ℕ → Type 0
  AreCounted at rows counts = (place : P) → count_at counts place ≡ row_count at rows place
