-- Lists of entries in which no two have one key, and where the entry of each key stands.
use Rattle.std.specs.Prelude.{◌≡◌, ℕ, ◌<◌, ◌⊎◌, ◌&&◌, Bool, true, false, List, [], ◌∷◌, ◌++◌, length, if◌then◌else◌, Option, MatchOption, Result, MatchResult}
use Rattle.std.specs.List.{All, AllPairs, Contains, HoldsAt, list_any}
use Rattle.std.specs.Ordering.{is_gt, is_lt}
use Rattle.std.specs.declared.cmp.Ordering.{Ordering}
use Rattle.bsp_calendar.specs.Requests.{once, has_conflict}
use Rattle.bsp_calendar.specs.declared.fault.PlanFault.{PlanFault}
use Rattle.bsp_calendar.specs.declared.fault.PlanFault.TheVariants.{Differs, NoMemory}

module _ {A K : Type 0} (eq : K → K → Bool) (key : A → K) where
  -- two entries have one key
  abbrev pub same_key : A → A → Bool
  same_key x y = eq (key x) (key y)

  -- the place of the entry of a key, or none where no entry has it
  abbrev pub IsPlaceOfKey : List A → K → Option ℕ → Type 0
  IsPlaceOfKey entries k place =
      MatchOption place (All (λ e. eq (key e) k ≡ false) entries) (λ i. (i < length entries) × HoldsAt (λ e. eq (key e) k ≡ true) entries i)

  -- each entry is valid, no two have one key, and each key has its place
  pub record IsListed (valid : A → Type 0) (entries : List A) (place : K → Option ℕ) : Type 0 where
    pub all_valid : All valid entries
    pub distinct : AllPairs (λ x y. same_key x y ≡ false) entries
    pub placed : (k : K) → IsPlaceOfKey entries k (place k)

  -- an entry of the same key that differs
  abbrev pub is_other : (A → A → Bool) → A → A → Bool
  is_other differ x y = same_key y x && differ y x

  -- an entry was added where its key is new, or the fault where one of its key differs
  abbrev pub IsAdded : (A → A → Bool) → List A → A → Result (Unit {0}) PlanFault → List A → Type 0
  IsAdded differ entries x added list =
      MatchResult added
      (λ _. (list ≡ (if list_any (λ y. same_key y x) entries then entries else entries ++ x ∷ [])) × (list_any (is_other differ x) entries ≡ false))
      (λ fault. (fault ≡ NoMemory) ⊎ ((fault ≡ Differs) × (list_any (is_other differ x) entries ≡ true)))

-- the entry with the last key that is not after a key, or none where every key is after it
abbrev pub IsLastUpTo : {A K : Type 0} → (K → K → Ordering) → (A → K) → List A → K → Option A → Type 0
IsLastUpTo compare key entries k found =
    MatchOption found (All (λ e. is_gt (compare (key e) k) ≡ true) entries)
    (λ e. Contains entries e × (is_gt (compare (key e) k) ≡ false) × All (λ s. is_gt (compare (key s) k) ≡ false → is_lt (compare (key e) (key s)) ≡ false) entries)

module _ {A : Type 0} (same differ : A → A → Bool) where
  -- why entries are refused: two of one key differ, or there was no memory
  abbrev pub IsRefusal : List A → PlanFault → Type 0
  IsRefusal entries fault = (fault ≡ NoMemory) ⊎ ((fault ≡ Differs) × (has_conflict same differ entries ≡ true))

  -- a list of the entries, each once, none of which differ
  abbrev pub IsOnce : List A → List A → Type 0
  IsOnce entries list = (list ≡ once same entries) × (has_conflict same differ entries ≡ false)

  -- what joining entries answers
  abbrev pub IsJoined : List A → Result (List A) PlanFault → Type 0
  IsJoined entries joined = MatchResult joined (IsOnce entries) (IsRefusal entries)

  -- the same, of a list that is changed
  abbrev pub IsJoinedTo : List A → Result (Unit {0}) PlanFault → List A → Type 0
  IsJoinedTo entries joined list = MatchResult joined (λ _. IsOnce entries list) (IsRefusal entries)
