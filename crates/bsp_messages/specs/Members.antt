-- Objects of JSON and their members.
use Rattle.std.specs.Prelude.{◌==◌, ℕ, ℤ, Bool, false, List, if◌then◌else◌, Option, None, option_and_then}
use Rattle.std.specs.Option.{option_map_or}
use Rattle.serde_json.specs.Data.{Data}
use Rattle.serde_json.specs.Events.{members_len}
use Rattle.serde_json.specs.Find.{get, as_object, as_number, as_str, as_i64}

-- the data is an object of n members; no two have one key
abbrev pub has_members : ℕ → Data → Bool
has_members n d = option_map_or (λ ms. members_len ms == n) (as_object d) false

-- a member that is a text
abbrev pub text_at : List ℕ → Data → Option (List ℕ)
text_at key d = option_and_then as_str (get key d)

-- a member that is a whole number of 64 bits with a sign
abbrev pub number_at : List ℕ → Data → Option ℤ
number_at key d = option_and_then as_i64 (option_and_then as_number (get key d))

-- a member that is a text, in the form
abbrev pub value_at : {A : Type 0} → (List ℕ → Option A) → List ℕ → Data → Option A
value_at form key d = option_and_then form (text_at key d)

-- what an object of exactly n members holds: where each of n keys is found, no other is there
abbrev pub of_exactly : {A : Type 0} → ℕ → (Data → Option A) → Data → Option A
of_exactly n found d = if has_members n d then found d else None
