-- The names of records by their digits.
use Rattle.std.proofs.Common.{◌≡◌, ℕ, ◌+◌, ◌<◌, ◌≤◌, false, List, [], ◌∷◌, length, get_or, drop, refl, add-one, Option, None}
use Rattle.std.specs.List.{find}
use Rattle.std.specs.Str.{bytes_eq}
use Rattle.std.proofs.Math.Seq.{drop-cons}
use Rattle.std.proofs.Math.ListN.{drop_of_length-le}
use Rattle.bsp_hot_records.specs.declared.name.RecordName.{RecordName}
use Rattle.bsp_hot_records.specs.declared.name.RecordName.TheVariants.{Bfh01, Bch02, Boh03, Bkt06, Bks24, Bks30, Bks39, Bks42, Bks45, Bkp84, Bot93, Bot94, Bct95, Bft99}
use Rattle.bsp_hot_records.specs.Records.{name_digits, name_of}

-- the first of these names that has these digits
unfoldable pub first_named : List ℕ → List RecordName → Option RecordName
first_named digits names = find (λ name. bytes_eq digits (name_digits name)) names

pub none_left : (digits : List ℕ) (names : List RecordName) (i : ℕ) → length names ≤ i → first_named digits (drop i names) ≡ None
unfolding first_named
none_left digits names i last = rw (drop_of_length-le names {i = i} last) refl

pub other_at : (digits : List ℕ) (names : List RecordName) (i : ℕ) (d : RecordName) → i < length names → bytes_eq digits (name_digits (get_or names i d)) ≡ false → first_named digits (drop i names) ≡ first_named digits (drop (i + 1) names)
unfolding first_named
other_at digits names i d inside other = rw (add-one, drop-cons names i d inside, other) refl

pub of_all : (digits : List ℕ) → first_named digits (Bfh01 ∷ Bch02 ∷ Boh03 ∷ Bkt06 ∷ Bks24 ∷ Bks30 ∷ Bks39 ∷ Bks42 ∷ Bks45 ∷ Bkp84 ∷ Bot93 ∷ Bot94 ∷ Bct95 ∷ Bft99 ∷ []) ≡ name_of digits
unfolding first_named name_of
of_all digits = refl
