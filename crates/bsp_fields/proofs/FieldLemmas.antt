-- Lemmas on the columns of fields that stand side by side.
use Rattle.std.proofs.Common.{◌≡◌, ℕ, zero, suc, ◌+◌, Bool, true, List, [], ◌∷◌, ◌++◌, length, map, get_or, take, drop, refl, ap, ◌∙◌, length-append}
use Rattle.std.specs.List.{concat, list_all}
use Rattle.std.proofs.lemmas.List.{take_at, drop-drop, drop_at, length-map}
use Rattle.std.proofs.Math.Seq.{take-add}
use Rattle.std.proofs.lemmas.List.Folds.{list_all-append}
use Rattle.std.proofs.lemmas.Bool.{and_parts}
use Rattle.bsp_fields.specs.Columns.{is_printable, is_wide}

-- the width of the first k fields
abbrev pub before : ℕ → List ℕ → ℕ
before zero widths = 0
before (suc k) [] = 0
before (suc k) (width ∷ widths) = width + before k widths

-- the rest behind a first field
behind_first : (field rest : List ℕ) (n : ℕ) → drop (length field + n) (field ++ rest) ≡ drop n rest
behind_first field rest n = rw (← drop-drop n (length field) (field ++ rest), drop_at field rest (length field) refl) refl

take-append_add : (field rest : List ℕ) (n : ℕ) → take (length field + n) (field ++ rest) ≡ field ++ take n rest
take-append_add field rest n =
    take-add (length field) n (field ++ rest)
    ∙ rw (take_at field rest (length field) refl, drop_at field rest (length field) refl) refl

own_width : (k : ℕ) (fields : List (List ℕ)) → take (get_or (map length fields) k 0) (drop (before k (map length fields)) (concat fields)) ≡ get_or fields k []
own_width k [] = refl
own_width zero (field ∷ fields) = take_at field (concat fields) (length field) refl
own_width (suc k) (field ∷ fields) = rw (behind_first field (concat fields) (before k (map length fields))) (own_width k fields)

-- the columns behind the first k fields are the next field
pub field_at : (k : ℕ) (widths : List ℕ) (fields : List (List ℕ)) → map length fields ≡ widths → take (get_or widths k 0) (drop (before k widths) (concat fields)) ≡ get_or fields k []
field_at k widths fields wide = rw (← wide) (own_width k fields)

width_of : (fields : List (List ℕ)) → length (concat fields) ≡ before (length fields) (map length fields)
width_of [] = refl
width_of (field ∷ fields) = length-append field (concat fields) ∙ ap (λ n. length field + n) (width_of fields)

-- fields are as wide as the sum of their widths
pub length-fields : (widths : List ℕ) (fields : List (List ℕ)) → map length fields ≡ widths → length (concat fields) ≡ before (length widths) widths
length-fields widths fields wide = rw (← wide, length-map fields (length {A = ℕ})) (width_of fields)

-- the columns of the first m fields
front_of : (m : ℕ) (fields : List (List ℕ)) → take (before m (map length fields)) (concat fields) ≡ concat (take m fields)
front_of zero fields = refl
front_of (suc m) [] = refl
front_of (suc m) (field ∷ fields) =
    take-append_add field (concat fields) (before m (map length fields)) ∙ ap (λ rest. field ++ rest) (front_of m fields)

own_widths : (k m : ℕ) (fields : List (List ℕ)) → take (before m (drop k (map length fields))) (drop (before k (map length fields)) (concat fields)) ≡ concat (take m (drop k fields))
own_widths zero m fields = front_of m fields
own_widths (suc k) m [] = front_of m []
own_widths (suc k) m (field ∷ fields) =
    rw (behind_first field (concat fields) (before k (map length fields))) (own_widths k m fields)

-- the columns behind the first k fields are the next m fields
pub fields_at : (k m : ℕ) (widths : List ℕ) (fields : List (List ℕ)) → map length fields ≡ widths → take (before m (drop k widths)) (drop (before k widths) (concat fields)) ≡ concat (take m (drop k fields))
fields_at k m widths fields wide = rw (← wide) (own_widths k m fields)

-- what holds of each character of each field
pub list_all-concat : (test : ℕ → Bool) (fields : List (List ℕ)) → list_all (list_all test) fields ≡ true → list_all test (concat fields) ≡ true
list_all-concat test [] all = refl
list_all-concat test (field ∷ fields) all =
    let parts = and_parts (list_all test field) (list_all (list_all test) fields) all in
    rw (list_all-append test field (concat fields), parts.0, list_all-concat test fields parts.1) refl

-- fields that fill a record with printable characters
pub wide_fields : (widths : List ℕ) (fields : List (List ℕ)) → map length fields ≡ widths → before (length widths) widths ≡ 136 → list_all (list_all is_printable) fields ≡ true → is_wide (concat fields) ≡ true
unfolding is_wide
wide_fields widths fields wide sum printable =
    rw (length-fields widths fields wide, sum, list_all-concat is_printable fields printable) refl
