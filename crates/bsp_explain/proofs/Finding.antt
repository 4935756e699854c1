-- Lemmas on the first field that is not in its form.
use Rattle.std.proofs.Common.{◌≡◌, ℕ, ◌+◌, ◌-◌, ◌<◌, ◌≤◌, true, false, ◌&&◌, List, [], ◌∷◌, ◌++◌, length, get_or, drop, refl, sym, ◌∙◌, add-one, arith, inl, inr, Option, Some, None, IfSome, IfNone}
use Rattle.std.specs.Prelude.{nat_le}
use Rattle.std.specs.Option.{option_or}
use Rattle.std.specs.List.{list_all}
use Rattle.std.proofs.Math.Seq.{drop-cons}
use Rattle.std.proofs.Math.ListN.{drop_of_length-le}
use Rattle.std.proofs.lemmas.Grind.{common_steps}
use Rattle.std.proofs.lemmas.List.Folds.{list_all-append}
use Rattle.std.proofs.lemmas.Bool.{and_parts, cases_Bool}
use Rattle.bsp_explain.specs.declared.field.Field.{Field}
use Rattle.bsp_explain.specs.Fields.{all_fit, first_unfit, field_fits, is_inside, takes_width, IsAtFault}

-- after the last field none is left
pub nothing_left : (line : List ℕ) (fields : List Field) (i : ℕ) → length fields ≤ i → (first_unfit line (drop i fields) ≡ None) × (all_fit line (drop i fields) ≡ true)
unfolding first_unfit all_fit
nothing_left line fields i last = rw (drop_of_length-le fields {i = i} last) (refl, refl)

-- a field in its form can be left out
pub passed_at : (line : List ℕ) (fields : List Field) (i : ℕ) (d : Field) → i < length fields → field_fits line (get_or fields i d) ≡ true → (first_unfit line (drop i fields) ≡ first_unfit line (drop (i + 1) fields)) × (all_fit line (drop i fields) ≡ all_fit line (drop (i + 1) fields))
unfolding first_unfit all_fit
passed_at line fields i d inside fit = rw (add-one, drop-cons fields i d inside, fit) (refl, refl)

-- and another one is found
pub stopped_at : (line : List ℕ) (fields : List Field) (i : ℕ) (d : Field) → i < length fields → field_fits line (get_or fields i d) ≡ false → (first_unfit line (drop i fields) ≡ Some (get_or fields i d)) × (all_fit line (drop i fields) ≡ false)
unfolding first_unfit all_fit
stopped_at line fields i d inside unfit = rw (drop-cons fields i d inside, unfit) (refl, refl)

-- ---- fields by their columns

all_at : (fields : List Field) (i : ℕ) (d : Field) → i < length fields → list_all is_inside fields ≡ true → is_inside (get_or fields i d) ≡ true
all_at fields i d inside all = grind (arith, common_steps)

-- columns of a record that are not in the field's form
pub at_fault : (line : List ℕ) (f : Field) → is_inside f ≡ true → field_fits line f ≡ false → IsAtFault line f
at_fault line f inside unfit =
    let widths = and_parts (nat_le 1 f.first && nat_le f.first f.last && nat_le f.last 136) (takes_width f.form (f.last - (f.first - 1))) inside in
    let ends = and_parts (nat_le 1 f.first && nat_le f.first f.last) (nat_le f.last 136) widths.0 in
    let starts = and_parts (nat_le 1 f.first) (nat_le f.first f.last) ends.0 in
    record { from = grind (arith, starts.0); to = grind (arith, ends.1); order = grind (arith, starts.1); unfit = unfit }

pub at_fault_in : (line : List ℕ) (fields : List Field) (i : ℕ) (d : Field) → i < length fields → list_all is_inside fields ≡ true → field_fits line (get_or fields i d) ≡ false → IsAtFault line (get_or fields i d)
at_fault_in line fields i d inside all unfit = at_fault line (get_or fields i d) (all_at fields i d inside all) unfit

-- ---- two lists of fields

pub all_fit-append : (line : List ℕ) (before after : List Field) → all_fit line (before ++ after) ≡ (all_fit line before && all_fit line after)
unfolding all_fit
all_fit-append line before after = list_all-append (field_fits line) before after

pub first_unfit-append : (line : List ℕ) (before after : List Field) → first_unfit line (before ++ after) ≡ option_or (first_unfit line before) (first_unfit line after)
unfolding first_unfit
first_unfit-append line [] after = refl
first_unfit-append line (f ∷ before) after =
    elim (cases_Bool (field_fits line f)) [
      | inl fit ↦ rw fit (first_unfit-append line before after)
      | inr unfit ↦ rw unfit refl
    ]

either_way : (a b c : Option Field) → option_or (option_or a b) c ≡ option_or a (option_or b c)
either_way None b c = refl
either_way (Some f) b c = refl

-- two lists of fields
pub first_of_two : (line : List ℕ) (a b : List Field) → option_or (first_unfit line a) (first_unfit line b) ≡ first_unfit line (a ++ b)
first_of_two line a b = sym (first_unfit-append line a b)

pub none_of_two : (line : List ℕ) (a b : List Field) (x y : Option Field) → IfNone x (all_fit line a ≡ true) → IfNone y (all_fit line b ≡ true) → IfNone (option_or x y) (all_fit line (a ++ b) ≡ true)
none_of_two line a b (Some f) y in_a in_b = tt
none_of_two line a b None (Some f) in_a in_b = tt
none_of_two line a b None None in_a in_b = all_fit-append line a b ∙ rw (in_a, in_b) refl

-- three lists of fields
pub first_of_three : (line : List ℕ) (a b c : List Field) → option_or (option_or (first_unfit line a) (first_unfit line b)) (first_unfit line c) ≡ first_unfit line (a ++ (b ++ c))
first_of_three line a b c =
    rw (first_unfit-append line a (b ++ c), first_unfit-append line b c) (either_way (first_unfit line a) (first_unfit line b) (first_unfit line c))

all_of_three : (line : List ℕ) (a b c : List Field) → all_fit line (a ++ (b ++ c)) ≡ (all_fit line a && (all_fit line b && all_fit line c))
all_of_three line a b c = rw (all_fit-append line a (b ++ c), all_fit-append line b c) refl

pub none_of_three : (line : List ℕ) (a b c : List Field) (x y z : Option Field) → IfNone x (all_fit line a ≡ true) → IfNone y (all_fit line b ≡ true) → IfNone z (all_fit line c ≡ true) → IfNone (option_or (option_or x y) z) (all_fit line (a ++ (b ++ c)) ≡ true)
none_of_three line a b c (Some f) y z in_a in_b in_c = tt
none_of_three line a b c None (Some f) z in_a in_b in_c = tt
none_of_three line a b c None None (Some f) in_a in_b in_c = tt
none_of_three line a b c None None None in_a in_b in_c = all_of_three line a b c ∙ rw (in_a, in_b, in_c) refl

-- where a field is found, it is not in its form, and so not all are
abbrev pub IsFoundIn : List ℕ → List Field → Option Field → Type 0
IsFoundIn line fields found = IfSome found (λ f. IsAtFault line f × (all_fit line fields ≡ false))

pub some_of_two : (line : List ℕ) (a b : List Field) (x y : Option Field) → IfNone x (all_fit line a ≡ true) → IsFoundIn line a x → IsFoundIn line b y → IsFoundIn line (a ++ b) (option_or x y)
some_of_two line a b (Some f) y no_a in_a in_b = (in_a.0, all_fit-append line a b ∙ rw (in_a.1) refl)
some_of_two line a b None (Some f) no_a in_a in_b = (in_b.0, all_fit-append line a b ∙ rw (no_a, in_b.1) refl)
some_of_two line a b None None no_a in_a in_b = tt

pub some_of_three : (line : List ℕ) (a b c : List Field) (x y z : Option Field) → IfNone x (all_fit line a ≡ true) → IfNone y (all_fit line b ≡ true) → IsFoundIn line a x → IsFoundIn line b y → IsFoundIn line c z → IsFoundIn line (a ++ (b ++ c)) (option_or (option_or x y) z)
some_of_three line a b c (Some f) y z no_a no_b in_a in_b in_c =
    (in_a.0, all_of_three line a b c ∙ rw (in_a.1) refl)
some_of_three line a b c None (Some f) z no_a no_b in_a in_b in_c =
    (in_b.0, all_of_three line a b c ∙ rw (no_a, in_b.1) refl)
some_of_three line a b c None None (Some f) no_a no_b in_a in_b in_c =
    (in_c.0, all_of_three line a b c ∙ rw (no_a, no_b, in_c.1) refl)
some_of_three line a b c None None None no_a no_b in_a in_b in_c = tt

-- no fields
pub no_fields : (line : List ℕ) → first_unfit line [] ≡ None
unfolding first_unfit
no_fields line = refl
