-- The keys of a table and the items of an array, beside the data that they stand for.
use Rattle.std.proofs.Common.{◌≡◌, ◌∙◌, ℕ, zero, suc, ◌+◌, ◌<◌, Bool, true, false, cond, ◌||◌, List, [], ◌∷◌, ◌++◌, length, map, take, get_or, Option, Some, None, option_map, String, Global, string_bytes, refl, sym, ap, arith}
use Rattle.std.specs.Prelude.{Err, codes, option_and_then}
use Rattle.std.specs.List.{list_all, list_any}
use Rattle.std.specs.Map.{keys_of}
use Rattle.std.specs.Option.{ok_or}
use Rattle.std.specs.Str.{IsUtf8, is_utf8}
use Rattle.std.proofs.lemmas.List.Folds.{list_all-map}
use Rattle.std.proofs.lemmas.Str.{IsUtf8-from_is_utf8, is_utf8-from_IsUtf8}
use Rattle.toml.specs.Data.{Data, Members, get_member}
use Rattle.toml.specs.Parse.{parse_document}
use Rattle.toml.specs.View.{items_view, members_view, view}
use Rattle.toml.specs.declared.value.Value.{Value}
use Rattle.bsp_calendar.specs.PlanDocument.{Reads, airline_of, document_of, each, has_only, keys_in, listed, period_of, plan_in, plan_keys, rate_of, tax_of, terms_in}
use Rattle.bsp_calendar.specs.declared.fault.PlanFault.{PlanFault}
use Rattle.bsp_calendar.specs.declared.fault.PlanFault.TheVariants.{NoMemory, WrongKey}

-- ---- texts

pub document-some : (b : List ℕ) (ms : Members) → IsUtf8 b → parse_document b ≡ Some ms → document_of b ≡ Some ms
document-some b ms u e = rw (is_utf8-from_IsUtf8 b u) e

pub document-none : (b : List ℕ) → (IsUtf8 b → parse_document b ≡ None) → document_of b ≡ None
document-none b h = go (is_utf8 b) refl
  where
    go : (t : Bool) → is_utf8 b ≡ t → document_of b ≡ None
    go true e = rw e (h (IsUtf8-from_is_utf8 b e))
    go false e = rw e refl

-- ---- keys

pub list_any-map : {X Y : Type 0} (test : X → Bool) (h : Y → X) (ys : List Y) → list_any test (map h ys) ≡ list_any (λ y. test (h y)) ys
list_any-map test h [] = refl
list_any-map test h (y ∷ ys) = ap (λ rest. test (h y) || rest) (list_any-map test h ys)

keys_in-view : (es : List (String Global × Value)) → keys_in (members_view es) ≡ map string_bytes (keys_of es)
keys_in-view [] = refl
keys_in-view (e ∷ es) = ap (λ ks. string_bytes e.0 ∷ ks) (keys_in-view es)

pub all_keys : (test : List ℕ → Bool) (es : List (String Global × Value)) → list_all (λ k. test (string_bytes k)) (keys_of es) ≡ list_all test (keys_in (members_view es))
all_keys test es = sym (list_all-map test string_bytes (keys_of es)) ∙ ap (list_all test) (sym (keys_in-view es))

-- ---- items

module _ {A : Type 0} (form : Data → Option A) where
  abbrev on_front : Option A → Option (List A) → Option (List A)
  on_front o rest = option_and_then (λ x. option_map (λ xs. x ∷ xs) rest) o

  grows : (o : Option A) (rest more : Option (List A)) (x : A) (xs : List A) → on_front o rest ≡ Some xs → ((ys : List A) → rest ≡ Some ys → more ≡ Some (ys ++ x ∷ []))
      → on_front o more ≡ Some (xs ++ x ∷ [])
  grows None rest more x xs e f = cc
  grows (Some y) None more x xs e f = cc
  grows (Some y) (Some ys) more x xs e f =
      let same : y ∷ ys ≡ xs = cc in
      rw (f ys refl) (ap (λ zs. Some (zs ++ x ∷ [])) same)

  -- one more item in the form
  each_more : (vs : List Value) (i : ℕ) (d : Value) (xs : List A) (x : A) → i < length vs → each form (items_view (take i vs)) ≡ Some xs → form (view (get_or vs i d)) ≡ Some x
      → each form (items_view (take (suc i) vs)) ≡ Some (xs ++ x ∷ [])
  each_more [] i d xs x h so_far here = absurd (omega arith)
  each_more (v ∷ vs) zero d [] x h so_far here = rw here
  each_more (v ∷ vs) zero d (y ∷ xs) x h so_far here = cc
  each_more (v ∷ vs) (suc i) d xs x h so_far here =
      grows (form (view v)) (each form (items_view (take i vs))) _ x xs so_far (λ ys e. each_more vs i d ys x (omega arith) e here)

  -- an item that is not
  each_none : (vs : List Value) (i : ℕ) (d : Value) → i < length vs → form (view (get_or vs i d)) ≡ None → each form (items_view vs) ≡ None
  each_none [] i d h here = absurd (omega arith)
  each_none (v ∷ vs) zero d h here = rw here
  each_none (v ∷ vs) (suc i) d h here = rw (each_none vs i d (omega arith) here) (dead (form (view v)))
    where
      dead : (o : Option A) → on_front o None ≡ None
      dead None = refl
      dead (Some x) = refl

  -- the same of an item read in a loop, from a list that is the array's
  pub each_none_at : (xs vs : List Value) (i : ℕ) (v : Value) → xs ≡ vs → i < length xs → v ≡ get_or xs i v → None ≡ form (view v) → each form (items_view vs) ≡ None
  each_none_at xs vs i v same h is none =
      ap (λ ys. each form (items_view ys)) (sym same) ∙ each_none xs i v h (ap (λ w. form (view w)) (sym is) ∙ sym none)

  pub each_more_at : (xs vs : List Value) (i : ℕ) (v : Value) (out new : List A) (x : A) → xs ≡ vs → i < length xs → v ≡ get_or xs i v → Some x ≡ form (view v) → new ≡ out ++ x ∷ []
      → each form (items_view (take i vs)) ≡ Some out → each form (items_view (take (i + 1) vs)) ≡ Some new
  each_more_at xs vs i v out new x same h is some grown so_far =
      let next : i + 1 ≡ suc i = omega arith in
      let before : each form (items_view (take i xs)) ≡ Some out = ap (λ ys. each form (items_view (take i ys))) same ∙ so_far in
      ap (λ k. each form (items_view (take k vs))) next ∙ ap (λ ys. each form (items_view (take (suc i) ys))) (sym same)
      ∙ each_more xs i v out x h before (ap (λ w. form (view w)) (sym is) ∙ sym some) ∙ ap (λ zs. Some zs) (sym grown)

-- ---- the plan of a document

and_then_none : {A B : Type 0} (o : Option A) (f : A → Option B) → ((x : A) → f x ≡ None) → option_and_then f o ≡ None
and_then_none None f h = refl
and_then_none (Some x) f h = h x

cond_none : {A : Type 0} (b : Bool) (o : Option A) → o ≡ None → cond b o None ≡ None
cond_none true o h = h
cond_none false o h = refl

-- where a list is none of such entries
module _ (members : Members) where
  pub no_airlines : listed airline_of (get_member (codes "airline") members) ≡ None → plan_in members ≡ None
  no_airlines none = cond_none (has_only plan_keys members) _ (and_then_none (terms_in members) _ (λ terms. rw none refl))

  pub no_rates : listed rate_of (get_member (codes "rate") members) ≡ None → plan_in members ≡ None
  no_rates none =
      cond_none (has_only plan_keys members) _
      (and_then_none (terms_in members) _
      (λ terms. and_then_none (listed airline_of (get_member (codes "airline") members)) _ (λ airlines. rw none refl)))

  pub no_periods : listed period_of (get_member (codes "period") members) ≡ None → plan_in members ≡ None
  no_periods none =
      cond_none (has_only plan_keys members) _
      (and_then_none (terms_in members) _
      (λ terms. and_then_none (listed airline_of (get_member (codes "airline") members)) _
      (λ airlines. and_then_none (listed rate_of (get_member (codes "rate") members)) _ (λ rates. rw none refl))))

  pub no_taxes : listed tax_of (get_member (codes "commission_tax") members) ≡ None → plan_in members ≡ None
  no_taxes none =
      cond_none (has_only plan_keys members) _
      (and_then_none (terms_in members) _
      (λ terms. and_then_none (listed airline_of (get_member (codes "airline") members)) _
      (λ airlines. and_then_none (listed rate_of (get_member (codes "rate") members)) _
      (λ rates. and_then_none (listed period_of (get_member (codes "period") members)) _ (λ periods. rw none refl)))))

wrong_key : {A B : Type 0} (x : Option A) (y : Option B) (fault : PlanFault) → ok_or x WrongKey ≡ Err fault → (x ≡ None → y ≡ None) → ok_or y WrongKey ≡ Err fault
wrong_key None y fault h pass = let e : WrongKey ≡ fault = cc in rw (pass refl) (ap (λ (f : PlanFault). Err f) e)
wrong_key (Some a) y fault h pass = absurd (cc h)

-- a fault that was read in a part is read in the whole
pub fault_passed : {A B R S : Type 0} (x : Option A) (y : Option B) (value : R → A) (other : S → B) (fault : PlanFault) → Reads (ok_or x WrongKey) value (Err fault) → (x ≡ None → y ≡ None) → Reads (ok_or y WrongKey) other (Err fault)
fault_passed x y value other NoMemory h pass = tt
fault_passed x y value other fault h pass = wrong_key x y fault h pass
