-- Values as columns make them, and as WHERE compares them.
use Rattle.bsp_store_base.proofs.Std.{[], ◌&&◌, ◌∙◌, ◌∷◌, ◌≡◌, ap, ap₂, Bool, cond, false, int_cmp, is_eq, List, nat_cmp, None, Option, refl, slice_cmp, Some, true, ℕ, ℤ}
use Rattle.bsp_store_base.specs.Sqlite.{Binary, Column, Compare, Eq, Int, Null, Text, Value, cast, cast_all, from_truth, is_true, or_null}
use Rattle.sqlite_value.proofs.OrderLemmas.{value_cmp-Text, value_cmp-Int}
use Rattle.sqlite_sql.specs.Ops.{binary, unary}
use Rattle.sqlite_schema.specs.declared.schema.Kind.TheVariants as kind

either : (b : Bool) (x : Value) → cond b x x ≡ x
either true x = refl
either false x = refl

pub cast_null : cast kind.Integer Null ≡ Null
unfolding unary
cast_null = either _ Null

pub cast_int : (n : ℤ) → cast kind.Integer (Int n) ≡ Int n
unfolding unary
cast_int n = either _ (Int n)

at_once : (b : Bool) → is_true (from_truth (Some b)) ≡ b
at_once true = refl
at_once false = refl

pub same_text : (a b : List ℕ) → is_true (binary (Compare Eq Binary) (Text a) (Text b)) ≡ is_eq (slice_cmp nat_cmp a b)
unfolding binary
same_text a b = at_once _ ∙ ap is_eq (value_cmp-Text a b)

pub same_int : (m n : ℤ) → is_true (binary (Compare Eq Binary) (Int m) (Int n)) ≡ is_eq (int_cmp m n)
unfolding binary
same_int m n = at_once _ ∙ ap is_eq (value_cmp-Int m n)

pub and_true : (b : Bool) → (b && true) ≡ b
and_true true = refl
and_true false = refl

-- each value is of its column's kind
abbrev pub AreOfKinds : List Column → List Value → Type 0
AreOfKinds [] [] = Unit {0}
AreOfKinds (c ∷ cs) (v ∷ vs) = (cast c.kind v ≡ v) × AreOfKinds cs vs
AreOfKinds [] (v ∷ vs) = ⊥
AreOfKinds (c ∷ cs) [] = ⊥

pub cast_same : (cs : List Column) (vs : List Value) → AreOfKinds cs vs → cast_all cs vs ≡ vs
cast_same [] [] h = refl
cast_same (c ∷ cs) (v ∷ vs) h = ap₂ ◌∷◌ h.0 (cast_same cs vs h.1)
cast_same [] (v ∷ vs) h = absurd h
cast_same (c ∷ cs) [] h = absurd h

pub cast_maybe_int : {X : Type 0} (f : X → ℤ) (o : Option X) → cast kind.Integer (or_null (λ x. Int (f x)) o) ≡ or_null (λ x. Int (f x)) o
cast_maybe_int f None = cast_null
cast_maybe_int f (Some x) = cast_int (f x)

pub cast_maybe_text : {X : Type 0} (f : X → List ℕ) (o : Option X) → cast kind.Text (or_null (λ x. Text (f x)) o) ≡ or_null (λ x. Text (f x)) o
cast_maybe_text f None = refl
cast_maybe_text f (Some x) = refl
