-- The words of a memo, and what they read as.
use Rattle.std.proofs.Common.{◌&&◌, ◌∙◌, ◌≡◌, ap, codes, false, inl, inr, List, nat_cmp, None, Option, refl, Some, subst, sym, true, ℕ, [], ◌∷◌, ◌++◌, flat_map}
use Rattle.std.proofs.lemmas.Bool.{and_parts, cases_Bool}
use Rattle.std.specs.List.{concat}
use Rattle.std.specs.Cmp.{Equal-is}
use Rattle.std.specs.Prelude.{if◌then◌else◌, IfSome}
use Rattle.std.proofs.lemmas.Map.Text.{is_eq-slice_cmp}
use Rattle.std.specs.FinMap.{nat_cmp-IsAntisymmetric, slice_cmp-IsAntisymmetric}
use Rattle.std.specs.Cmp.Lexicographic.{slice_cmp}
use Rattle.std.specs.Str.{IsUtf8, bytes_eq}
use Rattle.sqlite_value.specs.declared.value.Value.TheVariants.{Blob, Int, Null, Real, Text}
use Rattle.sqlite_value.specs.declared.value.Value.{Value}
use Rattle.bsp_rows.specs.Memos.{amount_fits, billing_fits, is_amount, is_memo, kind_fits}
use Rattle.bsp_rows.specs.MemoFields.{MemoFields}
use Rattle.bsp_rows.specs.MemoKind.{MemoKind}
use Rattle.bsp_rows.specs.MemoKind.TheVariants.{Debit, Credit}
use Rattle.bsp_rows.specs.MemoState.{MemoState}
use Rattle.bsp_rows.specs.MemoState.TheVariants.{Open, Agreed, Disputed, Upheld, Reduced, Withdrawn}
use Rattle.bsp_rows.specs.Texts.{kind_reading, kind_text, state_reading, state_text}
use Rattle.std.proofs.Common.{ℤ, pos, negsuc, int_le}
use Rattle.std.proofs.lemmas.Bool.{leb-true}
use Rattle.bsp_rows.specs.Stored.{IsStoredAmount}
use Rattle.bsp_store_columns.specs.Reading.{kind_in, state_in}

same_word : (text word : List ℕ) → bytes_eq text word ≡ true → text ≡ word
same_word text word is = slice_cmp-IsAntisymmetric nat_cmp-IsAntisymmetric text word ((Equal-is (slice_cmp nat_cmp text word)).0 (is_eq-slice_cmp text word ∙ is))

-- a text that is no UTF-8 is no word
other_word : (text word : List ℕ) → IsUtf8 word → (IsUtf8 text → ⊥) → bytes_eq text word ≡ false
other_word text word fine bad = elim (cases_Bool (bytes_eq text word)) [
  | inl is ↦ absurd (bad (subst IsUtf8 (sym (same_word text word is)) fine))
  | inr other ↦ other
]

module _ {A : Type 0} (Says : A → Type 0) (text : List ℕ) where
  -- what is read of a word is said by it, and by what else is read
  word_or : (word : List ℕ) (read : A) (other : Option A) → (text ≡ word → Says read) → IfSome other Says → IfSome (if bytes_eq text word then Some read else other) Says
  word_or word read other says others = elim (cases_Bool (bytes_eq text word)) [
    | inl is ↦ rw is (says (same_word text word is))
    | inr not ↦ rw not others
  ]

-- ---- kinds

pub kind_read : (v : Value) → IfSome (kind_in v) (λ kind. v ≡ Text (kind_text kind))
kind_read (Text text) = let or = word_or (λ kind. Text text ≡ Text (kind_text kind)) text in or _ Debit _ (ap Text) (or _ Credit _ (ap Text) tt)
kind_read Null = tt
kind_read (Int number) = tt
kind_read (Real number) = tt
kind_read (Blob bytes) = tt

kind_word : (kind : MemoKind) → kind_reading (kind_text kind) ≡ Some kind
kind_word Debit = refl
kind_word Credit = refl

pub kind_back : (v : Value) (kind : MemoKind) → v ≡ Text (kind_text kind) → kind_in v ≡ Some kind
kind_back v kind is = ap kind_in is ∙ kind_word kind

pub no_kind : (text : List ℕ) → (IsUtf8 text → ⊥) → kind_reading text ≡ None
unfolding lib.Utf8.encode
no_kind text bad = rw (other_word text (codes "ADMA") (codes "ADMA", (refl, refl)) bad, other_word text (codes "ACMA") (codes "ACMA", (refl, refl)) bad) refl

-- ---- states

pub state_read : (v : Value) → IfSome (state_in v) (λ state. v ≡ Text (state_text state))
state_read (Text text) =
    let or = word_or (λ state. Text text ≡ Text (state_text state)) text in
    or _ Open _ (ap Text) (or _ Agreed _ (ap Text) (or _ Disputed _ (ap Text) (or _ Upheld _ (ap Text) (or _ Reduced _ (ap Text) (or _ Withdrawn _ (ap Text) tt)))))
state_read Null = tt
state_read (Int number) = tt
state_read (Real number) = tt
state_read (Blob bytes) = tt

state_word : (state : MemoState) → state_reading (state_text state) ≡ Some state
state_word Open = refl
state_word Agreed = refl
state_word Disputed = refl
state_word Upheld = refl
state_word Reduced = refl
state_word Withdrawn = refl

pub state_back : (v : Value) (state : MemoState) → v ≡ Text (state_text state) → state_in v ≡ Some state
state_back v state is = ap state_in is ∙ state_word state

pub no_state : (text : List ℕ) → (IsUtf8 text → ⊥) → state_reading text ≡ None
unfolding lib.Utf8.encode
no_state text bad = rw (
  other_word text (codes "open") (codes "open", (refl, refl)) bad,
  other_word text (codes "agreed") (codes "agreed", (refl, refl)) bad,
  other_word text (codes "disputed") (codes "disputed", (refl, refl)) bad,
  other_word text (codes "upheld") (codes "upheld", (refl, refl)) bad,
  other_word text (codes "reduced") (codes "reduced", (refl, refl)) bad,
  other_word text (codes "withdrawn") (codes "withdrawn", (refl, refl)) bad,
) refl

-- ---- amounts

stored_amount : (n : ℤ) → is_amount n ≡ true → IsStoredAmount n
stored_amount (pos n) fits = record { size = leb-true n 99_999_999_999 (and_parts (int_le (pos 1) (pos n)) (int_le (pos n) (pos 99999999999)) fits).1 }
stored_amount (negsuc n) fits = absurd (cc fits)

-- the amounts of a memo are amounts
pub amounts_fit : (m : MemoFields) → is_memo m ≡ true → IsStoredAmount m.amount × IsStoredAmount m.issued_amount
amounts_fit m fits =
    let amounts = (and_parts (amount_fits m) (kind_fits m && billing_fits m) fits).0 in
    let two : (is_amount m.amount && is_amount m.issued_amount) ≡ true = (and_parts (is_amount m.amount && is_amount m.issued_amount) _ amounts).0 in
    let each = and_parts (is_amount m.amount) (is_amount m.issued_amount) two in
    (stored_amount m.amount each.0, stored_amount m.issued_amount each.1)

-- ---- texts one after another

pub flat_concat : (xs : List (List ℕ)) → flat_map (λ x. x) xs ≡ concat xs
flat_concat [] = refl
flat_concat (x ∷ xs) = ap (λ l. x ++ l) (flat_concat xs)
