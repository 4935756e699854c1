-- One more record: how the lines stand with it, and what is read of it.
use Rattle.std.proofs.Common.{◌≡◌, ℕ, ◌+◌, ◌==◌, ℤ, ◌+ℤ◌, Bool, true, false, cond, ◌||◌, List, [], ◌∷◌, ◌++◌, length, filter, count_by, Option, Some, None, is_some, Ok, Err, refl, sym, ap, ◌∙◌, inl, inr, arith, add-zero, length-append, eqb-true, append-nil}
use Rattle.std.proofs.Math.Bool.{or-true, or-false}
use Rattle.std.proofs.Math.IntN.{+ℤ_assoc, +ℤ_idl, +ℤ_idr}
use Rattle.std.proofs.lemmas.Bool.{cases_Bool, and_parts}
use Rattle.std.proofs.lemmas.List.Elements.{filter-append}
use Rattle.std.proofs.lemmas.List.Folds.{list_any-append}
use Rattle.std.proofs.lemmas.List.Sums.{sum_by-append}
use Rattle.std.specs.List.{last_or, list_any}
use Rattle.std.specs.Prelude.{unwrap_or}
use Rattle.bsp_ret_records.specs.declared.codes.FormOfPayment.{FormOfPayment}
use Rattle.bsp_ret_records.specs.declared.codes.Profile.{Profile}
use Rattle.bsp_ret_records.specs.declared.codes.Profile.TheVariants.{P001}
use Rattle.bsp_ret_records.specs.declared.codes.TransactionCode.{TransactionCode}
use Rattle.bsp_ret_records.specs.declared.codes.TransactionCode.TheVariants.{Tktt}
use Rattle.bsp_ret.specs.declared.model.LastRecord.{LastRecord}
use Rattle.bsp_ret.specs.declared.model.LastRecord.TheVariants as last
use Rattle.bsp_ret.specs.declared.model.FaultCode.TheVariants.{F08}
use Rattle.bsp_ret.specs.declared.model.Standing.{Standing}
use Rattle.bsp_fields.specs.Columns.{identifier}
use Rattle.bsp_ret_records.specs.Records.{is_header, profile_of, code_of, related_order, form_of}
use Rattle.bsp_ret.specs.Said.{record_in}
use Rattle.bsp_ret.specs.Table.{is_sale, is_related, is_head, paid, total_paid, code_or, profile_or, behind_sale, only_order, kind, standing, has_ended, row_fault}
use Rattle.bsp_ret.specs.Standings.{only_with, standing_behind}
use Rattle.bsp_ret.specs.Reading.{Draft, with_group, add, or_read, read_from}
use Rattle.bsp_ret.proofs.Rows.{Clean, no_row}

-- ---- the lines that stand, with one more

last_or_snoc : {A : Type 0} (o : Option A) (xs : List A) (x : A) → last_or o (xs ++ x ∷ []) ≡ Some x
last_or_snoc o [] x = refl
last_or_snoc o (y ∷ xs) x = last_or_snoc (Some y) xs x

count_by_snoc : {A : Type 0} (p : A → Bool) (xs : List A) (x : A) → count_by p (xs ++ x ∷ []) ≡ count_by p xs + cond (p x) 1 0
count_by_snoc p xs x = sum_by-append (λ y. cond (p y) 1 0) xs (x ∷ []) ∙ omega arith

pub total_paid_snoc : (before : List (List ℕ)) (line : List ℕ) → total_paid (before ++ line ∷ []) ≡ total_paid before +ℤ paid line
total_paid_snoc [] line = +ℤ_idr (paid line) ∙ sym (+ℤ_idl (paid line))
total_paid_snoc (first ∷ before) line = ap (λ (x : ℤ). paid first +ℤ x) (total_paid_snoc before line) ∙ sym (+ℤ_assoc (paid first) (total_paid before) (paid line))

-- what is said of the last element that passes a test
last_such_snoc : {A B : Type 0} (says : Option A → B) (test : A → Bool) (before : List A) (x : A) → says (last_or None (filter test (before ++ x ∷ []))) ≡ cond (test x) (says (Some x)) (says (last_or None (filter test before)))
last_such_snoc says test before x =
    let joined = filter-append test before (x ∷ []) in
    elim (cases_Bool (test x)) [
      | inl k ↦ rw (joined, k, last_or_snoc None (filter test before) x) refl
      | inr k ↦ rw (joined, k) (ap (λ xs. says (last_or None xs)) (append-nil (filter test before)))
    ]

-- behind a record 2 nothing stands
behind_sale_none : (before : List (List ℕ)) (line : List ℕ) → is_sale line ≡ true → behind_sale (before ++ line ∷ []) ≡ []
behind_sale_none [] line k = rw k refl
behind_sale_none (first ∷ before) line k =
    let e : list_any is_sale (before ++ line ∷ []) ≡ true = list_any-append is_sale before (line ∷ []) ∙ rw k (or-true (list_any is_sale before)) in
    rw e (behind_sale_none before line k)

-- another record stands behind the same record 2
behind_sale_more : (before : List (List ℕ)) (line : List ℕ) → is_sale line ≡ false → behind_sale (before ++ line ∷ []) ≡ behind_sale before ++ line ∷ []
behind_sale_more [] line k = rw k refl
behind_sale_more (first ∷ before) line k =
    let e : list_any is_sale (before ++ line ∷ []) ≡ list_any is_sale before = list_any-append is_sale before (line ∷ []) ∙ rw k (or-false (list_any is_sale before)) in
    elim (cases_Bool (list_any is_sale before)) [
      | inl some ↦ rw (e, some) (behind_sale_more before line k)
      | inr none ↦ rw (e, none) (elim (is_sale first) as (λ b. cond b (before ++ line ∷ []) (first ∷ before ++ line ∷ []) ≡ cond b before (first ∷ before) ++ line ∷ []) [ true ↦ refl | false ↦ refl ])
    ]

related_snoc : (before : List (List ℕ)) (line : List ℕ) → list_any is_related (behind_sale (before ++ line ∷ [])) ≡ cond (is_sale line) false (list_any is_related (behind_sale before) || is_related line)
related_snoc before line =
    elim (cases_Bool (is_sale line)) [
      | inl k ↦ rw (k, behind_sale_none before line k) refl
      | inr k ↦ rw (k, behind_sale_more before line k, list_any-append is_related (behind_sale before) (line ∷ []), or-false (is_related line)) refl
    ]

-- another record 3, or the first
not_only : (first : List ℕ) (lines : List (List ℕ)) (line : List ℕ) → only_order (first ∷ (lines ++ line ∷ [])) ≡ None
not_only first [] line = refl
not_only first (second ∷ lines) line = refl

only_pushed : (lines : List (List ℕ)) (line : List ℕ) → only_order (filter is_related lines ++ line ∷ []) ≡ only_with (list_any is_related lines) (related_order line)
only_pushed [] line = refl
only_pushed (first ∷ lines) line =
    elim (cases_Bool (is_related first)) [
      | inl k ↦ rw k (not_only first (filter is_related lines) line)
      | inr k ↦ rw k (only_pushed lines line)
    ]

only_snoc : (before : List (List ℕ)) (line : List ℕ) → only_order (filter is_related (behind_sale (before ++ line ∷ [])))
    ≡ cond (is_sale line) None (cond (is_related line) (only_with (list_any is_related (behind_sale before)) (related_order line)) (only_order (filter is_related (behind_sale before))))
only_snoc before line =
    let joined = filter-append is_related (behind_sale before) (line ∷ []) in
    elim (cases_Bool (is_sale line)) [
      | inl k ↦ rw (k, behind_sale_none before line k) refl
      | inr k ↦ elim (cases_Bool (is_related line)) [
        | inl r ↦ rw (k, behind_sale_more before line k, joined, r) (only_pushed (behind_sale before) line)
        | inr r ↦ rw (k, behind_sale_more before line k, joined, r) (ap only_order (append-nil (filter is_related (behind_sale before))))
      ]
    ]

-- how records stand with one more, part by part
stands_with : (at : Standing) (line : List ℕ) → standing_behind at line ≡ record {
  records = at.records + 1;
  transactions = at.transactions + cond (is_sale line) 1 0;
  sum = at.sum +ℤ paid line;
  code = cond (is_sale line) (code_or Tktt (Some line)) at.code;
  profile = cond (is_head line) (profile_or P001 (Some line)) at.profile;
  related = cond (is_sale line) false (at.related || is_related line);
  only = cond (is_sale line) None (cond (is_related line) (only_with at.related (related_order line)) at.only);
  last = kind (record_in line);
}
unfolding record_in
stands_with at line =
    elim (cases_Bool (identifier line == 50)) [
      | inl k ↦ let name = eqb-true _ _ k in rw (name, +ℤ_idr at.sum) refl
      | inr k ↦ elim (cases_Bool (identifier line == 51)) [
        | inl r ↦ let name = eqb-true _ _ r in rw (name, +ℤ_idr at.sum, add-zero at.transactions, or-true at.related) refl
        | inr r ↦ elim (cases_Bool (identifier line == 53)) [
          | inl m ↦ let name = eqb-true _ _ m in rw (name, +ℤ_idr at.sum, add-zero at.transactions, or-false at.related) refl
          | inr m ↦ elim (cases_Bool (identifier line == 56)) [
            | inl n ↦ let name = eqb-true _ _ n in rw (name, add-zero at.transactions, or-false at.related) refl
            | inr n ↦ elim (cases_Bool (identifier line == 90)) [
              | inl z ↦ let name = eqb-true _ _ z in rw (name, +ℤ_idr at.sum, add-zero at.transactions, or-false at.related) refl
              | inr z ↦ rw (k, r, m, n, z, +ℤ_idr at.sum, add-zero at.transactions, or-false at.related) refl
            ]
          ]
        ]
      ]
    ]

-- how lines stand with one more depends on how they stand and the line
pub standing_snoc : (before : List (List ℕ)) (line : List ℕ) → standing (before ++ line ∷ []) ≡ standing_behind (standing before) line
standing_snoc before line =
    let count : length (before ++ line ∷ []) ≡ length before + 1 = length-append before (line ∷ []) in
    rw (count, count_by_snoc is_sale before line, total_paid_snoc before line, last_such_snoc (code_or Tktt) is_sale before line, last_such_snoc (profile_or P001) is_head before line, related_snoc before line, only_snoc before line, last_or_snoc None before line) (sym (stands_with (standing before) line))

-- ---- what stands behind each kind of record

-- this many transactions stand, with this code, profile, record 3 and last record
pub record Stands (at : Standing) (count : ℕ) (code : TransactionCode) (profile : Profile) (related : Bool) (latest : LastRecord) : Type 0 where
  pub transactions_are : at.transactions ≡ count
  pub code_is : at.code ≡ code
  pub profile_is : at.profile ≡ profile
  pub related_is : at.related ≡ related
  pub last_is : at.last ≡ latest

-- a header begins with 1
pub begins_49 : (line : List ℕ) → is_header line ≡ true → identifier line ≡ 49
unfolding is_header
begins_49 line h = eqb-true _ _ (and_parts (identifier line == 49) _ h).0

-- and its profile is one of the two
of_profile : (o : Option Profile) → is_some o ≡ true → o ≡ Some (unwrap_or o P001)
of_profile None some = absurd (cc some)
of_profile (Some profile) some = refl

pub has_profile : (line : List ℕ) → is_header line ≡ true → profile_of line ≡ Some (unwrap_or (profile_of line) P001)
unfolding is_header
has_profile line h = of_profile (profile_of line) (and_parts _ (is_some (profile_of line)) h).1

pub after_header : (at : Standing) (line : List ℕ) (n : ℕ) (code : TransactionCode) (profile : Profile) (b : Bool) (l : LastRecord) → Stands at n code profile b l → identifier line ≡ 49 → Stands (standing_behind at line) n code (unwrap_or (profile_of line) P001) b last.Header
unfolding record_in
after_header at line n code profile b l s k = record {
  transactions_are = rw k s.transactions_are;
  code_is = rw k s.code_is;
  profile_is = rw k refl;
  related_is = rw k s.related_is;
  last_is = rw k refl;
}

pub after_sale : (at : Standing) (line : List ℕ) (n : ℕ) (before code : TransactionCode) (profile : Profile) (b : Bool) (l : LastRecord) → Stands at n before profile b l → identifier line ≡ 50 → code_of line ≡ Some code
    → Stands (standing_behind at line) (n + 1) code profile false last.Sale
unfolding record_in
after_sale at line n before code profile b l s k e = record {
  transactions_are = rw k (ap (λ (x : ℕ). x + 1) s.transactions_are);
  code_is = rw (k, e) refl;
  profile_is = rw k s.profile_is;
  related_is = rw k refl;
  last_is = rw k refl;
}

pub after_related : (at : Standing) (line : List ℕ) (n : ℕ) (code : TransactionCode) (profile : Profile) (b : Bool) (l : LastRecord) → Stands at n code profile b l → identifier line ≡ 51 → Stands (standing_behind at line) n code profile true last.Related
unfolding record_in
after_related at line n code profile b l s k = record {
  transactions_are = rw k s.transactions_are;
  code_is = rw k s.code_is;
  profile_is = rw k s.profile_is;
  related_is = rw k refl;
  last_is = rw k refl;
}

pub after_amounts : (at : Standing) (line : List ℕ) (n : ℕ) (code : TransactionCode) (profile : Profile) (b : Bool) (l : LastRecord) → Stands at n code profile b l → identifier line ≡ 53 → Stands (standing_behind at line) n code profile b last.Amounts
unfolding record_in
after_amounts at line n code profile b l s k = record {
  transactions_are = rw k s.transactions_are;
  code_is = rw k s.code_is;
  profile_is = rw k s.profile_is;
  related_is = rw k s.related_is;
  last_is = rw k refl;
}

pub after_form : (at : Standing) (line : List ℕ) (n : ℕ) (code : TransactionCode) (profile : Profile) (b : Bool) (l : LastRecord) (kind : FormOfPayment) → Stands at n code profile b l → identifier line ≡ 56 → form_of line ≡ Some kind
    → Stands (standing_behind at line) n code profile b (last.Form kind)
unfolding record_in
after_form at line n code profile b l kind s k e = record {
  transactions_are = rw k s.transactions_are;
  code_is = rw k s.code_is;
  profile_is = rw k s.profile_is;
  related_is = rw k s.related_is;
  last_is = rw (k, e) refl;
}

-- by what the record 3 is in order that is alone
pub only_behind_sale : (at : Standing) (line : List ℕ) → identifier line ≡ 50 → (standing_behind at line).only ≡ None
unfolding record_in
only_behind_sale at line k = rw k refl

pub only_behind_related : (at : Standing) (line : List ℕ) → identifier line ≡ 51 → (standing_behind at line).only ≡ only_with at.related (related_order line)
unfolding record_in
only_behind_related at line k = rw k refl

pub after_trailer : (at : Standing) (line : List ℕ) → identifier line ≡ 90 → (standing_behind at line).last ≡ last.Trailer
unfolding record_in
after_trailer at line k = rw k refl

-- ---- what is read

pub read_nil : (at : Standing) (d : Draft) → read_from at d [] ≡ cond (has_ended at.last) (Ok (record { header = d.header; groups = d.closed; trailer = d.trailer })) (Err (record { code = F08; at = at.records + 1 }))
unfolding read_from
read_nil at d = refl

pub read_cons : (at : Standing) (d : Draft) (line : List ℕ) (rest : List (List ℕ)) → read_from at d (line ∷ rest) ≡ or_read (row_fault at line) (at.records + 1) (read_from (standing_behind at line) (add d line) rest)
unfolding read_from
read_cons at d line rest = refl

-- a record without fault is passed
pub next : (at : Standing) (d : Draft) (line : List ℕ) (rest : List (List ℕ)) → Clean at line → read_from at d (line ∷ rest) ≡ read_from (standing_behind at line) (add d line) rest
next at d line rest h = read_cons at d line rest ∙ rw (no_row at line h) refl

-- a draft of these parts
abbrev pub draft : List ℕ → List (List (List ℕ)) → List (List ℕ) → List ℕ → Draft
draft header closed latest trailer = record { header = header; closed = closed; latest = latest; trailer = trailer }

pub add_header : (d : Draft) (line : List ℕ) → identifier line ≡ 49 → add d line ≡ draft line d.closed [] d.trailer
unfolding record_in
add_header d line k = rw k refl

pub add_sale : (d : Draft) (line : List ℕ) → identifier line ≡ 50 → add d line ≡ draft d.header (with_group d.closed d.latest) (line ∷ []) d.trailer
unfolding record_in
add_sale d line k = rw k refl

pub add_trailer : (d : Draft) (line : List ℕ) → identifier line ≡ 90 → add d line ≡ draft d.header (with_group d.closed d.latest) [] line
unfolding record_in
add_trailer d line k = rw k refl

-- a further record of a group: 3, 5 or 8
abbrev pub is_further : ℕ → Bool
is_further letter = (letter == 51) || ((letter == 53) || (letter == 56))

pub add_more : (d : Draft) (line : List ℕ) (letter : ℕ) → identifier line ≡ letter → is_further letter ≡ true → add d line ≡ draft d.header d.closed (d.latest ++ line ∷ []) d.trailer
unfolding record_in
add_more d line letter k further =
    elim (cases_Bool (letter == 51)) [
      | inl a ↦ let name = k ∙ eqb-true _ _ a in rw name refl
      | inr a ↦ elim (cases_Bool (letter == 53)) [
        | inl b ↦ let name = k ∙ eqb-true _ _ b in rw name refl
        | inr b ↦ let name = k ∙ eqb-true _ _ (rw (a, b) at further) in rw name refl
      ]
    ]
