-- The form of a file as far as its records stand. BFH01 is the same in each form, and the form stays as it is behind it.
use Rattle.std.proofs.Common.{◌≡◌, ℕ, suc, ◌+◌, Bool, true, false, List, [], ◌∷◌, ◌++◌, length, Option, Some, ◌⊎◌, refl, sym, ap, subst, ◌∙◌, arith, inl, inr, length-append}
use Rattle.std.specs.Str.{bytes_eq}
use Rattle.std.proofs.lemmas.Option.{none-some}
use Rattle.bsp_fields.specs.Columns.{columns, is_wide}
use Rattle.bsp_fields.specs.Fields.{spells}
use Rattle.bsp_hot_records.specs.declared.form.FileForm.{FileForm}
use Rattle.bsp_hot_records.specs.declared.name.RecordName.{RecordName}
use Rattle.bsp_hot_records.specs.declared.name.RecordName.TheVariants.{Bfh01, Bch02, Boh03, Bkt06, Bks24, Bks30, Bks39, Bks42, Bks45, Bkp84, Bot93, Bot94, Bct95, Bft99}
use Rattle.bsp_hot_records.specs.declared.model.Heading.{Heading as JudgedHeading}
use Rattle.bsp_hot_records.specs.declared.model.PartOf.{PartOf}
use Rattle.bsp_hot_records.specs.declared.model.Record.{Record as JudgedRecord}
use Rattle.bsp_hot_records.specs.declared.model.Record.TheVariants as record_is
use Rattle.bsp_hot_check.specs.declared.model.Place.{Place}
use Rattle.bsp_hot_check.specs.declared.model.Place.TheVariants.{Start, InDocument}
use Rattle.bsp_hot_check.specs.declared.model.Standing.{Standing}
use Rattle.bsp_hot_records.specs.Records.{Heading, Record, file_header, period_header, office_header, transaction_header, document, part, code_totals, office_totals, period_totals, file_totals, letters, name_of, fields_fit, record_of, IsRecord, AreRecords}
use Rattle.bsp_hot_records.specs.Judged.{judged}
use Rattle.bsp_hot_check.specs.Standings.{allowed, form_at, is_at, part_step, step}
use Rattle.bsp_hot_check.proofs.Drafts.{Draft, nothing, headed, between, opened, begun, in_item, totalled, closed, ended, so_far, standing_of, Next}
use Rattle.bsp_hot_check.proofs.Chains.{Chain}

-- ---- BFH01 in another form

header_named : (form other : FileForm) (n : ℕ) (line : List ℕ) (h : Heading) (name : RecordName) → is_wide line ≡ true → spells n (columns 4 11 line) ≡ true → name_of (columns 12 13 line) ≡ Some name → bytes_eq (columns 1 3 line) (letters name) ≡ true
    → fields_fit form name line ≡ true → file_header h ≡ record_of form name line → IsRecord other n line (file_header h)
unfolding fields_fit record_of
header_named form other n line h Bfh01 wide sequence digits letters_are fields says = record {
  name = Bfh01;
  wide = wide;
  sequence = sequence;
  digits = digits;
  letters_are = letters_are;
  fields = fields;
  says = says;
}
header_named form other n line h Bch02 _ _ _ _ _ says = absurd cc
header_named form other n line h Boh03 _ _ _ _ _ says = absurd cc
header_named form other n line h Bkt06 _ _ _ _ _ says = absurd cc
header_named form other n line h Bks24 _ _ _ _ _ says = absurd cc
header_named form other n line h Bks30 _ _ _ _ _ says = absurd cc
header_named form other n line h Bks39 _ _ _ _ _ says = absurd cc
header_named form other n line h Bks42 _ _ _ _ _ says = absurd cc
header_named form other n line h Bks45 _ _ _ _ _ says = absurd cc
header_named form other n line h Bkp84 _ _ _ _ _ says = absurd cc
header_named form other n line h Bot93 _ _ _ _ _ says = absurd cc
header_named form other n line h Bot94 _ _ _ _ _ says = absurd cc
header_named form other n line h Bct95 _ _ _ _ _ says = absurd cc
header_named form other n line h Bft99 _ _ _ _ _ says = absurd cc

header_in : (form other : FileForm) (n : ℕ) (line : List ℕ) (h : Heading) → IsRecord form n line (file_header h) → IsRecord other n line (file_header h)
header_in form other n line h is = header_named form other n line h is.name is.wide is.sequence is.digits is.letters_are is.fields is.says

-- ---- the heading stays as it is

allowed_is : (test : Bool) (x y : Standing) → allowed test x ≡ Some y → x ≡ y
allowed_is true x y e = cc
allowed_is false x y e = absurd (none-some y e)

kept : (test : Bool) (at x next : Standing) → allowed test x ≡ Some next → x.heading ≡ at.heading → next.heading ≡ at.heading
kept test at x next e same = ap (λ (y : Standing). y.heading) (sym (allowed_is test x next e)) ∙ same

kept_by_part : (at next : Standing) (place : Place) (heading : Option JudgedHeading) (y : PartOf) → part_step at place heading y ≡ Some next → next.heading ≡ at.heading
kept_by_part at next (InDocument x) (Some h) y e = kept _ at _ next e refl
kept_by_part at next _ _ y e = absurd (none-some next e)

heading_kept : (at next : Standing) (r : JudgedRecord) → is_at Start at.place ≡ false → step at r ≡ Some next → next.heading ≡ at.heading
unfolding step
heading_kept at next (record_is.FileHeader h) later e = let none = rw later at e in absurd (cc none)
heading_kept at next (record_is.PeriodHeader period) later e = kept _ at _ next e refl
heading_kept at next (record_is.OfficeHeader o) later e = kept _ at _ next e refl
heading_kept at next (record_is.TransactionHeader t) later e = kept _ at _ next e refl
heading_kept at next (record_is.Document d) later e = kept _ at _ next e refl
heading_kept at next (record_is.PartOf y) later e = kept_by_part at next at.place at.heading y e
heading_kept at next (record_is.CodeTotals t) later e = kept _ at _ next e refl
heading_kept at next (record_is.OfficeTotals t) later e = kept _ at _ next e refl
heading_kept at next (record_is.PeriodTotals t) later e = kept _ at _ next e refl
heading_kept at next (record_is.FileTotals t) later e = kept _ at _ next e refl

-- ---- the form of a draft

abbrev pub form_of : Draft → FileForm
form_of d = form_at (standing_of d).heading

-- some record stands
abbrev IsBegun : Draft → Type 0
IsBegun d = is_at Start (standing_of d).place ≡ false

nothing_or_begun : (d : Draft) → (d ≡ nothing) ⊎ IsBegun d
nothing_or_begun nothing = inl refl
nothing_or_begun (headed h) = inr refl
nothing_or_begun (between f) = inr refl
nothing_or_begun (opened f agent) = inr refl
nothing_or_begun (begun f agent items) = inr refl
nothing_or_begun (in_item f agent items d g) = inr refl
nothing_or_begun (totalled f agent items done c) = inr refl
nothing_or_begun (closed f) = inr refl
nothing_or_begun (ended f) = inr refl

begun_by : (d e : Draft) (r : Record) → Next d r e → IsBegun e
begun_by d e r next =
    elim (nothing_or_begun e) [
      | inl none ↦
          let records : [] ≡ so_far d ++ r ∷ [] = sym (ap so_far none) ∙ next.records_are in
          let count : 0 ≡ length (so_far d) + 1 = ap length records ∙ length-append (so_far d) (r ∷ []) in
          absurd (omega (arith, count))
      | inr is_begun ↦ is_begun
    ]

same_form : (d e : Draft) (r : Record) → IsBegun d → Next d r e → form_of e ≡ form_of d
same_form d e r is_begun next = ap form_at (heading_kept (standing_of d) (standing_of e) (judged r) is_begun next.stands)

chain_form : (d e : Draft) (records : List Record) → IsBegun d → Chain d records e → form_of e ≡ form_of d
chain_form d e [] is_begun c = ap form_of (sym c)
chain_form d e (r ∷ records) is_begun c =
    chain_form c.0 e records (begun_by d c.0 r c.1) c.2 ∙ same_form d c.0 r is_begun c.1

-- ---- a record in the form of the draft before it, and of the one with it

-- the first record is BFH01
record IsHeader (r : Record) : Type 0 where
  heading : Heading
  is : r ≡ file_header heading

first_record : (e : Draft) (r : Record) → Next nothing r e → IsHeader r
unfolding step
first_record e (file_header h) next = record { heading = h; is = refl }
first_record e (period_header period days) next = absurd (none-some (standing_of e) next.stands)
first_record e (office_header agent period currency) next = absurd (none-some (standing_of e) next.stands)
first_record e (transaction_header n airline) next = absurd (none-some (standing_of e) next.stands)
first_record e (document n agent c d) next = absurd (none-some (standing_of e) next.stands)
first_record e (part n x) next = absurd (none-some (standing_of e) next.stands)
first_record e (code_totals agent c totals) next = absurd (none-some (standing_of e) next.stands)
first_record e (office_totals agent totals) next = absurd (none-some (standing_of e) next.stands)
first_record e (period_totals period offices totals) next = absurd (none-some (standing_of e) next.stands)
first_record e (file_totals airline records totals) next = absurd (none-some (standing_of e) next.stands)

first_in : (form other : FileForm) (e : Draft) (n : ℕ) (line : List ℕ) (r : Record) → Next nothing r e → IsRecord form n line r → IsRecord other n line r
first_in form other e n line r next is =
    let header = first_record e r next in
    subst (λ (x : Record). IsRecord other n line x) (sym header.is) (header_in form other n line header.heading (subst (λ (x : Record). IsRecord form n line x) header.is is))

pub read_before : (d e : Draft) (n : ℕ) (line : List ℕ) (r : Record) → Next d r e → IsRecord (form_of e) n line r → IsRecord (form_of d) n line r
read_before d e n line r next is =
    elim (nothing_or_begun d) [
      | inl none ↦ first_in (form_of e) (form_of d) e n line r (subst (λ (x : Draft). Next x r e) none next) is
      | inr is_begun ↦ subst (λ (form : FileForm). IsRecord form n line r) (same_form d e r is_begun next) is
    ]

read_behind : (d e : Draft) (n : ℕ) (line : List ℕ) (r : Record) → Next d r e → IsRecord (form_of d) n line r → IsRecord (form_of e) n line r
read_behind d e n line r next is =
    elim (nothing_or_begun d) [
      | inl none ↦ first_in (form_of d) (form_of e) e n line r (subst (λ (x : Draft). Next x r e) none next) is
      | inr is_begun ↦ subst (λ (form : FileForm). IsRecord form n line r) (sym (same_form d e r is_begun next)) is
    ]

-- ---- the records of a draft in the form of a later one

-- no records are records of each form
no_records : (form other : FileForm) (n : ℕ) (lines : List (List ℕ)) (records : List Record) → records ≡ [] → AreRecords form n lines records → AreRecords other n lines records
no_records form other n [] [] none are = tt
no_records form other n (line ∷ lines) [] none are = absurd are
no_records form other n lines (r ∷ records) none are = absurd cc

pub records_behind : (d e : Draft) (records : List Record) (lines : List (List ℕ)) (n : ℕ) → Chain d records e → AreRecords (form_of d) n lines (so_far d) → AreRecords (form_of e) n lines (so_far d)
records_behind d e records lines n c are =
    elim (nothing_or_begun d) [
      | inl none ↦ no_records (form_of d) (form_of e) n lines (so_far d) (ap so_far none) are
      | inr is_begun ↦ subst (λ (form : FileForm). AreRecords form n lines (so_far d)) (sym (chain_form d e records is_begun c)) are
    ]

pub records_before : (d e : Draft) (records : List Record) (lines : List (List ℕ)) (n : ℕ) → Chain d records e → AreRecords (form_of e) n lines (so_far d) → AreRecords (form_of d) n lines (so_far d)
records_before d e records lines n c are =
    elim (nothing_or_begun d) [
      | inl none ↦ no_records (form_of e) (form_of d) n lines (so_far d) (ap so_far none) are
      | inr is_begun ↦ subst (λ (form : FileForm). AreRecords form n lines (so_far d)) (chain_form d e records is_begun c) are
    ]

-- the first of the records that lead on to a draft, in the form of the draft before it
pub read_first : (d m e : Draft) (records : List Record) (n : ℕ) (line : List ℕ) (r : Record) → Next d r m → Chain m records e → IsRecord (form_of e) n line r → IsRecord (form_of d) n line r
read_first d m e records n line r next c is =
    let same = chain_form m e records (begun_by d m r next) c in
    read_before d m n line r next (subst (λ (form : FileForm). IsRecord form n line r) same is)

are_snoc : (form : FileForm) (lines : List (List ℕ)) (records : List Record) (n : ℕ) (line : List ℕ) (r : Record) → AreRecords form n lines records → IsRecord form (n + length records) line r → AreRecords form n (lines ++ line ∷ []) (records ++ r ∷ [])
are_snoc form [] [] n line r are is = let k : n + 0 ≡ n = omega arith in (subst (λ (i : ℕ). IsRecord form i line r) k is, tt)
are_snoc form [] (s ∷ records) n line r are is = absurd are
are_snoc form (x ∷ lines) [] n line r are is = absurd are
are_snoc form (x ∷ lines) (s ∷ records) n line r are is =
    let k : n + suc (length records) ≡ suc n + length records = omega arith in
    (are.0, are_snoc form lines records (suc n) line r are.1 (subst (λ (i : ℕ). IsRecord form i line r) k is))

-- the records of a draft with one more
pub records_more : (d e : Draft) (lines : List (List ℕ)) (line : List ℕ) (r : Record) → Next d r e → AreRecords (form_of d) 1 lines (so_far d) → IsRecord (form_of d) (length (so_far d) + 1) line r → AreRecords (form_of e) 1 (lines ++ line ∷ []) (so_far e)
records_more d e lines line r next are is =
    let before = records_behind d e (r ∷ []) lines 1 (e, next, refl) are in
    let k : length (so_far d) + 1 ≡ 1 + length (so_far d) = omega arith in
    let last : IsRecord (form_of e) (1 + length (so_far d)) line r = subst (λ (i : ℕ). IsRecord (form_of e) i line r) k (read_behind d e (length (so_far d) + 1) line r next is) in
    subst (λ (xs : List Record). AreRecords (form_of e) 1 (lines ++ line ∷ []) xs) (sym next.records_are) (are_snoc (form_of e) lines (so_far d) 1 line r before last)
