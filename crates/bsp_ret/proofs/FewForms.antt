-- A group has three forms at most, so that their sum is small.
use Rattle.std.proofs.Common.{◌≡◌, ℕ, ◌+◌, ◌*◌, ◌^◌, ◌≤◌, ℤ, pos, Bool, true, List, Option, Some, refl, ap, ◌∙◌, arith}
use Rattle.std.specs.Prelude.{unsigned_abs, unwrap_or}
use Rattle.std.proofs.lemmas.Int.{ints}
use Rattle.bsp_fields.specs.Columns.{identifier}
use Rattle.bsp_ret_records.specs.declared.codes.FormOfPayment.{FormOfPayment}
use Rattle.bsp_ret_records.specs.declared.codes.FormOfPayment.TheVariants.{Cash, Credit, Exchange}
use Rattle.bsp_ret_records.specs.declared.codes.Profile.{Profile}
use Rattle.bsp_ret_records.specs.declared.codes.Profile.TheVariants.{P001}
use Rattle.bsp_ret_records.specs.declared.codes.TransactionCode.{TransactionCode}
use Rattle.bsp_ret_records.specs.declared.codes.TransactionCode.TheVariants.{Tktt}
use Rattle.bsp_ret.specs.declared.model.LastRecord.{LastRecord}
use Rattle.bsp_ret.specs.declared.model.LastRecord.TheVariants as last
use Rattle.bsp_ret.specs.declared.model.Record.{Record}
use Rattle.bsp_ret.specs.declared.model.Record.TheVariants as said
use Rattle.bsp_ret.specs.declared.model.Standing.{Standing}
use Rattle.bsp_ret_records.specs.Records.{profile_of, code_of, related_order, form_of, form_amount}
use Rattle.bsp_ret.specs.Said.{record_in}
use Rattle.bsp_ret.specs.Table.{kind, takes_related, takes_amounts, takes_form}
use Rattle.bsp_ret.specs.Standings.{standing_with}
use Rattle.bsp_ret.specs.Payments.{paid_with, forms_up_to}
use Rattle.bsp_ret.proofs.Rows.{Clean, clean_header, clean_sale, clean_related, clean_amounts, clean_form, clean_trailer}
use Rattle.bsp_ret.proofs.Steps.{begins_49}
use Rattle.bsp_ret.proofs.Sound.{form_known}

-- ---- no form before a record 3 or 5

pub none_before_related : (l : LastRecord) (code : TransactionCode) (profile : Profile) (only : Option ℕ) → takes_related l code profile only ≡ true → forms_up_to l ≡ 0
none_before_related (last.Form form) code profile only h = absurd cc
none_before_related _ code profile only h = refl

pub none_before_amounts : (l : LastRecord) (code : TransactionCode) → takes_amounts l code ≡ true → forms_up_to l ≡ 0
none_before_amounts (last.Form form) code h = absurd cc
none_before_amounts _ code h = refl

-- ---- a form comes later than those before it

pub one_more_form : (l : LastRecord) (code : TransactionCode) (related : Bool) (form : FormOfPayment) → takes_form l code related (Some form) ≡ true → forms_up_to l + 1 ≤ forms_up_to (last.Form form)
one_more_form last.Amounts code related Cash h = omega arith
one_more_form last.Amounts code related Credit h = omega arith
one_more_form last.Amounts code related Exchange h = omega arith
one_more_form (last.Form Cash) code related Cash h = absurd (cc h)
one_more_form (last.Form Cash) code related Credit h = omega arith
one_more_form (last.Form Cash) code related Exchange h = omega arith
one_more_form (last.Form Credit) code related Cash h = absurd (cc h)
one_more_form (last.Form Credit) code related Credit h = absurd (cc h)
one_more_form (last.Form Credit) code related Exchange h = omega arith
one_more_form (last.Form Exchange) code related form h = absurd (cc h)
one_more_form last.Start code related form h = absurd cc
one_more_form last.Header code related form h = absurd cc
one_more_form last.Sale code related form h = absurd cc
one_more_form last.Related code related form h = absurd cc
one_more_form last.Trailer code related form h = absurd cc

-- ---- what each record says

pub says_49 : (line : List ℕ) → identifier line ≡ 49 → record_in line ≡ said.Header (unwrap_or (profile_of line) P001)
unfolding record_in
says_49 line name = rw name refl

pub says_50 : (line : List ℕ) → identifier line ≡ 50 → record_in line ≡ said.Sale (unwrap_or (code_of line) Tktt)
unfolding record_in
says_50 line name = rw name refl

pub says_51 : (line : List ℕ) → identifier line ≡ 51 → record_in line ≡ said.Related (related_order line)
unfolding record_in
says_51 line name = rw name refl

pub says_53 : (line : List ℕ) → identifier line ≡ 53 → record_in line ≡ said.Amounts
unfolding record_in
says_53 line name = rw name refl

pub says_56 : (line : List ℕ) (form : FormOfPayment) → identifier line ≡ 56 → form_of line ≡ Some form → record_in line ≡ said.Form form (form_amount line)
unfolding record_in
says_56 line form name is = rw (name, is) refl

pub says_90 : (line : List ℕ) → identifier line ≡ 90 → record_in line ≡ said.Trailer
unfolding record_in
says_90 line name = rw name refl

-- ---- the sum of a group's forms, up to each record

pub none_paid : (new : ℤ) (most : ℕ) → new ≡ pos 0 → unsigned_abs new ≤ most
none_paid new most none = omega (arith, ints, none)

pub few_forms : (at : Standing) (line : List ℕ) (sum new : ℤ) (next : Record) → Clean at line → next ≡ record_in line → new ≡ paid_with sum next → unsigned_abs new ≤ unsigned_abs sum + 99_999_999_999 → unsigned_abs sum ≤ forms_up_to at.last * 10 ^ 11
    → unsigned_abs new ≤ forms_up_to (kind next) * 10 ^ 11
few_forms at line sum new next (clean_header p h) is paid bound few =
    none_paid new _ (paid ∙ ap (paid_with sum) (is ∙ says_49 line (begins_49 line h.begins)))
few_forms at line sum new next (clean_sale p h) is paid bound few = none_paid new _ (paid ∙ ap (paid_with sum) (is ∙ says_50 line h.name))
few_forms at line sum new next (clean_related p h behind) is paid bound few =
    let same : unsigned_abs new ≡ unsigned_abs sum = ap unsigned_abs (paid ∙ ap (paid_with sum) (is ∙ says_51 line h.name)) in
    omega (arith, same, few, none_before_related at.last at.code at.profile at.only p)
few_forms at line sum new next (clean_amounts p h) is paid bound few =
    let same : unsigned_abs new ≡ unsigned_abs sum = ap unsigned_abs (paid ∙ ap (paid_with sum) (is ∙ says_53 line h.name)) in
    omega (arith, same, few, none_before_amounts at.last at.code p)
few_forms at line sum new next (clean_form p h) is paid bound few =
    let form = form_known line h.fields in
    let later = one_more_form at.last at.code at.related form.0 (rw form.1 at p) in
    let last_is : forms_up_to (kind next) ≡ forms_up_to (last.Form form.0) = ap (λ (r : Record). forms_up_to (kind r)) (is ∙ says_56 line form.0 h.name form.1) in
    omega (arith, later, last_is, bound, few)
few_forms at line sum new next (clean_trailer p h) is paid bound few = none_paid new _ (paid ∙ ap (paid_with sum) (is ∙ says_90 line h.name))

pub three_forms : (l : LastRecord) → forms_up_to l ≤ 3
three_forms (last.Form Cash) = omega arith
three_forms (last.Form Credit) = omega arith
three_forms (last.Form Exchange) = omega arith
three_forms last.Start = omega arith
three_forms last.Header = omega arith
three_forms last.Sale = omega arith
three_forms last.Related = omega arith
three_forms last.Amounts = omega arith
three_forms last.Trailer = omega arith
