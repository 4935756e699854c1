-- One more record of a file that is judged record by record.
use Rattle.std.proofs.Common.{◌≡◌, ◌≤◌, ◌==◌, ℕ, suc, ℤ, pos, ◌+◌, ◌*◌, ◌^◌, ◌+ℤ◌, Bool, true, false, cond, List, [], ◌∷◌, ◌++◌, length, Option, Some, None, IfSome, is_some, option_to_list, Ok, Err, refl, sym, ap, subst, ◌∙◌, arith, append_assoc, append-nil, length-append, add-zero}
use Rattle.std.specs.Prelude.{unsigned_abs}
use Rattle.std.proofs.Math.IntN.{+ℤ_idl, +ℤ_idr}
use Rattle.bsp_fields.specs.Columns.{identifier}
use Rattle.bsp_ret_records.specs.declared.codes.FormOfPayment.{FormOfPayment}
use Rattle.bsp_ret_records.specs.declared.codes.Profile.{Profile}
use Rattle.bsp_ret_records.specs.declared.codes.TransactionCode.{TransactionCode}
use Rattle.bsp_ret_records.specs.declared.transactions.PaidSale.{PaidSale}
use Rattle.bsp_ret_records.specs.Records.{form_of, form_amount, sale_fits, IsFit}
use Rattle.bsp_ret_records.specs.Values.{IsSale}
use Rattle.bsp_ret.specs.declared.model.LastRecord.{LastRecord}
use Rattle.bsp_ret.specs.declared.model.LastRecord.TheVariants as last
use Rattle.bsp_ret.specs.declared.model.Record.{Record}
use Rattle.bsp_ret.specs.declared.model.Record.TheVariants as said
use Rattle.bsp_ret.specs.declared.model.Standing.{Standing}
use Rattle.bsp_ret.specs.Said.{record_in}
use Rattle.bsp_ret.specs.Table.{kind, paid, total_paid, has_ended, is_start, takes_related, takes_amounts, takes_form, row_fault, first_fault}
use Rattle.bsp_ret.specs.declared.model.FaultCode.{FaultCode}
use Rattle.bsp_ret.specs.declared.model.FaultCode.TheVariants.{F08}
use Rattle.bsp_ret.specs.declared.judging.FileTotals.{FileTotals}
use Rattle.bsp_ret.specs.Ret.{File, flatten, file_lines, AreGroups}
use Rattle.bsp_ret.specs.Sales.{HaveSales}
use Rattle.bsp_ret.specs.Standings.{standing_behind, fault_behind, FitsIn}
use Rattle.bsp_ret.specs.Pieces.{IsClear}
use Rattle.bsp_ret.specs.Reading.{Draft, with_group, add, read_from, read_all}
use Rattle.bsp_ret.specs.Judging.{Judged, IsSaleOf, HasBegun, AreSalesOf, AreTaken, completed, with_payment, BeginsWith, Continues, IsNear, IsSmall, IsFileOf, may_go_on}
use Rattle.bsp_ret.specs.Payments.{forms_up_to}
use Rattle.bsp_ret.proofs.FewForms.{none_before_related, none_before_amounts, one_more_form, none_paid, says_49, says_50, says_51, says_53, says_56, says_90}
use Rattle.bsp_ret.proofs.GroupLemmas.{wide_length, has_sale}
use Rattle.bsp_ret.proofs.LawLemmas.{fault_of, read_is_fault, read_behind, is_file}
use Rattle.bsp_ret.proofs.PieceLemmas.{last_with}
use Rattle.bsp_ret.proofs.Rows.{Clean, clean, clean_header, clean_sale, clean_related, clean_amounts, clean_form, clean_trailer}
use Rattle.bsp_ret.proofs.SaidLemmas.{paid_by, paid_said}
use Rattle.bsp_ret.proofs.Sound.{form_known}
use Rattle.bsp_ret.proofs.Steps.{next, read_nil, read_cons, standing_snoc, total_paid_snoc, begins_49, add_header, add_sale, add_trailer, add_more}

-- ---- where a transaction goes on

related_goes_on : (l : LastRecord) (code : TransactionCode) (profile : Profile) (only : Option ℕ) → takes_related l code profile only ≡ true → may_go_on l ≡ true
related_goes_on last.Sale code profile only h = refl
related_goes_on last.Related code profile only h = refl
related_goes_on last.Start code profile only h = absurd cc
related_goes_on last.Header code profile only h = absurd cc
related_goes_on last.Amounts code profile only h = refl
related_goes_on (last.Form form) code profile only h = refl
related_goes_on last.Trailer code profile only h = absurd cc

amounts_go_on : (l : LastRecord) (code : TransactionCode) → takes_amounts l code ≡ true → may_go_on l ≡ true
amounts_go_on last.Sale code h = refl
amounts_go_on last.Related code h = refl
amounts_go_on last.Start code h = absurd cc
amounts_go_on last.Header code h = absurd cc
amounts_go_on last.Amounts code h = refl
amounts_go_on (last.Form form) code h = refl
amounts_go_on last.Trailer code h = absurd cc

form_goes_on : (l : LastRecord) (code : TransactionCode) (related : Bool) (form : Option FormOfPayment) → takes_form l code related form ≡ true → may_go_on l ≡ true
form_goes_on last.Sale code related form h = refl
form_goes_on last.Related code related form h = refl
form_goes_on last.Start code related form h = absurd cc
form_goes_on last.Header code related form h = absurd cc
form_goes_on last.Amounts code related form h = refl
form_goes_on (last.Form before) code related form h = refl
form_goes_on last.Trailer code related form h = absurd cc

start_begins_none : (l : LastRecord) → is_start l ≡ true → may_go_on l ≡ false
start_begins_none last.Start h = refl
start_begins_none last.Header h = refl
start_begins_none last.Trailer h = refl
start_begins_none last.Sale h = absurd cc
start_begins_none last.Related h = absurd cc
start_begins_none last.Amounts h = absurd cc
start_begins_none (last.Form form) h = absurd cc

-- ---- the transaction that has begun

-- with one more record that pays this
record_more : (line : List ℕ) (first : List ℕ) (more : List (List ℕ)) (p q : PaidSale) → IsSaleOf (first ∷ more) p → q.sale ≡ p.sale → q.paid ≡ p.paid +ℤ paid line → IsSaleOf (first ∷ (more ++ line ∷ [])) q
record_more line first more p q is same pays = record {
  sale = λ one others split. rw same (is.sale one more (cc split));
  paid = pays ∙ ap (λ (x : ℤ). x +ℤ paid line) is.paid ∙ sym (total_paid_snoc (first ∷ more) line);
}

-- with one more record that pays nothing
same_more : (latest : List (List ℕ)) (begun : Option PaidSale) (line : List ℕ) → is_some begun ≡ true → HasBegun latest begun → paid line ≡ pos 0 → HasBegun (latest ++ line ∷ []) begun
same_more [] begun line some has none = absurd (cc (some, has))
same_more (first ∷ more) None line some has none = absurd has
same_more (first ∷ more) (Some p) line some has none = record_more line first more p p has refl (sym (ap (λ (x : ℤ). p.paid +ℤ x) none ∙ +ℤ_idr p.paid))

payment_more : (latest : List (List ℕ)) (begun : Option PaidSale) (line : List ℕ) (amount : ℤ) → is_some begun ≡ true → HasBegun latest begun → paid line ≡ amount → HasBegun (latest ++ line ∷ []) (with_payment begun amount)
payment_more [] begun line amount some has pays = absurd (cc (some, has))
payment_more (first ∷ more) None line amount some has pays = absurd has
payment_more (first ∷ more) (Some p) line amount some has pays =
    record_more line first more p (record p { paid = p.paid +ℤ amount }) has refl (ap (λ (x : ℤ). p.paid +ℤ x) (sym pays))

begin_one : (line : List ℕ) (now : Option PaidSale) → paid line ≡ pos 0 → BeginsWith line now → HasBegun (line ∷ []) now
begin_one line None none begins = absurd begins
begin_one line (Some p) none begins = record {
  sale = λ first more split. subst (λ (x : List ℕ). IsSale x p.sale) (cc split) begins.0;
  paid = begins.1 ∙ sym (ap (λ (x : ℤ). x +ℤ pos 0) none);
}

-- ---- the transactions that are complete

sales_more : (groups : List (List (List ℕ))) (sales : List PaidSale) (group : List (List ℕ)) (p : PaidSale) → AreSalesOf groups sales → IsSaleOf group p → AreSalesOf (groups ++ group ∷ []) (sales ++ p ∷ [])
sales_more [] [] group p are is = (is, tt)
sales_more (first ∷ groups) (q ∷ sales) group p are is = (are.0, sales_more groups sales group p are.1 is)
sales_more [] (q ∷ sales) group p are is = absurd are
sales_more (first ∷ groups) [] group p are is = absurd are

sales_with : (closed : List (List (List ℕ))) (latest : List (List ℕ)) (begun : Option PaidSale) (sales : List PaidSale) → AreSalesOf closed sales → HasBegun latest begun → AreSalesOf (with_group closed latest) (sales ++ option_to_list begun)
sales_with closed [] begun sales are has = rw (has, append-nil) are
sales_with closed (first ∷ more) None sales are has = absurd has
sales_with closed (first ∷ more) (Some p) sales are has = sales_more closed sales (first ∷ more) p are has

none_more : (closed : List (List (List ℕ))) (sales : List PaidSale) → AreSalesOf closed sales → AreSalesOf closed (sales ++ [])
none_more closed sales are = rw append-nil are

count_of : (begun : Option PaidSale) → length (option_to_list begun) ≡ cond (is_some begun) 1 0
count_of None = refl
count_of (Some p) = refl

-- ---- one more record

-- the lines with one more are read on from the next state
reads_more : (ls : List (List ℕ)) (at : Standing) (d : Draft) (line : List ℕ) → Clean at line → ((more : List (List ℕ)) → read_all (ls ++ more) ≡ read_from at d more) → (more : List (List ℕ)) → read_all ((ls ++ line ∷ []) ++ more) ≡ read_from (standing_behind at line) (add d line) more
reads_more ls at d line is reads more = ap read_all (append_assoc ls (line ∷ []) more) ∙ reads (line ∷ more) ∙ next at d line more is

begun_some : (line : List ℕ) (now : Option PaidSale) → BeginsWith line now → is_some now ≡ true
begun_some line None begins = absurd begins
begun_some line (Some p) begins = refl

payment_some : (begun : Option PaidSale) (amount : ℤ) → is_some (with_payment begun amount) ≡ is_some begun
payment_some None amount = refl
payment_some (Some p) amount = refl

pub taken_more : (ls : List (List ℕ)) (sales : List PaidSale) (j : Judged) (line : List ℕ) (now : Option PaidSale) → AreTaken ls j sales → Clean j.at line → is_some j.begun ≡ may_go_on j.at.last → Continues j.begun (record_in line) line now
    → AreTaken (ls ++ line ∷ []) (record { at = standing_behind j.at line; begun = now }) (sales ++ option_to_list (completed j.begun (record_in line)))
taken_more ls sales j line now t (clean_header p h) some goes =
    let name = begins_49 line h.begins in
    let says = says_49 line name in
    let With : Record → Type 0 = λ r. Continues j.begun r line now in
    let none : now ≡ None = subst With says goes in
    let not_begun : is_some j.begun ≡ false = some ∙ start_begins_none j.at.last p in
    record {
      state = ap (λ (s : Standing). standing_behind s line) t.state ∙ sym (standing_snoc ls line);
      draft = add t.draft line;
      reads = reads_more ls j.at t.draft line (clean_header p h) t.reads;
      begun = rw (add_header t.draft line name) none;
      complete = rw (add_header t.draft line name, says) (none_more t.draft.closed sales t.complete);
      count = rw (says, none, append-nil) (t.count ∙ ap (λ b. length sales + cond b 1 0) not_begun);
    }
taken_more ls sales j line now t (clean_sale p h) some goes =
    let says = says_50 line h.name in
    let With : Record → Type 0 = λ r. Continues j.begun r line now in
    let begins : BeginsWith line now = subst With says goes in
    let pays : paid line ≡ pos 0 = paid_said line ∙ ap paid_by says in
    let is_begun : is_some now ≡ true = begun_some line now begins in
    record {
      state = ap (λ (s : Standing). standing_behind s line) t.state ∙ sym (standing_snoc ls line);
      draft = add t.draft line;
      reads = reads_more ls j.at t.draft line (clean_sale p h) t.reads;
      begun = rw (add_sale t.draft line h.name) (begin_one line now pays begins);
      complete = rw (add_sale t.draft line h.name, says) (sales_with t.draft.closed t.draft.latest j.begun sales t.complete t.begun);
      count = rw (says, is_begun, length-append, count_of j.begun) (ap (λ n. n + 1) t.count);
    }
taken_more ls sales j line now t (clean_related p h later) some goes =
    let says = says_51 line h.name in
    let With : Record → Type 0 = λ r. Continues j.begun r line now in
    let same : now ≡ j.begun = subst With says goes in
    let pays : paid line ≡ pos 0 = paid_said line ∙ ap paid_by says in
    let is_begun : is_some j.begun ≡ true = some ∙ related_goes_on j.at.last j.at.code j.at.profile j.at.only p in
    record {
      state = ap (λ (s : Standing). standing_behind s line) t.state ∙ sym (standing_snoc ls line);
      draft = add t.draft line;
      reads = reads_more ls j.at t.draft line (clean_related p h later) t.reads;
      begun = rw (add_more t.draft line 51 h.name refl, same) (same_more t.draft.latest j.begun line is_begun t.begun pays);
      complete = rw (add_more t.draft line 51 h.name refl, says) (none_more t.draft.closed sales t.complete);
      count = rw (says, same, append-nil) t.count;
    }
taken_more ls sales j line now t (clean_amounts p h) some goes =
    let says = says_53 line h.name in
    let With : Record → Type 0 = λ r. Continues j.begun r line now in
    let same : now ≡ j.begun = subst With says goes in
    let pays : paid line ≡ pos 0 = paid_said line ∙ ap paid_by says in
    let is_begun : is_some j.begun ≡ true = some ∙ amounts_go_on j.at.last j.at.code p in
    record {
      state = ap (λ (s : Standing). standing_behind s line) t.state ∙ sym (standing_snoc ls line);
      draft = add t.draft line;
      reads = reads_more ls j.at t.draft line (clean_amounts p h) t.reads;
      begun = rw (add_more t.draft line 53 h.name refl, same) (same_more t.draft.latest j.begun line is_begun t.begun pays);
      complete = rw (add_more t.draft line 53 h.name refl, says) (none_more t.draft.closed sales t.complete);
      count = rw (says, same, append-nil) t.count;
    }
taken_more ls sales j line now t (clean_form p h) some goes =
    let form = form_known line h.fields in
    let says = says_56 line form.0 h.name form.1 in
    let With : Record → Type 0 = λ r. Continues j.begun r line now in
    let same : now ≡ with_payment j.begun (form_amount line) = subst With says goes in
    let pays : paid line ≡ form_amount line = paid_said line ∙ ap paid_by says in
    let is_begun : is_some j.begun ≡ true = some ∙ form_goes_on j.at.last j.at.code j.at.related (form_of line) p in
    record {
      state = ap (λ (s : Standing). standing_behind s line) t.state ∙ sym (standing_snoc ls line);
      draft = add t.draft line;
      reads = reads_more ls j.at t.draft line (clean_form p h) t.reads;
      begun = rw (add_more t.draft line 56 h.name refl, same) (payment_more t.draft.latest j.begun line (form_amount line) is_begun t.begun pays);
      complete = rw (add_more t.draft line 56 h.name refl, says) (none_more t.draft.closed sales t.complete);
      count = rw (says, same, payment_some j.begun (form_amount line), append-nil) t.count;
    }
taken_more ls sales j line now t (clean_trailer p h) some goes =
    let says = says_90 line h.name in
    let With : Record → Type 0 = λ r. Continues j.begun r line now in
    let none : now ≡ None = subst With says goes in
    record {
      state = ap (λ (s : Standing). standing_behind s line) t.state ∙ sym (standing_snoc ls line);
      draft = add t.draft line;
      reads = reads_more ls j.at t.draft line (clean_trailer p h) t.reads;
      begun = rw (add_trailer t.draft line h.name) none;
      complete = rw (add_trailer t.draft line h.name, says) (sales_with t.draft.closed t.draft.latest j.begun sales t.complete t.begun);
      count = rw (says, none, length-append, count_of j.begun) (t.count ∙ omega arith);
    }

-- ---- what fits

sale_is_fit : (at : Standing) (line : List ℕ) (code : TransactionCode) → Clean at line → record_in line ≡ said.Sale code → IsFit sale_fits line
sale_is_fit at line code (clean_sale p h) is = (wide_length line h.wide, h.fields)
sale_is_fit at line code (clean_header p h) is = absurd (cc (is, says_49 line (begins_49 line h.begins)))
sale_is_fit at line code (clean_related p h later) is = absurd (cc (is, says_51 line h.name))
sale_is_fit at line code (clean_amounts p h) is = absurd (cc (is, says_53 line h.name))
sale_is_fit at line code (clean_form p h) is = let form = form_known line h.fields in absurd (cc (is, says_56 line form.0 h.name form.1))
sale_is_fit at line code (clean_trailer p h) is = absurd (cc (is, says_90 line h.name))

pub fits_sale : (at : Standing) (line : List ℕ) (said_it : Record) → row_fault at line ≡ Ok tt → said_it ≡ record_in line → (code : TransactionCode) → said_it ≡ said.Sale code → IsFit sale_fits line
fits_sale at line said_it row says code is = sale_is_fit at line code (clean at line row) (sym says ∙ is)

-- the last transaction is within its bound
abbrev IsBounded : LastRecord → Option PaidSale → Type 0
IsBounded l begun = (is_some begun ≡ may_go_on l) × IfSome begun (λ p. unsigned_abs p.paid ≤ forms_up_to l * 10 ^ 11)

bounded_none : (l : LastRecord) (now : Option PaidSale) → may_go_on l ≡ false → now ≡ None → IsBounded l now
bounded_none l now off none = rw none (sym off, tt)

bounded_sale : (line : List ℕ) (now : Option PaidSale) → BeginsWith line now → IsBounded last.Sale now
bounded_sale line None begins = absurd begins
bounded_sale line (Some q) begins = (refl, none_paid q.paid 0 begins.1)

bounded_same : (l m : LastRecord) (begun now : Option PaidSale) → now ≡ begun → may_go_on l ≡ true → may_go_on m ≡ true → forms_up_to l ≡ forms_up_to m → IsBounded l begun → IsBounded m now
bounded_same l m begun now same on more forms b = rw (same, more, ← forms) (b.0 ∙ on, b.1)

bounded_form : (l : LastRecord) (form : FormOfPayment) (begun now : Option PaidSale) (amount : ℤ) → now ≡ with_payment begun amount → may_go_on l ≡ true → forms_up_to l + 1 ≤ forms_up_to (last.Form form) → IsBounded l begun → IsNear begun now → IsBounded (last.Form form) now
bounded_form l form None now amount is on later b near = absurd (cc (b.0, on))
bounded_form l form (Some p) None amount is on later b near = absurd (cc is)
bounded_form l form (Some p) (Some q) amount is on later b near = (refl, omega (arith, near, later, b.1))

bounded_more : (at : Standing) (line : List ℕ) (begun now : Option PaidSale) → Clean at line → IsBounded at.last begun → Continues begun (record_in line) line now → IsNear begun now → IsBounded (kind (record_in line)) now
bounded_more at line begun now (clean_header p h) b goes near =
    let says = says_49 line (begins_49 line h.begins) in
    let With : Record → Type 0 = λ r. Continues begun r line now in
    rw says (bounded_none last.Header now refl (subst With says goes))
bounded_more at line begun now (clean_sale p h) b goes near =
    let says = says_50 line h.name in
    let With : Record → Type 0 = λ r. Continues begun r line now in
    rw says (bounded_sale line now (subst With says goes))
bounded_more at line begun now (clean_related p h later) b goes near =
    let says = says_51 line h.name in
    let With : Record → Type 0 = λ r. Continues begun r line now in
    rw says (bounded_same at.last last.Related begun now (subst With says goes) (related_goes_on at.last at.code at.profile at.only p) refl (none_before_related at.last at.code at.profile at.only p) b)
bounded_more at line begun now (clean_amounts p h) b goes near =
    let says = says_53 line h.name in
    let With : Record → Type 0 = λ r. Continues begun r line now in
    rw says (bounded_same at.last last.Amounts begun now (subst With says goes) (amounts_go_on at.last at.code p) refl (none_before_amounts at.last at.code p) b)
bounded_more at line begun now (clean_form p h) b goes near =
    let form = form_known line h.fields in
    let says = says_56 line form.0 h.name form.1 in
    let With : Record → Type 0 = λ r. Continues begun r line now in
    rw says (bounded_form at.last form.0 begun now (form_amount line) (subst With says goes) (form_goes_on at.last at.code at.related (form_of line) p) (one_more_form at.last at.code at.related form.0 (rw form.1 at p)) b near)
bounded_more at line begun now (clean_trailer p h) b goes near =
    let says = says_90 line h.name in
    let With : Record → Type 0 = λ r. Continues begun r line now in
    rw says (bounded_none last.Trailer now refl (subst With says goes))

pub small_more : (at then_at : Standing) (line : List ℕ) (said_it : Record) (begun now : Option PaidSale) (most : ℕ) → row_fault at line ≡ Ok tt → said_it ≡ record_in line → then_at ≡ standing_behind at line → FitsIn then_at most → IsSmall at begun → Continues begun said_it line now → IsNear begun now → IsSmall then_at now
small_more at then_at line said_it begun now most row says stands fits small goes near =
    let With : Record → Type 0 = λ r. Continues begun r line now in
    let Bounded : LastRecord → Type 0 = λ l. IsBounded l now in
    let last_is : then_at.last ≡ kind (record_in line) = ap (λ (s : Standing). s.last) stands ∙ last_with at (record_in line) in
    let b = subst Bounded (sym last_is) (bounded_more at line begun now (clean at line row) (small.some, small.paid) (subst With says goes) near) in
    record { counted = fits.counted; small = fits.small; some = b.0; paid = b.1 }

pub taken_by : (ls : List (List ℕ)) (sales : List PaidSale) (j : Judged) (at then_at : Standing) (line : List ℕ) (said_it : Record) (begun now ended : Option PaidSale) → record { at = at; begun = begun } ≡ j → AreTaken ls j sales → row_fault at line ≡ Ok tt → said_it ≡ record_in line → then_at ≡ standing_behind at line
    → is_some begun ≡ may_go_on at.last → Continues begun said_it line now → ended ≡ completed begun said_it → AreTaken (ls ++ line ∷ []) (record { at = then_at; begun = now }) (sales ++ option_to_list ended)
taken_by ls sales j at then_at line said_it begun now ended is t row says stands some goes ends =
    let With : Record → Type 0 = λ r. Continues begun r line now in
    let Taken : Judged → Type 0 = λ x. AreTaken ls x sales in
    rw (stands, ends, says) (taken_more ls sales (record { at = at; begun = begun }) line now (subst Taken (sym is) t) (clean at line row) some (subst With says goes))

-- ---- the end of a file

-- the groups of a file have these sales
have_sales : (n : ℕ) (groups : List (List (List ℕ))) (sales : List PaidSale) → AreGroups n groups → AreSalesOf groups sales → HaveSales n groups sales
have_sales n [] [] are of = tt
have_sales n (group ∷ groups) (p ∷ sales) are of = (has_sale n group p are.0 of.0.sale of.0.paid, have_sales (suc n) groups sales are.1 of.1)
have_sales n [] (p ∷ sales) are of = absurd of
have_sales n (group ∷ groups) [] are of = absurd of

as_many : (groups : List (List (List ℕ))) (sales : List PaidSale) → AreSalesOf groups sales → length sales ≡ length groups
as_many [] [] of = refl
as_many (group ∷ groups) (p ∷ sales) of = ap suc (as_many groups sales of.1)
as_many [] (p ∷ sales) of = absurd of
as_many (group ∷ groups) [] of = absurd of

pays_nothing : (line : List ℕ) (letter : ℕ) → identifier line ≡ letter → (letter == 56) ≡ false → paid line ≡ pos 0
pays_nothing line letter name other = rw (name, other) refl

-- header and trailer pay nothing
sum_of_file : (file : File) → identifier file.header ≡ 49 → identifier file.trailer ≡ 90 → total_paid (file_lines file) ≡ total_paid (flatten file.groups)
sum_of_file file header trailer =
    rw (pays_nothing file.header 49 header refl) (+ℤ_idl (total_paid (flatten file.groups ++ file.trailer ∷ [])) ∙ total_paid_snoc (flatten file.groups) file.trailer ∙ ap (λ (x : ℤ). total_paid (flatten file.groups) +ℤ x) (pays_nothing file.trailer 90 trailer refl) ∙ +ℤ_idr (total_paid (flatten file.groups)))

no_more : (begun : Option PaidSale) (l : LastRecord) → is_some begun ≡ may_go_on l → has_ended l ≡ true → is_some begun ≡ false
no_more begun last.Trailer some ended = some
no_more begun last.Start some ended = absurd cc
no_more begun last.Header some ended = absurd cc
no_more begun last.Sale some ended = absurd cc
no_more begun last.Related some ended = absurd cc
no_more begun last.Amounts some ended = absurd cc
no_more begun (last.Form form) some ended = absurd cc

pub file_of_taken : (ls : List (List ℕ)) (sales : List PaidSale) (j : Judged) (totals : FileTotals) → AreTaken ls j sales → is_some j.begun ≡ may_go_on j.at.last → has_ended j.at.last ≡ true → totals.records ≡ j.at.records → totals.transactions ≡ j.at.transactions → totals.sum ≡ j.at.sum → IsFileOf ls sales totals
file_of_taken ls sales j totals t some ended records transactions sum =
    let file : File = record { header = t.draft.header; groups = t.draft.closed; trailer = t.draft.trailer } in
    let read : read_all ls ≡ Ok file = ap read_all (sym (append-nil ls)) ∙ t.reads [] ∙ read_nil j.at t.draft ∙ rw ended refl in
    let ret = is_file ls file read in
    let many = as_many t.draft.closed sales t.complete in
    let count : j.at.transactions ≡ length sales = t.count ∙ rw (no_more j.begun j.at.last some ended) (add-zero (length sales)) in
    record {
      file = file;
      ret = ret;
      sales_are = have_sales 1 t.draft.closed sales ret.groups t.complete;
      records = records ∙ ap (λ (s : Standing). s.records) t.state ∙ ap length ret.lines_are;
      transactions = transactions ∙ count ∙ many;
      sum = sum ∙ ap (λ (s : Standing). s.sum) t.state ∙ ap total_paid ret.lines_are ∙ sum_of_file file (begins_49 file.header ret.header.begins) ret.trailer.name;
    }

pub fault_of_taken : (ls : List (List ℕ)) (sales : List PaidSale) (j : Judged) → AreTaken ls j sales → has_ended j.at.last ≡ false → first_fault ls ≡ Some (record { code = F08; at = j.at.records + 1 })
fault_of_taken ls sales j t open_end =
    let read : read_all ls ≡ Err (record { code = F08; at = j.at.records + 1 }) = ap read_all (sym (append-nil ls)) ∙ t.reads [] ∙ read_nil j.at t.draft ∙ rw open_end refl in
    sym (read_is_fault ls) ∙ ap fault_of read

-- ---- a record at fault

-- none of the lines that were taken is at fault
pub clear_of_taken : (ls : List (List ℕ)) (sales : List PaidSale) (j : Judged) → AreTaken ls j sales → IsClear ls
clear_of_taken ls sales j t = λ more. sym (read_is_fault (ls ++ more)) ∙ ap fault_of (t.reads more) ∙ read_behind more j.at t.draft ∙ ap (λ (s : Standing). fault_behind s more) t.state

pub fault_at_line : (ls more : List (List ℕ)) (sales : List PaidSale) (j : Judged) (line : List ℕ) (code : FaultCode) → AreTaken ls j sales → row_fault j.at line ≡ Err code → first_fault (ls ++ line ∷ more) ≡ Some (record { code = code; at = j.at.records + 1 })
fault_at_line ls more sales j line code t row =
    let read : read_all (ls ++ line ∷ more) ≡ Err (record { code = code; at = j.at.records + 1 }) = t.reads (line ∷ more) ∙ read_cons j.at t.draft line more ∙ rw row refl in
    sym (read_is_fault (ls ++ line ∷ more)) ∙ ap fault_of read
