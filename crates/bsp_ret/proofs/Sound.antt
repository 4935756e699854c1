-- What is read stands in Ret.
use Rattle.std.proofs.Common.{◌≡◌, ℕ, ◌+◌, Bool, true, false, cond, List, [], ◌∷◌, ◌++◌, length, Option, Some, None, IfSome, is_some, option_to_list, Result, Ok, Err, refl, sym, ap, subst, ◌∙◌, arith, append_assoc, append-nil, length-append}
use Rattle.std.proofs.Math.IntN.{+ℤ_idl}
use Rattle.std.proofs.lemmas.Bool.{and_parts}
use Rattle.bsp_ret_records.specs.declared.codes.FormOfPayment.{FormOfPayment}
use Rattle.bsp_ret_records.specs.declared.codes.FormOfPayment.TheVariants.{Cash, Credit, Exchange}
use Rattle.bsp_ret_records.specs.declared.codes.Profile.{Profile}
use Rattle.bsp_ret_records.specs.declared.codes.Profile.TheVariants.{P001}
use Rattle.bsp_ret_records.specs.declared.codes.TransactionCode.{TransactionCode}
use Rattle.std.specs.Prelude.{unwrap_or}
use Rattle.bsp_ret.specs.declared.model.LastRecord.{LastRecord}
use Rattle.bsp_ret.specs.declared.model.LastRecord.TheVariants as last
use Rattle.bsp_ret.specs.declared.model.FaultCode.{FaultCode}
use Rattle.bsp_ret.specs.declared.model.RetFault.{RetFault}
use Rattle.bsp_ret.specs.declared.model.Standing.{Standing}
use Rattle.bsp_fields.specs.Columns.{identifier}
use Rattle.bsp_ret_records.specs.Records.{vendor, vendor_fits, profile_of, code_of, sale_fits, related_order, amounts_fit, form_of, form_fits}
use Rattle.bsp_ret_records.proofs.ReadLemmas.{sale_fields}
use Rattle.bsp_ret.specs.Table.{total_paid, standing, has_ended, takes_form, has_form, row_fault}
use Rattle.bsp_ret.specs.Standings.{only_with, standing_behind}
use Rattle.bsp_ret.specs.Ret.{File, flatten, IsHeader, IsRecord, IsForm, IsTrailer, Ret}
use Rattle.bsp_ret.specs.Reading.{Draft, with_group, nothing, add, or_read, read_from, read_all}
use Rattle.bsp_ret.proofs.Rows.{Clean, clean, clean_header, clean_sale, clean_related, clean_amounts, clean_form, clean_trailer}
use Rattle.bsp_ret.proofs.Steps.{standing_snoc, Stands, begins_49, has_profile, only_behind_related, after_header, after_sale, after_related, after_amounts, after_form, after_trailer, read_nil, read_cons, draft, add_header, add_sale, add_trailer, add_more}
use Rattle.bsp_ret.proofs.Forms.{IsAllowed, last_form, forms_list, may_pay, cash_first, credit_next, exchange_last}
use Rattle.bsp_ret.proofs.Drafts.{Base, Sold, RelatedMore, Paying, BaseOf, file_of, Read, Whole, flatten_with, started, whole, related_more, awaiting, paying, ended}

-- ---- one more record

-- a record 2 has a code, and a record 8 a form
known : {A : Type 0} (o : Option A) → is_some o ≡ true → (x : A) × (o ≡ Some x)
known None h = absurd cc
known (Some x) h = (x, refl)

pub sale_known : (line : List ℕ) → sale_fits line ≡ true → (code : TransactionCode) × (code_of line ≡ Some code)
sale_known line h = known (code_of line) (sale_fields line h).code

vendor_known : (form : Option FormOfPayment) (text : List ℕ) → vendor_fits form text ≡ true → (kind : FormOfPayment) × (form ≡ Some kind)
vendor_known None text h = absurd cc
vendor_known (Some kind) text h = (kind, refl)

pub form_known : (line : List ℕ) → form_fits line ≡ true → (kind : FormOfPayment) × (form_of line ≡ Some kind)
unfolding form_fits
form_known line h = vendor_known (form_of line) (vendor line) (and_parts _ _ (and_parts _ _ h).0).0

-- a record 2 closes the last group and begins one
base_sale : (profile : Profile) (before : List (List ℕ)) (n : ℕ) (d : Draft) (line : List ℕ) → Whole profile n before d → Base profile (before ++ line ∷ []) (n + 1) d.header (with_group d.closed d.latest) (line ∷ [])
base_sale profile before n d line w = record {
  lines_are = ap (λ (x : List (List ℕ)). x ++ line ∷ []) (w.base.lines_are ∙ ap (λ (x : List (List ℕ)). d.header ∷ x) (sym (flatten_with d.closed d.latest)));
  header = w.base.header;
  profile_is = w.base.profile_is;
  groups = w.groups;
  one = w.one;
  count = omega (arith, w.base.count, length-append (with_group d.closed d.latest) ((line ∷ []) ∷ []));
}

length_with : (closed : List (List (List ℕ))) (first line : List ℕ) (more : List (List ℕ)) → length (with_group closed (first ∷ (more ++ line ∷ []))) ≡ length (with_group closed (first ∷ more))
length_with closed first line more = length-append closed _ ∙ sym (length-append closed _)

-- another record is one more of the latest lines
base_more : (profile : Profile) (before : List (List ℕ)) (n : ℕ) (header : List ℕ) (closed : List (List (List ℕ))) (first line : List ℕ) (more : List (List ℕ)) → Base profile before n header closed (first ∷ more)
    → Base profile (before ++ line ∷ []) n header closed (first ∷ (more ++ line ∷ []))
base_more profile before n header closed first line more base = record {
  lines_are = ap (λ (x : List (List ℕ)). x ++ line ∷ []) base.lines_are ∙ ap (λ (x : List (List ℕ)). header ∷ x) (append_assoc (flatten closed) (first ∷ more) (line ∷ []));
  header = base.header;
  profile_is = base.profile_is;
  groups = base.groups;
  one = base.one;
  count = base.count ∙ sym (length_with closed first line more);
}

more_lines : (profile : Profile) (before : List (List ℕ)) (n : ℕ) (d : Draft) (line first : List ℕ) (more : List (List ℕ)) → BaseOf profile before n d → d.latest ≡ first ∷ more → Base profile (before ++ line ∷ []) n d.header d.closed (d.latest ++ line ∷ [])
more_lines profile before n d line first more base e =
    subst (λ (x : List (List ℕ)). Base profile (before ++ line ∷ []) n d.header d.closed (x ++ line ∷ [])) (sym e) (base_more profile before n d.header d.closed first line more (rw e at base))

with_header : (before : List (List ℕ)) (n : ℕ) (line : List ℕ) (code : TransactionCode) (b : Bool) (only : Option ℕ) → n ≡ 0 → before ≡ [] → IsHeader line
    → Read last.Header code (unwrap_or (profile_of line) P001) b only n (before ++ line ∷ []) (draft line [] [] [])
with_header before n line code b only none empty is = (record { lines_are = rw empty refl; header = is; profile_is = has_profile line is.begins; groups = tt; one = λ old. refl; count = none }, refl)

with_sale : (profile : Profile) (only : Option ℕ) (before : List (List ℕ)) (n : ℕ) (d : Draft) (line : List ℕ) (code : TransactionCode) → Whole profile n before d → IsRecord 50 (n + 1) sale_fits line → code_of line ≡ Some code
    → Read last.Sale code profile false only (n + 1) (before ++ line ∷ []) (draft d.header (with_group d.closed d.latest) (line ∷ []) d.trailer)
with_sale profile only before n d line code w is e = (base_sale profile before n d line w, record { sale = line; lines_are = refl; stands = is; code_is = e; related_is = refl; fits = tt })

with_related : (profile : Profile) (before : List (List ℕ)) (n : ℕ) (d : Draft) (line : List ℕ) (code : TransactionCode) (b : Bool) → BaseOf profile before n d → RelatedMore n code profile b d.latest line
    → Read last.Related code profile true (only_with b (related_order line)) n (before ++ line ∷ []) (draft d.header d.closed (d.latest ++ line ∷ []) d.trailer)
with_related profile before n d line code b base more = (more_lines profile before n d line more.first more.more base more.lines_are, more.relating)

with_amounts : (profile : Profile) (only : Option ℕ) (before : List (List ℕ)) (n : ℕ) (d : Draft) (line : List ℕ) (code : TransactionCode) (b : Bool) (related second : Option (List ℕ)) → BaseOf profile before n d → Sold n code b related second d.latest → IsAllowed code profile second
    → may_pay code b ≡ true → IsRecord 53 n amounts_fit line → Read last.Amounts code profile b only n (before ++ line ∷ []) (draft d.header d.closed (d.latest ++ line ∷ []) d.trailer)
with_amounts profile only before n d line code b related second base s allowed pays is = (
  more_lines profile before n d line s.sale (option_to_list related ++ option_to_list second) base s.lines_are,
  record {
    sale = s.sale;
    related = related;
    second = second;
    amounts = line;
    cash = None;
    credit = None;
    exchange = None;
    lines_are = ap (λ (x : List (List ℕ)). x ++ line ∷ []) s.lines_are ∙ ap (λ (x : List (List ℕ)). s.sale ∷ x) (append_assoc (option_to_list related) (option_to_list second) (line ∷ []));
    stands = s.stands;
    code_is = s.code_is;
    related_is = s.related_is;
    fits = s.fits;
    allowed = allowed;
    pays = pays;
    price = is;
    by_cash = tt;
    by_credit = tt;
    by_exchange = tt;
    exchanges = tt;
    end_is = refl;
  },
)

-- a group with one more form
paid_more : (n : ℕ) (code : TransactionCode) (profile : Profile) (b : Bool) (end : LastRecord) (latest : List (List ℕ)) (p : Paying n code profile b end latest) (kind : FormOfPayment) (line : List ℕ) (cash credit exchange : Option (List ℕ))
    → forms_list cash credit exchange ≡ forms_list p.cash p.credit p.exchange ++ line ∷ [] → IfSome cash (IsForm n Cash) → IfSome credit (IsForm n Credit) → IfSome exchange (IsForm n Exchange)
    → IfSome exchange (λ line. has_form code b Exchange ≡ true) → last.Form kind ≡ last_form cash credit exchange → Paying n code profile b (last.Form kind) (latest ++ line ∷ [])
paid_more n code profile b end latest p kind line cash credit exchange forms by_cash by_credit by_exchange exchanges end_is =
    let head = option_to_list p.related in
    let middle = option_to_list p.second in
    let tail = p.amounts ∷ forms_list p.cash p.credit p.exchange in
    let joined : (head ++ (middle ++ tail)) ++ line ∷ [] ≡ head ++ (middle ++ (p.amounts ∷ forms_list cash credit exchange)) =
    append_assoc head (middle ++ tail) (line ∷ []) ∙ ap (λ (x : List (List ℕ)). head ++ x) (append_assoc middle tail (line ∷ []) ∙ ap (λ (x : List (List ℕ)). middle ++ (p.amounts ∷ x)) (sym forms)) in
    record {
      sale = p.sale;
      related = p.related;
      second = p.second;
      amounts = p.amounts;
      cash = cash;
      credit = credit;
      exchange = exchange;
      lines_are = ap (λ (x : List (List ℕ)). x ++ line ∷ []) p.lines_are ∙ ap (λ (x : List (List ℕ)). p.sale ∷ x) joined;
      stands = p.stands;
      code_is = p.code_is;
      related_is = p.related_is;
      fits = p.fits;
      allowed = p.allowed;
      pays = p.pays;
      price = p.price;
      by_cash = by_cash;
      by_credit = by_credit;
      by_exchange = by_exchange;
      exchanges = exchanges;
      end_is = end_is;
    }

credit_more : (cash : Option (List ℕ)) (line : List ℕ) → forms_list cash (Some line) None ≡ forms_list cash None None ++ line ∷ []
credit_more None line = refl
credit_more (Some first) line = refl

exchange_more : (cash credit : Option (List ℕ)) (line : List ℕ) → forms_list cash credit (Some line) ≡ forms_list cash credit None ++ line ∷ []
exchange_more None None line = refl
exchange_more None (Some second) line = refl
exchange_more (Some first) None line = refl
exchange_more (Some first) (Some second) line = refl

paid_with : (n : ℕ) (code : TransactionCode) (profile : Profile) (b : Bool) (end : LastRecord) (latest : List (List ℕ)) (p : Paying n code profile b end latest) (kind : FormOfPayment) (line : List ℕ)
    → takes_form (last_form p.cash p.credit p.exchange) code b (Some kind) ≡ true → IsForm n kind line → Paying n code profile b (last.Form kind) (latest ++ line ∷ [])
paid_with n code profile b end latest p Cash line h is =
    let none = cash_first p.cash p.credit p.exchange code b h in
    paid_more n code profile b end latest p Cash line (Some line) None None (rw (none.0, none.1, none.2) refl) is tt tt tt refl
paid_with n code profile b end latest p Credit line h is =
    let none = credit_next p.cash p.credit p.exchange code b h in
    paid_more n code profile b end latest p Credit line p.cash (Some line) None (rw (none.0, none.1) (credit_more p.cash line)) p.by_cash is tt tt refl
paid_with n code profile b end latest p Exchange line h is =
    let none = exchange_last p.cash p.credit p.exchange code b h in
    paid_more n code profile b end latest p Exchange line p.cash p.credit (Some line) (rw none.0 (exchange_more p.cash p.credit line)) p.by_cash p.by_credit is none.1 refl

with_form : (only : Option ℕ) (before : List (List ℕ)) (n : ℕ) (d : Draft) (line : List ℕ) (l : LastRecord) (code : TransactionCode) (profile : Profile) (b : Bool) (kind : FormOfPayment) → BaseOf profile before n d → Paying n code profile b l d.latest → takes_form l code b (Some kind) ≡ true → IsForm n kind line
    → Read (last.Form kind) code profile b only n (before ++ line ∷ []) (draft d.header d.closed (d.latest ++ line ∷ []) d.trailer)
with_form only before n d line l code profile b kind base p h is = (
  more_lines profile before n d line p.sale (option_to_list p.related ++ (option_to_list p.second ++ (p.amounts ∷ forms_list p.cash p.credit p.exchange))) base p.lines_are,
  paid_with n code profile b l d.latest p kind line (rw p.end_is at h) is,
)

-- a header pays nothing
sum_of : (before : List (List ℕ)) (first : List ℕ) (more : List (List ℕ)) → before ≡ first ∷ more → identifier first ≡ 49 → total_paid before ≡ total_paid more
sum_of before first more e k = ap total_paid e ∙ rw k (+ℤ_idl (total_paid more))

-- a header's profile is one
old_profile : (header : List ℕ) (profile : Profile) → profile_of header ≡ Some profile → profile_of header ≡ Some P001 → profile ≡ P001
old_profile header profile is old = cc (is, old)

with_trailer : (profile : Profile) (only : Option ℕ) (before : List (List ℕ)) (n : ℕ) (d : Draft) (line : List ℕ) (code : TransactionCode) (b : Bool) → Whole profile n before d → IsTrailer (length before + 1) n (total_paid before) line
    → Read last.Trailer code profile b only n (before ++ line ∷ []) (draft d.header (with_group d.closed d.latest) [] line)
with_trailer profile only before n d line code b w is =
    let groups = with_group d.closed d.latest in
    let lines : before ≡ d.header ∷ flatten groups = w.base.lines_are ∙ ap (λ (x : List (List ℕ)). d.header ∷ x) (sym (flatten_with d.closed d.latest)) in
    let records : length before + 1 ≡ length (before ++ line ∷ []) = sym (length-append before (line ∷ [])) in
    let sum : total_paid before ≡ total_paid (flatten groups) = sum_of before d.header (flatten groups) lines (begins_49 d.header w.base.header.begins) in
    record {
      lines_are = ap (λ (x : List (List ℕ)). x ++ line ∷ []) lines;
      header = w.base.header;
      groups = w.groups;
      related = λ old. w.one (old_profile d.header profile w.base.profile_is old);
      trailer = record { wide = is.wide; name = is.name; fields = is.fields; records_are = rw records at is.records_are; transactions_are = rw w.base.count at is.transactions_are; sum_is = rw sum at is.sum_is };
    }

-- ---- a step

abbrev ReadAt : Standing → List (List ℕ) → Draft → Type 0
ReadAt at before d = Read at.last at.code at.profile at.related at.only at.transactions before d

-- behind one more line, from how it stands and what is added
arrive : (before : List (List ℕ)) (at : Standing) (n : ℕ) (code : TransactionCode) (profile : Profile) (b : Bool) (l : LastRecord) (only : Option ℕ) (d d2 : Draft) → Stands at n code profile b l → at.only ≡ only → d ≡ d2 → Read l code profile b only n before d2 → ReadAt at before d
arrive before at n code profile b l only d d2 s alone e r = rw (s.last_is, s.code_is, s.profile_is, s.related_is, alone, s.transactions_are, e) r

here : (at : Standing) → Stands at at.transactions at.code at.profile at.related at.last
here at = record { transactions_are = refl; code_is = refl; profile_is = refl; related_is = refl; last_is = refl }

-- a record without fault goes on with what was read
step : (before : List (List ℕ)) (d : Draft) (line : List ℕ) → ReadAt (standing before) before d → Clean (standing before) line → ReadAt (standing_behind (standing before) line) (before ++ line ∷ []) (add d line)
step before d line r (clean_header p h) =
    let at = standing before in
    let start = started at.last at.code at.profile at.related at.only at.transactions before d p r in
    let k = begins_49 line h.begins in
    let empty : draft line d.closed [] d.trailer ≡ draft line [] [] [] = ap (λ (x : Draft). draft line x.closed [] x.trailer) start.2 in
    arrive (before ++ line ∷ []) _ _ _ _ _ _ _ _ _ (after_header at line _ _ _ _ _ (here at) k) refl (add_header d line k ∙ empty) (with_header before at.transactions line at.code at.related None start.0 start.1 h)
step before d line r (clean_sale p h) =
    let at = standing before in
    let code = sale_known line h.fields in
    arrive (before ++ line ∷ []) _ _ _ _ _ _ _ _ _ (after_sale at line _ _ code.0 _ _ _ (here at) h.name code.1) refl (add_sale d line h.name)
    (with_sale at.profile None before at.transactions d line code.0 (whole at.last at.code at.profile at.related at.only at.transactions before d p r) h code.1)
step before d line r (clean_related p h later) =
    let at = standing before in
    let more = related_more at.last at.code at.profile at.related at.only at.transactions before d line p later h r in
    arrive (before ++ line ∷ []) _ _ _ _ _ _ _ _ _ (after_related at line _ _ _ _ _ (here at) h.name) (only_behind_related at line h.name) (add_more d line 51 h.name refl)
    (with_related at.profile before at.transactions d line at.code at.related more.0 more.1)
step before d line r (clean_amounts p h) =
    let at = standing before in
    let sold = awaiting at.last at.code at.profile at.related at.only at.transactions before d p r in
    arrive (before ++ line ∷ []) _ _ _ _ _ _ _ _ _ (after_amounts at line _ _ _ _ _ (here at) h.name) refl (add_more d line 53 h.name refl)
    (with_amounts at.profile None before at.transactions d line at.code at.related sold.2 sold.3 sold.0 sold.4 sold.5 sold.1 h)
step before d line r (clean_form p h) =
    let at = standing before in
    let form = form_known line h.fields in
    let pays = paying at.last at.code at.profile at.related at.only at.transactions before d (form_of line) p r in
    arrive (before ++ line ∷ []) _ _ _ _ _ _ _ _ _ (after_form at line _ _ _ _ _ form.0 (here at) h.name form.1) refl (add_more d line 56 h.name refl)
    (with_form None before at.transactions d line at.last at.code at.profile at.related form.0 pays.0 pays.1 (rw form.1 at p) (record { stands = h; form = form.1 }))
step before d line r (clean_trailer p h) =
    let at = standing before in
    let after = with_trailer at.profile at.only before at.transactions d line at.code at.related (whole at.last at.code at.profile at.related at.only at.transactions before d p r) h in
    rw (after_trailer at line h.name, add_trailer d line h.name) after

-- ---- all lines

ok_row : (o : Result (Unit {0}) FaultCode) (at : ℕ) (read : Result File RetFault) (f : File) → or_read o at read ≡ Ok f → (o ≡ Ok tt) × (read ≡ Ok f)
ok_row (Ok none) at read f e = (refl, e)
ok_row (Err code) at read f e = absurd cc

ok_end : (b : Bool) (x f : File) (e : RetFault) → cond b (Ok x) (Err e) ≡ Ok f → (b ≡ true) × (x ≡ f)
ok_end true x f e h = (refl, cc)
ok_end false x f e h = absurd cc

sound_from : (lines before : List (List ℕ)) (d : Draft) (f : File) → ReadAt (standing before) before d → read_from (standing before) d lines ≡ Ok f → Ret (before ++ lines) f
sound_from [] before d f r e =
    let at = standing before in
    let a = ok_end (has_ended at.last) (file_of d) f _ (sym (read_nil at d) ∙ e) in
    rw (append-nil, ← a.1) (ended at.last at.code at.profile at.related at.only at.transactions before d a.0 r)
sound_from (line ∷ lines) before d f r e =
    let at = standing before in
    let a = ok_row (row_fault at line) (at.records + 1) (read_from (standing_behind at line) (add d line) lines) f (sym (read_cons at d line lines) ∙ e) in
    let after = step before d line r (clean at line a.0) in
    let back : standing_behind at line ≡ standing (before ++ line ∷ []) = sym (standing_snoc before line) in
    let r2 : ReadAt (standing (before ++ line ∷ [])) (before ++ line ∷ []) (add d line) = subst (λ (x : Standing). ReadAt x (before ++ line ∷ []) (add d line)) back after in
    let e2 : read_from (standing (before ++ line ∷ [])) (add d line) lines ≡ Ok f = subst (λ (x : Standing). read_from x (add d line) lines ≡ Ok f) back a.1 in
    subst (λ (x : List (List ℕ)). Ret x f) (append_assoc before (line ∷ []) lines) (sound_from lines (before ++ line ∷ []) (add d line) f r2 e2)

-- what is read stands in Ret
pub is_file : (lines : List (List ℕ)) (f : File) → read_all lines ≡ Ok f → Ret lines f
is_file lines f e = sound_from lines [] nothing f (refl, refl, refl) e
