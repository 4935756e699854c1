-- The records of a group are those of its lines.
use Rattle.std.proofs.Common.{◌≡◌, ℕ, Bool, true, List, [], ◌∷◌, ◌++◌, ◌+◌, ◌<◌, length, get_or, Option, Some, None, refl, sym, ap, ◌∙◌, subst, arith}
use Rattle.std.specs.Prelude.{IfSome, ◌==◌}
use Rattle.std.specs.Option.{option_to_list}
use Rattle.std.specs.List.{list_all}
use Rattle.std.proofs.lemmas.Bool.{and_parts, eqb-true}
use Rattle.bsp_ret_records.specs.declared.codes.TransactionCode.{TransactionCode}
use Rattle.bsp_ret_records.specs.declared.codes.FormOfPayment.{FormOfPayment}
use Rattle.bsp_ret_records.specs.declared.codes.FormOfPayment.TheVariants.{Cash, Credit, Exchange}
use Rattle.bsp_fields.specs.Columns.{identifier, is_wide, is_printable}
use Rattle.bsp_ret_records.specs.Records.{code_of, sale_fits, related_fits, amounts_fit, form_of, form_fits, IsFit}
use Rattle.bsp_ret.proofs.Wide.{group_at}
use Rattle.bsp_ret.proofs.BodyLemmas.{BodyFacts, body_facts, first_related, second_related}
use Rattle.bsp_ret.specs.Ret.{File, Ret, Group, forms_of, AreRelated, IsRecord, IsForm, HasBody, IsGroup}
use Rattle.bsp_ret.specs.Groups.{sale_alone, with_related, with_form, with_record, with_records, HasRecords, AreFit}
use Rattle.bsp_ret_records.specs.declared.transactions.Transaction.{Transaction}
use Rattle.bsp_ret.specs.Content.{IsContent, HasContent}
use Rattle.bsp_ret_records.specs.Values.{IsSale}
use Rattle.bsp_ret.specs.Sales.{HasSale}
use Rattle.bsp_ret.specs.declared.fields.GroupFields.{GroupFields}
use Rattle.bsp_ret.specs.Slices.{AreFieldsOf, HasFields}
use Rattle.bsp_ret_records.specs.declared.transactions.PaidSale.{PaidSale}
use Rattle.bsp_ret.specs.Table.{total_paid}
use Rattle.bsp_fields.specs.Lines.{lines, BeginsOtherwise}

-- ---- one record

pub with_nothing : (g : Group) → with_records g [] ≡ g
unfolding with_records
with_nothing g = refl

pub with_one : (g : Group) (line : List ℕ) (lines : List (List ℕ)) → with_records g (line ∷ lines) ≡ with_records (with_record g line) lines
unfolding with_records
with_one g line lines = refl

with_51 : (g : Group) (line : List ℕ) → identifier line ≡ 51 → with_record g line ≡ with_related g.related g line
unfolding with_record
with_51 g line name = rw name refl

with_53 : (g : Group) (line : List ℕ) → identifier line ≡ 53 → with_record g line ≡ record g { amounts = Some line }
unfolding with_record
with_53 g line name = rw name refl

with_56 : (g : Group) (line : List ℕ) (form : FormOfPayment) → identifier line ≡ 56 → form_of line ≡ Some form → with_record g line ≡ with_form (Some form) g line
unfolding with_record
with_56 g line form name is = rw (name, is) refl

-- ---- what stands behind a record 2

behind : (n : ℕ) (g : Group) (code : Option TransactionCode) → HasBody n g code → BodyFacts n g
behind n g None body = absurd body
behind n g (Some code) body = body_facts n g code body

-- ---- all records, one kind after the other

-- a first record 3, and a second
with_first : (g : Group) (line : List ℕ) → g.related ≡ None → identifier line ≡ 51 → with_record g line ≡ record g { related = Some line }
with_first g line none name = with_51 g line name ∙ ap (λ o. with_related o g line) none

with_second : (g : Group) (first line : List ℕ) → g.related ≡ Some first → identifier line ≡ 51 → with_record g line ≡ record g { second = Some line }
with_second g first line some name = with_51 g line name ∙ ap (λ o. with_related o g line) some

all_related : (n : ℕ) (g : Group) (related second : Option (List ℕ)) (more : List (List ℕ)) → g.related ≡ None → g.second ≡ None → AreRelated n related second
    → with_records g (option_to_list related ++ (option_to_list second ++ more)) ≡ with_records (record g { related = related; second = second }) more
all_related n g None None more none no_second are = ap (λ o. with_records (record g { related = o; second = g.second }) more) none ∙ ap (λ o. with_records (record g { related = None; second = o }) more) no_second
all_related n g (Some line) None more none no_second are =
    with_one g line more ∙ ap (λ h. with_records h more) (with_first g line none are.name) ∙ ap (λ o. with_records (record g { related = Some line; second = o }) more) no_second
all_related n g (Some line) (Some second) more none no_second are =
    with_one g line (second ∷ more) ∙ ap (λ h. with_records h (second ∷ more)) (with_first g line none are.0.name)
    ∙ with_one (record g { related = Some line }) second more ∙ ap (λ h. with_records h more) (with_second (record g { related = Some line }) line second refl are.1.name)
all_related n g None (Some second) more none no_second are = absurd are

all_amounts : (n : ℕ) (g : Group) (amounts : Option (List ℕ)) (more : List (List ℕ)) → g.amounts ≡ None → IfSome amounts (IsRecord 53 n amounts_fit) → with_records g (option_to_list amounts ++ more) ≡ with_records (record g { amounts = amounts }) more
all_amounts n g None more none is = ap (λ o. with_records (record g { amounts = o }) more) none
all_amounts n g (Some line) more none is = with_one g line more ∙ ap (λ h. with_records h more) (with_53 g line is.name)

all_cash : (n : ℕ) (g : Group) (cash : Option (List ℕ)) (more : List (List ℕ)) → g.cash ≡ None → IfSome cash (IsForm n Cash) → with_records g (option_to_list cash ++ more) ≡ with_records (record g { cash = cash }) more
all_cash n g None more none is = ap (λ o. with_records (record g { cash = o }) more) none
all_cash n g (Some line) more none is = with_one g line more ∙ ap (λ h. with_records h more) (with_56 g line Cash is.stands.name is.form)

all_credit : (n : ℕ) (g : Group) (credit : Option (List ℕ)) (more : List (List ℕ)) → g.credit ≡ None → IfSome credit (IsForm n Credit) → with_records g (option_to_list credit ++ more) ≡ with_records (record g { credit = credit }) more
all_credit n g None more none is = ap (λ o. with_records (record g { credit = o }) more) none
all_credit n g (Some line) more none is = with_one g line more ∙ ap (λ h. with_records h more) (with_56 g line Credit is.stands.name is.form)

all_exchange : (n : ℕ) (g : Group) (exchange : Option (List ℕ)) → g.exchange ≡ None → IfSome exchange (IsForm n Exchange) → with_records g (option_to_list exchange) ≡ record g { exchange = exchange }
all_exchange n g None none is = with_nothing g ∙ ap (λ o. record g { exchange = o }) none
all_exchange n g (Some line) none is = with_one g line [] ∙ with_nothing (with_record g line) ∙ with_56 g line Exchange is.stands.name is.form

all_records : (n : ℕ) (g : Group) → BodyFacts n g → with_records (sale_alone g.sale) (option_to_list g.related ++ (option_to_list g.second ++ (option_to_list g.amounts ++ forms_of g))) ≡ g
all_records n g b =
    let sold = record (sale_alone g.sale) { related = g.related; second = g.second } in
    all_related n (sale_alone g.sale) g.related g.second (option_to_list g.amounts ++ forms_of g) refl refl b.related
    ∙ all_amounts n sold g.amounts (forms_of g) refl b.amounts
    ∙ all_cash n (record sold { amounts = g.amounts }) g.cash (option_to_list g.credit ++ option_to_list g.exchange) refl b.cash
    ∙ all_credit n (record sold { amounts = g.amounts; cash = g.cash }) g.credit (option_to_list g.exchange) refl b.credit
    ∙ all_exchange n (record sold { amounts = g.amounts; cash = g.cash; credit = g.credit }) g.exchange refl b.exchange

-- the records that the lines give are the group's
pub has_records : (n : ℕ) (lines : List (List ℕ)) (g : Group) → IsGroup n lines → ((sale : List ℕ) (more : List (List ℕ)) → lines ≡ sale ∷ more → g ≡ with_records (sale_alone sale) more) → HasRecords n lines g
has_records n lines g is split = record {
  is = is;
  group_is = sym (split is.group.sale (option_to_list is.group.related ++ (option_to_list is.group.second ++ (option_to_list is.group.amounts ++ forms_of is.group))) is.lines_are ∙ all_records n is.group (behind n is.group (code_of is.group.sale) is.body));
}

-- ---- widths

pub wide_length : (line : List ℕ) → is_wide line ≡ true → length line ≡ 136
unfolding is_wide
wide_length line wide = eqb-true (length line) 136 (and_parts (length line == 136) (list_all is_printable line) wide).0

pub first_wide : (line : List ℕ) (lines : List (List ℕ)) → list_all is_wide (line ∷ lines) ≡ true → (length line ≡ 136) × (list_all is_wide lines ≡ true)
first_wide line lines all =
    let both = and_parts (is_wide line) (list_all is_wide lines) all in
    (wide_length line both.0, both.1)

-- ---- the groups of a file

pub nth_group : (lines : List (List ℕ)) (file : File) (index : ℕ) (groups : List (List (List ℕ))) (group : List (List ℕ)) → Ret lines file → groups ≡ file.groups → index < length groups → group ≡ get_or groups index [] → IsGroup (index + 1) group
nth_group lines file index groups group ret same below is =
    let next : 1 + index ≡ index + 1 = omega arith in
    let IsNumbered : ℕ → Type 0 = λ n. IsGroup n (get_or file.groups index []) in
    let IsThis : List (List ℕ) → Type 0 = λ ls. IsGroup (index + 1) ls in
    let there : index < length file.groups = rw (← same) below in
    subst IsThis (sym (is ∙ ap (λ xs. get_or xs index []) same)) (subst IsNumbered next (group_at file.groups 1 index ret.groups there))

fit_if : (letter n : ℕ) (fits : List ℕ → Bool) (o : Option (List ℕ)) → IfSome o (IsRecord letter n fits) → IfSome o (IsFit fits)
fit_if letter n fits None is = tt
fit_if letter n fits (Some line) is = (wide_length line is.wide, is.fields)

fit_form : (n : ℕ) (form : FormOfPayment) (o : Option (List ℕ)) → IfSome o (IsForm n form) → IfSome o (IsFit form_fits)
fit_form n form None is = tt
fit_form n form (Some line) is = (wide_length line is.stands.wide, is.stands.fields)

-- the fields of a group's records fit
pub group_fits : (n : ℕ) (lines : List (List ℕ)) (g : Group) → HasRecords n lines g → AreFit g
group_fits n lines g has =
    let h = has.is.group in
    let b = behind n h (code_of h.sale) has.is.body in
    subst AreFit has.group_is (record {
      sale = (wide_length h.sale has.is.sale.wide, has.is.sale.fields);
      related = fit_if 51 n related_fits h.related (first_related n h.related h.second b.related);
      second = fit_if 51 n related_fits h.second (second_related n h.related h.second b.related);
      amounts = fit_if 53 n amounts_fit h.amounts b.amounts;
      cash = fit_form n Cash h.cash b.cash;
      credit = fit_form n Credit h.credit b.credit;
      exchange = fit_form n Exchange h.exchange b.exchange;
    })

pub has_content : (n : ℕ) (lines : List (List ℕ)) (g : Group) (t : Transaction) → HasRecords n lines g → IsContent g t → HasContent n lines t
has_content n lines g t has content =
    let Values : Group → Type 0 = λ h. IsContent h t in
    record { is = has.is; content = subst Values (sym has.group_is) content }

pub has_fields : (n : ℕ) (lines : List (List ℕ)) (g : Group) (f : GroupFields) → HasRecords n lines g → AreFieldsOf g f → HasFields n lines f
has_fields n lines g f has fields =
    let Fields : Group → Type 0 = λ h. AreFieldsOf h f in
    record { is = has.is; fields = subst Fields (sym has.group_is) fields }

-- ---- the record 2 of a group

first_of : (first sale : List ℕ) (more others : List (List ℕ)) → first ∷ more ≡ sale ∷ others → first ≡ sale
first_of first sale more others same = cc same

pub sale_fit : (n : ℕ) (lines : List (List ℕ)) → IsGroup n lines → (first : List ℕ) (more : List (List ℕ)) → lines ≡ first ∷ more → IsFit sale_fits first
sale_fit n lines is first more split =
    let same : is.group.sale ≡ first = sym (first_of first is.group.sale more _ (sym split ∙ is.lines_are)) in
    subst (IsFit sale_fits) same (wide_length is.group.sale is.sale.wide, is.sale.fields)

pub has_sale : (n : ℕ) (lines : List (List ℕ)) (p : PaidSale) → IsGroup n lines → ((first : List ℕ) (more : List (List ℕ)) → lines ≡ first ∷ more → IsSale first p.sale) → p.paid ≡ total_paid lines → HasSale n lines p
has_sale n lines p is sale paid = record { is = is; sale = sale is.group.sale _ is.lines_are; paid = paid }

-- the first record of lines that all have their width
pub no_other : (text : List ℕ) → BeginsOtherwise text → list_all is_wide (lines text) ≡ true → ⊥
no_other text other all =
    let wide : is_wide other.line ≡ true = (and_parts (is_wide other.line) (list_all is_wide (lines other.rest)) (rw other.first.cut at all)).0 in
    absurd (cc (wide, other.narrow))
