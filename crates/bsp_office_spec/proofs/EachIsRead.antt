-- Each body has a reading as a RET file: its transactions, or its first fault.
use Rattle.std.proofs.Common.{◌≡◌, ℕ, ℤ, suc, Bool, true, false, List, [], ◌∷◌, length, drop, length-take, length-drop, Option, Some, None, IfSome, is_some, Result, Ok, Err, refl, subst, arith}
use Rattle.std.specs.Prelude.{◌==◌, is_ok}
use Rattle.std.specs.List.{list_all}
use Rattle.std.specs.Str.{all_ascii_digits}
use Rattle.std.proofs.lemmas.Bool.{and_parts, eqb-true}
use Rattle.bsp_rows.specs.Codes.{code_reading}
use Rattle.bsp_rows.specs.Days.{record_reading}
use Rattle.bsp_rows.specs.Decimal.{number_of}
use Rattle.bsp_rows.specs.Zoned.{zoned_reading}
use Rattle.bsp_rows.specs.Columns.{columns, is_letter_or_digit, is_printable, is_space, is_wide}
use Rattle.bsp_rows.specs.Fields.{is_amount}
use Rattle.bsp_rows.specs.Lines.{lines}
use Rattle.bsp_rows.specs.Taxes.{tax_fits, tax_places}
use Rattle.bsp_rows.proofs.DigitLemmas.{digits-take}
use Rattle.bsp_hot.specs.Content.{HasContent, InBoth, IsContent}
use Rattle.bsp_hot.specs.Ret.{AreGroups, Group, HasBody, IsForm, IsGroup, IsRecord}
use Rattle.bsp_hot.specs.Table.{first_fault}
use Rattle.bsp_hot.specs.RetFault.{RetFault}
use Rattle.bsp_hot.proofs.BodyLemmas.{body_facts, first_related, second_related}
use Rattle.bsp_hot.proofs.LawLemmas.{law}
use Rattle.bsp_rows.specs.Records.{agent, agent_and_document, amounts_fit, code_of, commission, document, fare, issued, passenger, payment_amount, rate, related_document, related_fits, sale_fits, vendor}
use Rattle.bsp_rows.specs.Values.{AreAmounts, AreTaxes, IsCardPayment, IsDocument, IsPayment, IsRelated, IsTax}
use Rattle.bsp_rows.specs.FormOfPayment.{FormOfPayment}
use Rattle.bsp_rows.specs.FormOfPayment.TheVariants.{Cash, Credit, Exchange}
use Rattle.bsp_rows.specs.TransactionCode.{TransactionCode}
use Rattle.bsp_rows.specs.Amounts.{Amounts}
use Rattle.bsp_rows.specs.CardPayment.{CardPayment}
use Rattle.bsp_rows.specs.ReportedDocument.{ReportedDocument}
use Rattle.bsp_rows.specs.Tax.{Tax}
use Rattle.bsp_rows.specs.Transaction.{Transaction}
use Rattle.bsp_rows.proofs.ReadLemmas.{related_digits, sale_fields}
use Rattle.bsp_rows.proofs.ValueLemmas.{amounts_fields, form_amount_is, place_fits}
use Rattle.bsp_rows.specs.Writing.{HaveContents}
use Rattle.bsp_office_spec.specs.Laws.{EachFileIsRead}
use Rattle.bsp_office_spec.specs.Requests.{FileRead, IsFileOf}

-- ---- values of what fits

pub value_of : {A F : Type 0} (r : Result A F) → is_ok r ≡ true → (x : A) × (r ≡ Ok x)
value_of (Ok x) h = (x, refl)
value_of (Err fault) h = absurd (cc h)

some_of : {A : Type 0} (o : Option A) → is_some o ≡ true → (x : A) × (o ≡ Some x)
some_of (Some x) h = (x, refl)
some_of None h = absurd (cc h)

-- a value where there is a record
both : {A B : Type 0} (holds : A → B → Type 0) (Fit : A → Type 0) → ((x : A) → Fit x → (y : B) × holds x y) → (o : Option A) → IfSome o Fit → (p : Option B) × InBoth holds o p
both holds Fit each None h = (None, tt)
both holds Fit each (Some x) h = let k = each x h in (Some k.0, k.1)

width : (line : List ℕ) → is_wide line ≡ true → length line ≡ 136
unfolding is_wide
width line wide = eqb-true (length line) 136 (and_parts (length line == 136) (list_all is_printable line) wide).0

-- ---- documents

three_digits : (text : List ℕ) → length text ≡ 3 → all_ascii_digits text ≡ true → code_reading 3 text ≡ Ok (number_of text)
three_digits text wide digits = rw (wide, digits) refl

document_read : (text : List ℕ) → length text ≡ 14 → all_ascii_digits text ≡ true → (d : ReportedDocument) × IsDocument text d
document_read text wide digits = (
  record { airline = number_of (columns 1 3 text); number = columns 4 13 text; check_digit = number_of (columns 14 14 text) },
  record { airline = three_digits (columns 1 3 text) (omega (arith, wide, length-take 3 text)) (digits-take 3 text digits); number = refl; check_digit = refl },
)

related_read : (n : ℕ) (line : List ℕ) → IsRecord 51 n related_fits line → (d : ReportedDocument) × IsRelated line d
related_read n line is =
    document_read (related_document line) (omega (arith, width line is.wide, length-take 14 (drop 7 line), length-drop 7 line)) (related_digits line is.fields)

-- ---- amounts

tax_read : (place : List ℕ) → place_fits place ≡ true → (tax : Option Tax) × IsTax place tax
tax_read place fit = by (list_all is_space place) refl where
  used : list_all is_space place ≡ false → tax_fits place ≡ true
  used not_blank = rw not_blank at fit

  by : (b : Bool) → list_all is_space place ≡ b → (tax : Option Tax) × IsTax place tax
  by true blank = (None, blank)
  by false not_blank =
      let amount = value_of (zoned_reading 11 (columns 3 13 place)) (and_parts (list_all is_letter_or_digit (columns 1 2 place)) (is_amount (columns 3 13 place)) (used not_blank)).1 in
      (Some (record { code = columns 1 2 place; amount = amount.0 }), (refl, amount.1))

taxes_read : (places : List (List ℕ)) → list_all place_fits places ≡ true → (taxes : List (Option Tax)) × AreTaxes places taxes
taxes_read [] fit = ([], tt)
taxes_read (place ∷ places) fit =
    let parts = and_parts (place_fits place) (list_all place_fits places) fit in
    let first = tax_read place parts.0 in
    let rest = taxes_read places parts.1 in
    (first.0 ∷ rest.0, (first.1, rest.1))

amounts_read : (n : ℕ) (line : List ℕ) → IsRecord 53 n amounts_fit line → (a : Amounts) × AreAmounts line a
amounts_read n line is =
    let fields = amounts_fields line is.fields in
    let of_fare = value_of (zoned_reading 11 (fare line)) fields.fare in
    let of_commission = value_of (zoned_reading 11 (commission line)) fields.commission in
    let taxes = taxes_read (tax_places line) fields.places in (
      record { fare = of_fare.0; taxes = taxes.0; rate = number_of (rate line); commission = of_commission.0 },
      record { fare = of_fare.1; taxes = taxes.1; rate = refl; commission = of_commission.1 },
    )

-- ---- forms

payment_read : (n : ℕ) (kind : FormOfPayment) (line : List ℕ) → IsForm n kind line → (amount : ℤ) × IsPayment line amount
payment_read n kind line is = value_of (zoned_reading 11 (payment_amount line)) (form_amount_is line is.stands.fields)

card_read : (n : ℕ) (line : List ℕ) → IsForm n Credit line → (p : CardPayment) × IsCardPayment line p
card_read n line is =
    let amount = payment_read n Credit line is in
    (record { amount = amount.0; vendor = vendor line }, record { amount = amount.1; vendor = refl })

-- ---- groups

-- the values of a group whose code this is
content_read : (n : ℕ) (g : Group) (code : TransactionCode) → code_of g.sale ≡ Some code → IsRecord 50 n sale_fits g.sale → HasBody n g (Some code) → (t : Transaction) × IsContent g t
content_read n g code is sale body =
    let facts = body_facts n g code body in
    let fields = sale_fields g.sale sale.fields in
    let long : length (document g.sale) ≡ 14 =
    omega (arith, width g.sale sale.wide, length-take 14 (drop 8 (agent_and_document g.sale)), length-drop 8 (agent_and_document g.sale), length-take 22 (drop 11 g.sale), length-drop 11 g.sale) in
    let of_document = document_read (document g.sale) long fields.document in
    let day = value_of (record_reading (issued g.sale)) fields.day in
    let of_related = both IsRelated (IsRecord 51 n related_fits) (related_read n) g.related (first_related n g.related g.second facts.related) in
    let of_second = both IsRelated (IsRecord 51 n related_fits) (related_read n) g.second (second_related n g.related g.second facts.related) in
    let of_amounts = both AreAmounts (IsRecord 53 n amounts_fit) (amounts_read n) g.amounts facts.amounts in
    let of_cash = both IsPayment (IsForm n Cash) (payment_read n Cash) g.cash facts.cash in
    let of_credit = both IsCardPayment (IsForm n Credit) (card_read n) g.credit facts.credit in
    let of_exchange = both IsPayment (IsForm n Exchange) (payment_read n Exchange) g.exchange facts.exchange in (
      record {
        code = code;
        agent = agent g.sale;
        document = of_document.0;
        issued = day.0;
        passenger = passenger g.sale;
        related = of_related.0 ∷ of_second.0 ∷ [];
        amounts = of_amounts.0;
        cash = of_cash.0;
        credit = of_credit.0;
        exchange = of_exchange.0;
      },
      record {
        code = is;
        agent = refl;
        document = of_document.1;
        issued = day.1;
        passenger = refl;
        related = (of_related.1, of_second.1);
        amounts = of_amounts.1;
        cash = of_cash.1;
        credit = of_credit.1;
        exchange = of_exchange.1;
      },
    )

-- each group has values
pub group_read : (n : ℕ) (group : List (List ℕ)) → IsGroup n group → (t : Transaction) × HasContent n group t
group_read n group is =
    let g = is.group in
    let code = some_of (code_of g.sale) (sale_fields g.sale is.sale.fields).code in
    let read = content_read n g code.0 code.1 is.sale (subst (λ (o : Option TransactionCode). HasBody n g o) code.1 is.body) in
    (read.0, record { is = is; content = read.1 })

pub groups_read : (n : ℕ) (groups : List (List (List ℕ))) → AreGroups n groups → (ts : List Transaction) × HaveContents n groups ts
groups_read n [] are = ([], tt)
groups_read n (group ∷ groups) are =
    let first = group_read n group are.0 in
    let rest = groups_read (suc n) groups are.1 in
    (first.0 ∷ rest.0, (first.1, rest.1))

-- ---- files

pub each_file_is_read : EachFileIsRead
each_file_is_read body = by (first_fault (lines body)) refl where
  by : (fault : Option RetFault) → first_fault (lines body) ≡ fault → (read : FileRead) × IsFileOf body read
  by (Some fault) is = (Err fault, is)
  by None none =
      let file = (law (lines body)).file none in
      let ts = groups_read 1 file.0.groups file.1.groups in
      (Ok ts.0, (file.0, file.1, ts.1))
