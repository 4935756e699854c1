-- A file that is written stands in Ret, with the same values.
use Rattle.std.proofs.Common.{◌≡◌, ℕ, suc, ◌+◌, ◌<◌, ◌^◌, ℤ, pos, ◌+ℤ◌, Bool, true, false, List, [], ◌∷◌, ◌++◌, length, take, get_or, Option, Some, None, IfSome, refl, sym, ap, subst, ◌∙◌, arith, append_assoc, length-append, length-take, length-drop, drop, map, count_by}
use Rattle.std.proofs.Math.IntN.{+ℤ_assoc, +ℤ_idl}
use Rattle.std.specs.Prelude.{codes, nat_le, ◌==◌, OnOk, Result, Ok, Err}
use Rattle.std.specs.Str.{all_ascii_digits}
use Rattle.std.proofs.lemmas.Grind.{common_steps}
use Rattle.std.specs.List.{concat, list_all}
use Rattle.std.specs.Option.{option_to_list}
use Rattle.std.proofs.lemmas.List.{take_more, append-nil}
use Rattle.std.proofs.lemmas.Bool.{and_parts, and_from, eqb-true}
use Rattle.bsp_fields.specs.Zoned.{spelling}
use Rattle.bsp_fields.specs.Decimal.{number_of}
use Rattle.bsp_fields.proofs.DecimalLemmas.{number_of-lt}
use Rattle.bsp_ret_records.specs.declared.transactions.Transaction.{Transaction}
use Rattle.bsp_ret_records.specs.declared.transactions.CardPayment.{CardPayment}
use Rattle.bsp_fields.specs.Lines.{lines, has_end, without_cr}
use Rattle.bsp_fields.specs.Columns.{columns, identifier, is_wide, is_printable, is_space}
use Rattle.bsp_fields.specs.Fields.{is_total, spells}
use Rattle.bsp_ret_records.specs.Records.{transaction_number, record_count, transaction_count, total, sale_fits, related_fits, amounts_fit, trailer_fits, form_amount}
use Rattle.bsp_ret.specs.Table.{is_related, paid, total_paid}
use Rattle.bsp_ret.specs.Ret.{File, flatten, forms_of, IsRecord, IsForm, HasBody, AreGroups, has_one_related, IsTrailer, Ret, file_lines}
use Rattle.bsp_ret_writer.specs.Stored.{IsStored}
use Rattle.bsp_ret.specs.Content.{InBoth, HasContent}
use Rattle.bsp_ret_records.specs.Values.{IsRelated, AreAmounts, IsPayment, IsCardPayment}
use Rattle.bsp_ret_writer.specs.GroupValues.{related_of, second_of}
use Rattle.bsp_ret_records.specs.declared.codes.TransactionCode.{TransactionCode}
use Rattle.bsp_ret_records.specs.declared.codes.FormOfPayment.{FormOfPayment}
use Rattle.bsp_ret_records.specs.declared.codes.FormOfPayment.TheVariants.{Cash, Credit, Exchange}
use Rattle.bsp_ret_writer.specs.Writing.{spaces, group_lines, written_groups, trailer_line, text_of, written_file, HaveContents, AreWritten, IsWritten, IsWrittenTrailer}
use Rattle.bsp_fields.proofs.CutLemmas.{lines_nil, lines_cut}
use Rattle.bsp_ret_writer.proofs.WritingLemmas.{text_of-append}
use Rattle.bsp_ret_writer.proofs.ContentMakes.{content_makes, first_of_places, second_of_places}
use Rattle.bsp_ret.proofs.BodyLemmas.{body_facts, first_related, second_related}
use Rattle.bsp_ret.proofs.RelatedLemmas.{count_of, related_count}
use Rattle.bsp_ret.proofs.SameContent.{has_body_facts}
use Rattle.bsp_ret.proofs.GroupLemmas.{wide_length}
use Rattle.bsp_ret.proofs.TrailerLemmas.{same_sum_of}
use Rattle.bsp_ret.proofs.Wide.{wide_all}
use Rattle.bsp_ret_records.proofs.ValueLemmas.{trailer_fields}
use Rattle.bsp_fields.proofs.FieldLemmas.{field_at, wide_fields}
use Rattle.bsp_fields.proofs.CharacterLemmas.{printable-digits, printable-spelling, length-spelling, list_all-replicate}
use Rattle.bsp_ret_writer.proofs.WrittenGroup.{written_group}

-- ---- one more group

flatten_more : (groups : List (List (List ℕ))) (group : List (List ℕ)) → flatten (groups ++ group ∷ []) ≡ flatten groups ++ group
flatten_more [] group = append-nil group
flatten_more (first ∷ groups) group = ap (λ rest. first ++ rest) (flatten_more groups group) ∙ sym (append_assoc first (flatten groups) group)

pub contents_more : (n : ℕ) (groups : List (List (List ℕ))) (ts : List Transaction) (group : List (List ℕ)) (t : Transaction) → HaveContents n groups ts → HasContent (n + length groups) group t → HaveContents n (groups ++ group ∷ []) (ts ++ t ∷ [])
contents_more n [] [] group t have has = (subst (λ (k : ℕ). HasContent k group t) (omega arith) has, tt)
contents_more n (first ∷ groups) (u ∷ ts) group t have has =
    (have.0, contents_more (suc n) groups ts group t have.1 (subst (λ (k : ℕ). HasContent k group t) (omega arith) has))
contents_more n [] (u ∷ ts) group t have has = absurd have
contents_more n (first ∷ groups) [] group t have has = absurd have

pub same_length : (n : ℕ) (groups : List (List (List ℕ))) (ts : List Transaction) → HaveContents n groups ts → length groups ≡ length ts
same_length n [] [] have = refl
same_length n (group ∷ groups) (t ∷ ts) have = ap suc (same_length (suc n) groups ts have.1)
same_length n [] (t ∷ ts) have = absurd have
same_length n (group ∷ groups) [] have = absurd have

written_more : (n : ℕ) (ts : List Transaction) (t : Transaction) → written_groups n (ts ++ t ∷ []) ≡ written_groups n ts ++ group_lines (n + length ts) t ∷ []
written_more n [] t = ap (λ k. group_lines k t ∷ []) (omega arith)
written_more n (u ∷ ts) t =
    ap (λ rest. group_lines n u ∷ rest) (written_more (suc n) ts t ∙ ap (λ k. written_groups (suc n) ts ++ group_lines k t ∷ []) (omega arith))

length-written : (n : ℕ) (ts : List Transaction) → length (written_groups n ts) ≡ length ts
length-written n [] = refl
length-written n (t ∷ ts) = ap suc (length-written (suc n) ts)

-- a transaction's number has six digits
small_number : (n : ℕ) (line : List ℕ) → spells n (transaction_number line) ≡ true → n < 10 ^ 6
small_number n line is =
    let parts = and_parts (all_ascii_digits (transaction_number line)) (number_of (transaction_number line) == n) is in
    let same : number_of (transaction_number line) ≡ n = eqb-true (number_of (transaction_number line)) n parts.1 in
    rw (← same) (number_of-lt (transaction_number line) 6 parts.0 (rw (length-take 6 (drop 1 line)) (omega arith)))

pub written_again : (n : ℕ) (lines : List (List ℕ)) (t : Transaction) → HasContent n lines t → IsStored t → HasContent n (group_lines n t) t
written_again n lines t has stored =
    written_group n t stored (content_makes n lines t has) (small_number n has.is.group.sale has.is.sale.number)

pub more_written : (old text more : List ℕ) (groups : List (List (List ℕ))) (index : ℕ) (t : Transaction) → index < length groups → AreWritten old (take index groups) text → HasContent (index + 1) (get_or groups index []) t → IsStored t → more ≡ text ++ text_of (group_lines (index + 1) t) → AreWritten old (take (index + 1) groups) more
more_written old text more groups index t below are has stored is =
    let ts = are.transactions in
    let group = get_or groups index [] in
    let few : length (take index groups) ≡ index = length-take index groups ∙ omega (arith, below) in
    let count : length ts ≡ index = sym (same_length 1 (take index groups) ts are.contents) ∙ few in
    let at : index + 1 ≡ 1 + length ts = omega (arith, count) in
    let at_groups : index + 1 ≡ 1 + length (take index groups) = omega (arith, few) in
    let at_written : index + 1 ≡ 1 + length (written_groups 1 ts) = omega (arith, count, length-written 1 ts) in
    let Numbered : ℕ → Type 0 = λ k. HasContent k group t in
    let again : HasContent (index + 1) (group_lines (index + 1) t) t = written_again (index + 1) group t has stored in
    let Groups : List (List (List ℕ)) → Type 0 = λ gs. HaveContents 1 gs (ts ++ t ∷ []) in
    let Written : ℕ → Type 0 = λ k. HasContent k (group_lines (index + 1) t) t in
    let lines_are : written_groups 1 (ts ++ t ∷ []) ≡ written_groups 1 ts ++ group_lines (index + 1) t ∷ [] = written_more 1 ts t ∙ ap (λ k. written_groups 1 ts ++ group_lines k t ∷ []) (sym at) in
    record {
      transactions = ts ++ t ∷ [];
      contents = subst Groups (sym (take_more groups index [] below)) (contents_more 1 (take index groups) ts group t are.contents (subst Numbered at_groups has));
      same_contents = subst Groups (sym lines_are) (contents_more 1 (written_groups 1 ts) ts (group_lines (index + 1) t) t are.same_contents (subst Written at_written again));
      text_is = is
          ∙ ap (λ front. front ++ text_of (group_lines (index + 1) t)) are.text_is
          ∙ append_assoc old (text_of (flatten (written_groups 1 ts))) (text_of (group_lines (index + 1) t))
          ∙ ap (λ rest. old ++ rest) (sym (text_of-append (flatten (written_groups 1 ts)) (group_lines (index + 1) t)) ∙ ap text_of (sym (flatten_more (written_groups 1 ts) (group_lines (index + 1) t)) ∙ ap flatten (sym lines_are)));
    }

-- ---- what the groups of the same values have in common

abbrev amount_or : Option ℤ → ℤ
amount_or None = pos 0
amount_or (Some amount) = amount

abbrev card_amount : Option CardPayment → Option ℤ
card_amount None = None
card_amount (Some card) = Some card.amount

-- records that are no form pay nothing
total_other : (letter n : ℕ) (fits : List ℕ → Bool) (o : Option (List ℕ)) (rest : List (List ℕ)) → (letter == 56) ≡ false → IfSome o (IsRecord letter n fits) → total_paid (option_to_list o ++ rest) ≡ total_paid rest
total_other letter n fits None rest other is = refl
total_other letter n fits (Some line) rest other is = rw (is.name, other) (+ℤ_idl (total_paid rest))

form_pays : (n : ℕ) (kind : FormOfPayment) (line : List ℕ) (amount : ℤ) → IsForm n kind line → IsPayment line amount → paid line ≡ amount
unfolding form_amount
form_pays n kind line amount is pays = rw (is.stands.name, pays) refl

total_form : (n : ℕ) (kind : FormOfPayment) (o : Option (List ℕ)) (p : Option ℤ) (rest : List (List ℕ)) → IfSome o (IsForm n kind) → InBoth IsPayment o p → total_paid (option_to_list o ++ rest) ≡ amount_or p +ℤ total_paid rest
total_form n kind None None rest is pays = sym (+ℤ_idl (total_paid rest))
total_form n kind (Some line) (Some amount) rest is pays = ap (λ x. x +ℤ total_paid rest) (form_pays n kind line amount is pays)
total_form n kind None (Some amount) rest is pays = absurd pays
total_form n kind (Some line) None rest is pays = absurd pays

card_pays : (o : Option (List ℕ)) (p : Option CardPayment) → InBoth IsCardPayment o p → InBoth IsPayment o (card_amount p)
card_pays None None pays = tt
card_pays (Some line) (Some card) pays = pays.amount
card_pays None (Some card) pays = absurd pays
card_pays (Some line) None pays = absurd pays

abbrev sum_of : Transaction → ℤ
sum_of t = amount_or t.cash +ℤ (amount_or (card_amount t.credit) +ℤ (amount_or t.exchange +ℤ pos 0))

group_total : (n : ℕ) (lines : List (List ℕ)) (t : Transaction) → HasContent n lines t → total_paid lines ≡ sum_of t
group_total n lines t has =
    let g = has.is.group in
    let content = has.content in
    let Body : Option TransactionCode → Type 0 = λ o. HasBody n g o in
    let facts = body_facts n g t.code (subst Body content.code has.is.body) in
    let forms = option_to_list g.credit ++ option_to_list g.exchange in
    let last : total_paid (option_to_list g.exchange) ≡ amount_or t.exchange +ℤ pos 0 = ap total_paid (sym (append-nil (option_to_list g.exchange))) ∙ total_form n Exchange g.exchange t.exchange [] facts.exchange content.exchange in
    ap total_paid has.is.lines_are
    ∙ total_other 50 n sale_fits (Some g.sale) (option_to_list g.related ++ (option_to_list g.second ++ (option_to_list g.amounts ++ forms_of g))) refl has.is.sale
    ∙ total_other 51 n related_fits g.related (option_to_list g.second ++ (option_to_list g.amounts ++ forms_of g)) refl (first_related n g.related g.second facts.related)
    ∙ total_other 51 n related_fits g.second (option_to_list g.amounts ++ forms_of g) refl (second_related n g.related g.second facts.related)
    ∙ total_other 53 n amounts_fit g.amounts (forms_of g) refl facts.amounts
    ∙ total_form n Cash g.cash t.cash forms facts.cash content.cash
    ∙ ap (λ x. amount_or t.cash +ℤ x) (total_form n Credit g.credit (card_amount t.credit) (option_to_list g.exchange) facts.credit (card_pays g.credit t.credit content.credit) ∙ ap (λ x. amount_or (card_amount t.credit) +ℤ x) last)

same_count : {A B : Type 0} (P : A → B → Type 0) (o : Option A) (p : Option B) → InBoth P o p → length (option_to_list o) ≡ count_of p
same_count P None None both = refl
same_count P (Some x) (Some y) both = refl
same_count P None (Some y) both = absurd both
same_count P (Some x) None both = absurd both

abbrev records_in : Transaction → ℕ
records_in t =
    1 + (count_of (related_of t) + (count_of (second_of t) + (count_of t.amounts + (count_of t.cash + (count_of t.credit + count_of t.exchange)))))

group_length : (n : ℕ) (lines : List (List ℕ)) (t : Transaction) → HasContent n lines t → length lines ≡ records_in t
group_length n lines t has =
    let g = has.is.group in
    let content = has.content in
    let first = first_of_places g.related g.second t.related content.related in
    let second = second_of_places g.related g.second t.related content.related in
    let behind : length (option_to_list g.related ++ (option_to_list g.second ++ (option_to_list g.amounts ++ forms_of g))) ≡ count_of (related_of t) + (count_of (second_of t) + (count_of t.amounts + (count_of t.cash + (count_of t.credit + count_of t.exchange)))) =
    length-append (option_to_list g.related) (option_to_list g.second ++ (option_to_list g.amounts ++ forms_of g))
    ∙ rw (length-append (option_to_list g.second) (option_to_list g.amounts ++ forms_of g), length-append (option_to_list g.amounts) (forms_of g), length-append (option_to_list g.cash) (option_to_list g.credit ++ option_to_list g.exchange), length-append (option_to_list g.credit) (option_to_list g.exchange), same_count IsRelated g.related (related_of t) first, same_count IsRelated g.second (second_of t) second, same_count AreAmounts g.amounts t.amounts content.amounts, same_count IsPayment g.cash t.cash content.cash, same_count IsCardPayment g.credit t.credit content.credit, same_count IsPayment g.exchange t.exchange content.exchange) refl in
    let all : suc (length (option_to_list g.related ++ (option_to_list g.second ++ (option_to_list g.amounts ++ forms_of g)))) ≡ records_in t = omega (arith, behind) in
    ap length has.is.lines_are ∙ all

-- the records 3 of a group
same_number : {A B : Type 0} (P : A → B → Type 0) (o : Option A) (p : Option B) → InBoth P o p → count_of o ≡ count_of p
same_number P None None both = refl
same_number P (Some x) (Some y) both = refl
same_number P None (Some y) both = absurd both
same_number P (Some x) None both = absurd both

group_related : (n : ℕ) (lines : List (List ℕ)) (t : Transaction) → HasContent n lines t → count_by is_related lines ≡ count_of (related_of t) + count_of (second_of t)
group_related n lines t has =
    let g = has.is.group in
    let first = same_number IsRelated g.related (related_of t) (first_of_places g.related g.second t.related has.content.related) in
    let second = same_number IsRelated g.second (second_of t) (second_of_places g.related g.second t.related has.content.related) in
    ap (count_by is_related) has.is.lines_are ∙ related_count n g has.is.sale (has_body_facts n lines t has) ∙ rw (first, second) refl

group_one : (n : ℕ) (lines others : List (List ℕ)) (t : Transaction) → HasContent n lines t → HasContent n others t → has_one_related lines ≡ true → has_one_related others ≡ true
group_one n lines others t has other one =
    ap (λ k. nat_le k 1) (group_related n others t other ∙ sym (group_related n lines t has)) ∙ one

all_one : (n : ℕ) (groups others : List (List (List ℕ))) (ts : List Transaction) → HaveContents n groups ts → HaveContents n others ts → list_all has_one_related groups ≡ true → list_all has_one_related others ≡ true
all_one n [] [] [] have other one = refl
all_one n (group ∷ groups) (again ∷ others) (t ∷ ts) have other one =
    let parts = and_parts (has_one_related group) (list_all has_one_related groups) one in
    and_from _ _ (group_one n group again t have.0 other.0 parts.0) (all_one (suc n) groups others ts have.1 other.1 parts.1)
all_one n [] others (t ∷ ts) have other one = absurd have
all_one n (group ∷ groups) others [] have other one = absurd have
all_one n groups [] (t ∷ ts) have other one = absurd other
all_one n groups (again ∷ others) [] have other one = absurd other

abbrev sums_of : List Transaction → ℤ
sums_of [] = pos 0
sums_of (t ∷ ts) = sum_of t +ℤ sums_of ts

abbrev all_records_in : List Transaction → ℕ
all_records_in [] = 0
all_records_in (t ∷ ts) = records_in t + all_records_in ts

total_paid-append : (xs ys : List (List ℕ)) → total_paid (xs ++ ys) ≡ total_paid xs +ℤ total_paid ys
total_paid-append [] ys = sym (+ℤ_idl (total_paid ys))
total_paid-append (x ∷ xs) ys = ap (λ y. paid x +ℤ y) (total_paid-append xs ys) ∙ sym (+ℤ_assoc (paid x) (total_paid xs) (total_paid ys))

all_total : (n : ℕ) (groups : List (List (List ℕ))) (ts : List Transaction) → HaveContents n groups ts → total_paid (flatten groups) ≡ sums_of ts
all_total n [] [] have = refl
all_total n (group ∷ groups) (t ∷ ts) have =
    total_paid-append group (flatten groups)
    ∙ rw (group_total n group t have.0, all_total (suc n) groups ts have.1) refl
all_total n [] (t ∷ ts) have = absurd have
all_total n (group ∷ groups) [] have = absurd have

all_length : (n : ℕ) (groups : List (List (List ℕ))) (ts : List Transaction) → HaveContents n groups ts → length (flatten groups) ≡ all_records_in ts
all_length n [] [] have = refl
all_length n (group ∷ groups) (t ∷ ts) have =
    length-append group (flatten groups)
    ∙ rw (group_length n group t have.0, all_length (suc n) groups ts have.1) refl
all_length n [] (t ∷ ts) have = absurd have
all_length n (group ∷ groups) [] have = absurd have

are_groups : (n : ℕ) (groups : List (List (List ℕ))) (ts : List Transaction) → HaveContents n groups ts → AreGroups n groups
are_groups n [] [] have = tt
are_groups n (group ∷ groups) (t ∷ ts) have = (have.0.is, are_groups (suc n) groups ts have.1)
are_groups n [] (t ∷ ts) have = absurd have
are_groups n (group ∷ groups) [] have = absurd have

-- ---- the trailer

record TrailerColumns (line records transactions sum rest : List ℕ) : Type 0 where
  pub wide : is_wide line ≡ true
  pub name : identifier line ≡ 90
  pub records_at : record_count line ≡ records
  pub transactions_at : transaction_count line ≡ transactions
  pub sum_at : total line ≡ sum
  pub rest_at : columns 31 136 line ≡ rest

trailer_widths : (records transactions sum rest : List ℕ) → length records ≡ 7 → length transactions ≡ 7 → length sum ≡ 15 → length rest ≡ 106 → map length (codes "Z" ∷ records ∷ transactions ∷ sum ∷ rest ∷ []) ≡ 1 ∷ 7 ∷ 7 ∷ 15 ∷ 106 ∷ []
trailer_widths records transactions sum rest a b d e = rw (a, b, d, e) refl

trailer_printable : (records transactions sum rest : List ℕ) → list_all is_printable records ≡ true → list_all is_printable transactions ≡ true → list_all is_printable sum ≡ true → list_all is_printable rest ≡ true → list_all (list_all is_printable) (codes "Z" ∷ records ∷ transactions ∷ sum ∷ rest ∷ []) ≡ true
trailer_printable records transactions sum rest a b d e = rw (a, b, d, e) refl

trailer_columns : (records transactions sum rest : List ℕ) → map length (codes "Z" ∷ records ∷ transactions ∷ sum ∷ rest ∷ []) ≡ 1 ∷ 7 ∷ 7 ∷ 15 ∷ 106 ∷ [] → list_all (list_all is_printable) (codes "Z" ∷ records ∷ transactions ∷ sum ∷ rest ∷ []) ≡ true → TrailerColumns (concat (codes "Z" ∷ records ∷ transactions ∷ sum ∷ rest ∷ [])) records transactions sum rest
trailer_columns records transactions sum rest wide printable =
    let widths : List ℕ = 1 ∷ 7 ∷ 7 ∷ 15 ∷ 106 ∷ [] in
    let fields : List (List ℕ) = codes "Z" ∷ records ∷ transactions ∷ sum ∷ rest ∷ [] in
    record {
      wide = wide_fields widths fields wide refl printable;
      name = refl;
      records_at = field_at 1 widths fields wide;
      transactions_at = field_at 2 widths fields wide;
      sum_at = field_at 3 widths fields wide;
      rest_at = field_at 4 widths fields wide;
    }

trailer_fits-columns : (line records transactions sum rest : List ℕ) → TrailerColumns line records transactions sum rest → all_ascii_digits records ≡ true → all_ascii_digits transactions ≡ true → is_total sum ≡ true → list_all is_space rest ≡ true → trailer_fits line ≡ true
unfolding trailer_fits
trailer_fits-columns line records transactions sum rest c counted numbered is blank =
    rw (c.records_at, counted, c.transactions_at, numbered, c.sum_at, is, c.rest_at, blank) refl

trailer_line-columns : (line : List ℕ) (sum : ℤ) → length line ≡ 136 → trailer_fits line ≡ true → TrailerColumns (trailer_line line sum) (record_count line) (transaction_count line) (spelling 15 sum) (spaces 106)
unfolding trailer_line
trailer_line-columns line sum wide fits =
    let digits = trailer_fields line fits in
    trailer_columns (record_count line) (transaction_count line) (spelling 15 sum) (spaces 106)
    (trailer_widths (record_count line) (transaction_count line) (spelling 15 sum) (spaces 106) (rw (length-take 7 (drop 1 line), length-drop 1 line, wide) refl) (rw (length-take 7 (drop 8 line), length-drop 8 line, wide) refl) (length-spelling 15 sum (omega arith)) refl)
    (trailer_printable (record_count line) (transaction_count line) (spelling 15 sum) (spaces 106) (printable-digits (record_count line) digits.records) (printable-digits (transaction_count line) digits.transactions) (printable-spelling 15 sum) (list_all-replicate is_printable 106 32 refl))

trailer_line-stands : (records transactions : ℕ) (sum : ℤ) (line : List ℕ) → IsTrailer records transactions sum line → IsWrittenTrailer line sum → IsTrailer records transactions sum (trailer_line line sum)
trailer_line-stands records transactions sum line is written =
    let c = trailer_line-columns line sum (wide_length line is.wide) is.fields in
    let digits = trailer_fields line is.fields in
    record {
      wide = c.wide;
      name = c.name;
      fields = trailer_fits-columns (trailer_line line sum) (record_count line) (transaction_count line) (spelling 15 sum) (spaces 106) c digits.records digits.transactions (rw written.same_sum refl) (list_all-replicate is_space 106 32 refl);
      records_are = rw c.records_at is.records_are;
      transactions_are = rw c.transactions_at is.transactions_are;
      sum_is = rw c.sum_at written.same_sum;
    }

-- what a success says of a trailer that was written
pub trailer_pushed : {A E : Type 0} (r : Result A E) (line fields text old : List ℕ) (sum : ℤ) → OnOk r (text ≡ old ++ fields ++ 10 ∷ []) → fields ≡ trailer_line line sum → IsWrittenTrailer line sum → OnOk r ((s : ℤ) × (IsWrittenTrailer line s × (text ≡ old ++ trailer_line line s ++ 10 ∷ [])))
trailer_pushed (Ok done) line fields text old sum is same written = (sum, (written, is ∙ ap (λ x. old ++ x ++ 10 ∷ []) same))
trailer_pushed (Err e) line fields text old sum is same written = tt

-- ---- the lines of the text

not_end : (c : ℕ) → is_printable c ≡ true → (c == 10) ≡ false
not_end c h = grind (arith, common_steps)

not_cr : (c : ℕ) → is_printable c ≡ true → (c == 13) ≡ false
not_cr c h = grind (arith, common_steps)

no_end : (line : List ℕ) → list_all is_printable line ≡ true → has_end line ≡ false
no_end [] all = refl
no_end (c ∷ line) all =
    let parts = and_parts (is_printable c) (list_all is_printable line) all in
    rw (not_end c parts.0) (no_end line parts.1)

no_cr : (line : List ℕ) → list_all is_printable line ≡ true → without_cr line ≡ line
no_cr [] all = refl
no_cr (c ∷ []) all = rw (not_cr c (and_parts (is_printable c) true all).0) refl
no_cr (c ∷ d ∷ line) all =
    ap (λ rest. c ∷ rest) (no_cr (d ∷ line) ((and_parts (is_printable c) (list_all is_printable (d ∷ line)) all).1))

wide_printable : (line : List ℕ) → is_wide line ≡ true → list_all is_printable line ≡ true
unfolding is_wide
wide_printable line wide = (and_parts (length line == 136) (list_all is_printable line) wide).1

pub lines-text_of : (ls : List (List ℕ)) → list_all is_wide ls ≡ true → lines (text_of ls) ≡ ls
lines-text_of [] all = lines_nil
lines-text_of (line ∷ ls) all =
    let parts = and_parts (is_wide line) (list_all is_wide ls) all in
    let printable = wide_printable line parts.0 in
    ap lines (append_assoc line (10 ∷ []) (text_of ls))
    ∙ lines_cut line (text_of ls) (no_end line printable)
    ∙ rw (no_cr line printable, lines-text_of ls parts.1) refl

-- ---- the whole

stands_again : (ls : List (List ℕ)) (file : File) (ts : List Transaction) (sum : ℤ) → Ret ls file → HaveContents 1 file.groups ts → HaveContents 1 (written_groups 1 ts) ts → IsWrittenTrailer file.trailer sum → Ret (file_lines (written_file file ts sum)) (written_file file ts sum)
stands_again ls file ts sum ret have again written =
    let same_total : total_paid (flatten file.groups) ≡ total_paid (flatten (written_groups 1 ts)) = all_total 1 file.groups ts have ∙ sym (all_total 1 (written_groups 1 ts) ts again) in
    let count : length file.groups ≡ length (written_groups 1 ts) = same_length 1 file.groups ts have ∙ sym (length-written 1 ts) in
    let behind : length (flatten file.groups) ≡ length (flatten (written_groups 1 ts)) = all_length 1 file.groups ts have ∙ sym (all_length 1 (written_groups 1 ts) ts again) in
    let records : length ls ≡ length (file_lines (written_file file ts sum)) = ap length ret.lines_are ∙ ap suc (length-append (flatten file.groups) (file.trailer ∷ []) ∙ ap (λ k. k + 1) behind ∙ sym (length-append (flatten (written_groups 1 ts)) (trailer_line file.trailer sum ∷ []))) in
    let is_sum : total_paid (flatten file.groups) ≡ sum = same_sum_of (total file.trailer) (total_paid (flatten file.groups)) sum ret.trailer.sum_is written.sum_is in
    let Ends : ℤ → Type 0 = λ x. IsTrailer (length ls) (length file.groups) x file.trailer in
    let ends = trailer_line-stands (length ls) (length file.groups) sum file.trailer (subst Ends is_sum ret.trailer) written in
    let Records : ℕ → Type 0 = λ k. IsTrailer k (length (written_groups 1 ts)) (total_paid (flatten (written_groups 1 ts))) (trailer_line file.trailer sum) in
    let Count : ℕ → Type 0 = λ k. IsTrailer (length ls) k (total_paid (flatten (written_groups 1 ts))) (trailer_line file.trailer sum) in
    let Sum : ℤ → Type 0 = λ x. IsTrailer (length ls) (length file.groups) x (trailer_line file.trailer sum) in
    record {
      lines_are = refl;
      header = ret.header;
      groups = are_groups 1 (written_groups 1 ts) ts again;
      related = λ old. all_one 1 file.groups (written_groups 1 ts) ts have again (ret.related old);
      trailer = subst Records records (subst Count count (subst Sum (sym is_sum ∙ same_total) ends));
    }

text_of-file : (header trailer : List ℕ) (middle : List (List ℕ)) → ((header ++ 10 ∷ []) ++ text_of middle) ++ trailer ++ 10 ∷ [] ≡ text_of (header ∷ (middle ++ trailer ∷ []))
text_of-file header trailer middle =
    append_assoc ((header ++ 10 ∷ []) ++ text_of middle) trailer (10 ∷ [])
    ∙ append_assoc (header ++ 10 ∷ []) (text_of middle) (trailer ++ 10 ∷ [])
    ∙ ap (λ rest. (header ++ 10 ∷ []) ++ rest) (ap (λ last. text_of middle ++ last) (sym (append-nil (trailer ++ 10 ∷ []))) ∙ sym (text_of-append middle (trailer ∷ [])))

pub all_written : (ls : List (List ℕ)) (file : File) (old front text : List ℕ) (sum : ℤ) → Ret ls file → old ≡ file.header ++ 10 ∷ [] → AreWritten old file.groups front → IsWrittenTrailer file.trailer sum → text ≡ front ++ trailer_line file.trailer sum ++ 10 ∷ [] → IsWritten file text
all_written ls file old front text sum ret begins are written is =
    let ts = are.transactions in
    let f = written_file file ts sum in
    let again = stands_again ls file ts sum ret are.contents are.same_contents written in
    let text_is : text ≡ text_of (file_lines f) = is ∙ ap (λ x. x ++ trailer_line file.trailer sum ++ 10 ∷ []) (are.text_is ∙ ap (λ x. x ++ text_of (flatten (written_groups 1 ts))) begins) ∙ text_of-file file.header (trailer_line file.trailer sum) (flatten (written_groups 1 ts)) in
    let cut : file_lines f ≡ lines text = sym (ap lines text_is ∙ lines-text_of (file_lines f) (wide_all (file_lines f) f again)) in
    let Stands : List (List ℕ) → Type 0 = λ x. Ret x f in
    record {
      transactions = ts;
      sum = sum;
      contents = are.contents;
      sum_is = written.sum_is;
      text_is = text_is;
      stands = subst Stands cut again;
      same_contents = are.same_contents;
      same_sum = rw ((trailer_line-columns file.trailer sum (wide_length file.trailer ret.trailer.wide) ret.trailer.fields).sum_at) written.same_sum;
    }
