-- How many records 3 a group has.
use Rattle.std.proofs.Common.{◌≡◌, ℕ, ◌+◌, false, cond, List, [], ◌∷◌, ◌++◌, count_by, ◌∙◌, Option, None, Some, option_to_list, refl, arith}
use Rattle.std.specs.Prelude.{IfSome}
use Rattle.std.proofs.lemmas.List.Sums.{sum_by-append}
use Rattle.std.proofs.lemmas.Option.{IfSome_then}
use Rattle.bsp_ret_records.specs.declared.codes.FormOfPayment.{FormOfPayment}
use Rattle.bsp_ret_records.specs.Records.{sale_fits, related_fits, amounts_fit}
use Rattle.bsp_ret.specs.Table.{is_related}
use Rattle.bsp_ret.specs.Ret.{Group, lines_of, forms_of, IsRecord, IsForm}
use Rattle.bsp_ret.proofs.BodyLemmas.{BodyFacts, first_related, second_related}

abbrev pub count_of : {A : Type 0} → Option A → ℕ
count_of None = 0
count_of (Some line) = 1

pub count_cons : (line : List ℕ) (rest : List (List ℕ)) → count_by is_related (line ∷ rest) ≡ cond (is_related line) 1 0 + count_by is_related rest
count_cons line rest = sum_by-append (λ x. cond (is_related x) 1 0) (line ∷ []) rest ∙ omega arith

-- a record 3, where there is one
related_counted : (n : ℕ) (o : Option (List ℕ)) (rest : List (List ℕ)) → IfSome o (IsRecord 51 n related_fits) → count_by is_related (option_to_list o ++ rest) ≡ count_of o + count_by is_related rest
related_counted n None rest is = omega arith
related_counted n (Some line) rest is = count_cons line rest ∙ rw is.name refl

-- another record
other_counted : (o : Option (List ℕ)) (rest : List (List ℕ)) → IfSome o (λ line. is_related line ≡ false) → count_by is_related (option_to_list o ++ rest) ≡ count_by is_related rest
other_counted None rest is = omega arith
other_counted (Some line) rest is = count_cons line rest ∙ rw is (omega arith)

last_counted : (o : Option (List ℕ)) → IfSome o (λ line. is_related line ≡ false) → count_by is_related (option_to_list o) ≡ 0
last_counted None is = omega arith
last_counted (Some line) is = count_cons line [] ∙ rw is (omega arith)

no_amounts : (n : ℕ) (o : Option (List ℕ)) → IfSome o (IsRecord 53 n amounts_fit) → IfSome o (λ line. is_related line ≡ false)
no_amounts n o is = IfSome_then o is (λ line h. rw h.name cc)

no_form : (n : ℕ) (form : FormOfPayment) (o : Option (List ℕ)) → IfSome o (IsForm n form) → IfSome o (λ line. is_related line ≡ false)
no_form n form o is = IfSome_then o is (λ line h. rw h.stands.name cc)

first_counted : (n : ℕ) (sale : List ℕ) (rest : List (List ℕ)) → IsRecord 50 n sale_fits sale → count_by is_related (sale ∷ rest) ≡ count_by is_related rest
first_counted n sale rest is = count_cons sale rest ∙ rw is.name (omega arith)

pub related_count : (n : ℕ) (g : Group) → IsRecord 50 n sale_fits g.sale → BodyFacts n g → count_by is_related (lines_of g) ≡ count_of g.related + count_of g.second
related_count n g sale facts =
    let second_on = option_to_list g.second ++ (option_to_list g.amounts ++ forms_of g) in
    let a = first_counted n g.sale (option_to_list g.related ++ second_on) sale in
    let b = related_counted n g.related second_on (first_related n g.related g.second facts.related) in
    let d = related_counted n g.second (option_to_list g.amounts ++ forms_of g) (second_related n g.related g.second facts.related) in
    let e = other_counted g.amounts (forms_of g) (no_amounts n g.amounts facts.amounts) in
    let f = other_counted g.cash (option_to_list g.credit ++ option_to_list g.exchange) (no_form n _ g.cash facts.cash) in
    let h = other_counted g.credit (option_to_list g.exchange) (no_form n _ g.credit facts.credit) in
    let i = last_counted g.exchange (no_form n _ g.exchange facts.exchange) in
    omega (arith, a, b, d, e, f, h, i)
