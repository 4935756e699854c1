-- Lemmas on the text of a plan.
use Rattle.std.proofs.Common.{◌≡◌, ℕ, zero, suc, ◌+◌, ◌/◌, ◌%◌, ◌≤◌, ◌<◌, ◌&&◌, ◌==◌, Bool, true, false, List, [], ◌∷◌, ◌++◌, length, get_or, take, Option, Some, None, String, Global, Ordering, Less, Equal, Greater, string_bytes, nat_cmp, refl, ap, sym, subst, ◌∙◌, arith, pos, nat_le}
use Rattle.std.specs.Prelude.{IsUtf8, Ok, codes}
use Rattle.std.specs.List.{list_all}
use Rattle.std.specs.Ordering.{match_ordering}
use Rattle.std.specs.Cmp.Lexicographic.{slice_cmp}
use Rattle.std.specs.String.{string_cmp}
use Rattle.std.specs.BTreeMap.{insert_entry}
use Rattle.std.proofs.Math.Dec.{leb-zero}
use Rattle.std.proofs.lemmas.Str.{IsUtf8-append, IsUtf8-from_ascii}
use Rattle.std.proofs.lemmas.Bool.{and_parts}
use Rattle.std.proofs.lemmas.List.{take_all, take_more}
use Rattle.toml.specs.Data.{Data, Items, no_items, item, Members, no_members, member, integer, string, array, table, depth, items_depth, members_depth, push_item}
use Rattle.toml.specs.View.{items_view, view, members_view}
use Rattle.toml.specs.declared.value.Value.{Value}
use Rattle.toml.proofs.Views.{Entry, items_view-push}
use Rattle.bsp_fields.specs.CivilDay.{CivilDay}
use Rattle.bsp_fields.specs.Codes.{code_reading}
use Rattle.bsp_fields.specs.Days.{day_text, text_reading}
use Rattle.bsp_fields.specs.Decimal.{fixed_digits}
use Rattle.bsp_calendar.specs.Letters.{are_letters, currency_reading}
use Rattle.bsp_calendar.specs.History.{IsTextOf}
use Rattle.bsp_calendar.specs.PlanDocument.{PlanData, airline_of, currency_of, document_of, each, period_of, plan_data, plan_in, rate_of, tax_of}
use Rattle.bsp_calendar.specs.Published.{Published, opening}
use Rattle.bsp_calendar.specs.Requests.{extended, once, same_airline, same_period, same_rate, same_tax, terms_within_bounds, with_entries}
use Rattle.bsp_calendar.specs.SoundPlan.{IsSoundPlan}
use Rattle.bsp_calendar.specs.declared.entries.CommissionTax.{CommissionTax}
use Rattle.bsp_calendar.specs.declared.entries.Period.{Period}
use Rattle.bsp_calendar.specs.declared.entries.PlanText.{PlanText}
use Rattle.bsp_calendar.specs.declared.entries.Rate.{Rate}
use Rattle.bsp_calendar.specs.declared.entries.Terms.{Terms}
use Rattle.bsp_calendar.proofs.MadeLemmas.{airlines_once, made_again, periods_once, rates_once, taxes_once}
use Rattle.bsp_calendar.proofs.OutcomeLemmas.{published}
use Rattle.bsp_plan_trial.specs.Texts.{AreItemsOf, IsDocumentOf, IsValueOf, PutsList, PutsLists, PutsTerms, SaysPlan, entries_with, put, unbegun}

-- ---- tables

view_of_place : (o : Ordering) (a b c : List Entry) → members_view (match_ordering o a b c) ≡ match_ordering o (members_view a) (members_view b) (members_view c)
view_of_place Less a b c = refl
view_of_place Equal a b c = refl
view_of_place Greater a b c = refl

pub view_of_insert : (es : List Entry) (k : String Global) (v : Value) → members_view (insert_entry string_cmp es k v) ≡ put (string_bytes k) (view v) (members_view es)
view_of_insert [] k v = refl
view_of_insert (e ∷ es) k v = view_of_place (string_cmp k e.0) _ _ _ ∙ rw (view_of_insert es k v)

shallow_at : (o : Ordering) (a b c : Members) (n : ℕ) → members_depth a ≤ n → members_depth b ≤ n → members_depth c ≤ n → members_depth (match_ordering o a b c) ≤ n
shallow_at Less a b c n x y z = x
shallow_at Equal a b c n x y z = y
shallow_at Greater a b c n x y z = z

-- what is put into members does not make them deeper than it is
pub put_depth : (key : List ℕ) (d : Data) (ms : Members) (n : ℕ) → depth d ≤ n → members_depth ms ≤ n → members_depth (put key d ms) ≤ n
put_depth key d no_members n x y = omega arith
put_depth key d (member other e ms) n x y =
    shallow_at (slice_cmp nat_cmp key other) (member key d (member other e ms)) (member other d ms) (member other e (put key d ms)) n (omega arith) (omega arith) (omega (arith, put_depth key d ms n x (omega arith)))

-- ---- characters

one_byte : (c : ℕ) → c < 128 → IsUtf8 (c ∷ [])
one_byte c small = IsUtf8-from_ascii (c ∷ []) (λ i. at i)
  where
    at : (i : ℕ) → get_or (c ∷ []) i 0 < 128
    at zero = small
    at (suc i) = omega arith

no_byte : IsUtf8 []
no_byte = IsUtf8-from_ascii [] (λ i. omega arith)

pub digits_utf8 : (width n : ℕ) → IsUtf8 (fixed_digits width n)
digits_utf8 zero n = no_byte
digits_utf8 (suc width) n = IsUtf8-append (fixed_digits width (n / 10)) ((48 + n % 10) ∷ []) (digits_utf8 width (n / 10)) (one_byte (48 + n % 10) (grind arith))

dashed : (xs ys : List ℕ) → IsUtf8 xs → IsUtf8 ys → IsUtf8 (xs ++ 45 ∷ ys)
dashed xs ys x y = IsUtf8-append xs (45 ∷ ys) x (IsUtf8-append (45 ∷ []) ys (one_byte 45 (omega arith)) y)

pub day_utf8 : (d : CivilDay) → IsUtf8 (day_text d)
day_utf8 d =
    dashed (fixed_digits 4 d.year) (fixed_digits 2 d.month ++ 45 ∷ fixed_digits 2 d.day) (digits_utf8 4 d.year) (dashed (fixed_digits 2 d.month) (fixed_digits 2 d.day) (digits_utf8 2 d.month) (digits_utf8 2 d.day))

letters_utf8 : (text : List ℕ) → are_letters text ≡ true → IsUtf8 text
letters_utf8 [] are = no_byte
letters_utf8 (c ∷ text) are =
    let both = and_parts (nat_le 65 c && nat_le c 90) (are_letters text) are in
    let ends = and_parts (nat_le 65 c) (nat_le c 90) both.0 in
    let small : c < 128 = grind (arith, ends.1) in
    IsUtf8-append (c ∷ []) text (one_byte c small) (letters_utf8 text both.1)

pub currency_utf8 : (text x : List ℕ) → currency_reading text ≡ Some x → IsUtf8 text
currency_utf8 text x reads = by ((length text == 3) && are_letters text) refl reads
  where
    by : (b : Bool) → ((length text == 3) && are_letters text) ≡ b → currency_reading text ≡ Some x → IsUtf8 text
    by true is h = letters_utf8 text (and_parts (length text == 3) (are_letters text) is).1
    by false is h = absurd (cc (sym (rw is at h)))

-- ---- lists

module _ {A : Type 0} (form : Data → Option A) where
  each_step : (e d : Data) (items : Items) (xs : List A) (x : A) (o : Option A) → form e ≡ o → (r : Option (List A)) → each form items ≡ r → ((ys : List A) → each form items ≡ Some ys → each form (push_item items d) ≡ Some (ys ++ x ∷ []))
      → each form (item e items) ≡ Some xs → each form (push_item (item e items) d) ≡ Some (xs ++ x ∷ [])
  each_step e d items xs x None is r rest more all = let none : None ≡ Some xs = rw is at all in absurd (cc none)
  each_step e d items xs x (Some y) is None rest more all = let none : None ≡ Some xs = rw (is, rest) at all in absurd (cc none)
  each_step e d items xs x (Some y) is (Some ys) rest more all =
      let same : Some (y ∷ ys) ≡ Some xs = rw (is, rest) at all in
      let list : y ∷ ys ≡ xs = cc in
      rw (is, more ys rest) (ap (λ (zs : List A). Some (zs ++ x ∷ [])) list)

  -- one more item
  pub each_more : (items : Items) (xs : List A) (d : Data) (x : A) → each form items ≡ Some xs → form d ≡ Some x → each form (push_item items d) ≡ Some (xs ++ x ∷ [])
  each_more no_items xs d x all one = let same : [] ≡ xs = cc in rw one (ap (λ (ys : List A). Some (ys ++ x ∷ [])) same)
  each_more (item e items) xs d x all one = each_step e d items xs x (form e) refl (each form items) refl (λ ys rest. each_more items ys d x rest one) all

  pub items_none : (vs : List Value) → vs ≡ [] → AreItemsOf form [] (items_view vs)
  items_none vs none = subst (λ (l : List Value). AreItemsOf form [] (items_view l)) (sym none) (record { reads = refl; flat = omega arith })

  items_depth_more : (items : Items) (d : Data) (n : ℕ) → items_depth items ≤ n → depth d ≤ n → items_depth (push_item items d) ≤ n
  items_depth_more no_items d n x y = omega arith
  items_depth_more (item e items) d n x y = omega (arith, items_depth_more items d n (omega arith) y)

  pub items_more : (xs : List A) (i : ℕ) (x : A) (before after : List Value) (v : Value) → i < length xs → AreItemsOf form (take i xs) (items_view before) → after ≡ before ++ v ∷ [] → IsValueOf form 1 (get_or xs i x) (view v)
      → AreItemsOf form (take (i + 1) xs) (items_view after)
  items_more xs i x before after v below are more is =
      let now : items_view after ≡ push_item (items_view before) (view v) = ap items_view more ∙ items_view-push before v in
      subst (AreItemsOf form (take (i + 1) xs)) (sym now)
      (record {
        reads = each_more (items_view before) (take i xs) (view v) (get_or xs i x) are.reads is.reads ∙ ap (λ (ys : List A). Some ys) (sym (take_more xs i x below));
        flat = items_depth_more (items_view before) (view v) 1 are.flat is.flat;
      })

  pub items_all : (xs : List A) (i : ℕ) (items : Items) → length xs ≤ i → AreItemsOf form (take i xs) items → AreItemsOf form xs items
  items_all xs i items past are = subst (λ (ys : List A). AreItemsOf form ys items) (take_all i xs past) are

-- ---- entries

pub rate_is : (r : Rate) (airline from : List ℕ) (ms : Members) → code_reading 3 airline ≡ Ok r.airline → text_reading from ≡ Ok r.from → nat_le r.hundredths 10_000 ≡ true
    → ms ≡ put (codes "hundredths") (integer (pos r.hundredths)) (put (codes "from") (string from) (put (codes "airline") (string airline) no_members)) → IsValueOf rate_of 1 r (table ms)
rate_is r airline from ms its_airline its_from within is =
    let least : nat_le 0 r.hundredths ≡ true = leb-zero r.hundredths in
    subst (λ (m : Members). IsValueOf rate_of 1 r (table m)) (sym is) (record { reads = rw (its_airline, its_from, least, within) refl; flat = omega arith })

pub period_is : (q : Period) (code first last remit : List ℕ) (ms : Members) → code_reading 5 code ≡ Ok q.code → text_reading first ≡ Ok q.first → text_reading last ≡ Ok q.last → text_reading remit ≡ Ok q.remittance
    → ms ≡ put (codes "remit") (string remit) (put (codes "last") (string last) (put (codes "first") (string first) (put (codes "code") (string code) no_members))) → IsValueOf period_of 1 q (table ms)
period_is q code first last remit ms its_code its_first its_last its_remit is =
    subst (λ (m : Members). IsValueOf period_of 1 q (table m)) (sym is) (record { reads = rw (its_code, its_first, its_last, its_remit) refl; flat = omega arith })

pub tax_is : (t : CommissionTax) (from : List ℕ) (ms : Members) → text_reading from ≡ Ok t.from → nat_le t.hundredths 10_000 ≡ true → ms ≡ put (codes "hundredths") (integer (pos t.hundredths)) (put (codes "from") (string from) no_members)
    → IsValueOf tax_of 1 t (table ms)
tax_is t from ms its_from within is =
    let least : nat_le 0 t.hundredths ≡ true = leb-zero t.hundredths in
    subst (λ (m : Members). IsValueOf tax_of 1 t (table m)) (sym is) (record { reads = rw (its_from, least, within) refl; flat = omega arith })

-- ---- documents

-- the members that are put into a document are read as they were put
all_read : (c : Data) (terms : Terms) (a r q t : Items) (p : Published) → currency_of c ≡ Some terms.currency → terms_within_bounds terms ≡ true → each airline_of a ≡ Some p.airlines → each rate_of r ≡ Some p.rates → each period_of q ≡ Some p.periods
    → each tax_of t ≡ Some p.commission_taxes
    → plan_in
    (put (codes "commission_tax") (array t)
    (put (codes "period") (array q)
    (put (codes "rate") (array r)
    (put (codes "airline") (array a)
    (put (codes "documents_limit") (integer (pos terms.documents_limit))
    (put (codes "review_days") (integer (pos terms.review_days)) (put (codes "currency") c no_members)))))))
    ≡ Some (entries_with terms p)
all_read c terms a r q t p currency bounds airlines rates periods taxes =
    let both = and_parts (nat_le 1 terms.review_days && nat_le terms.review_days 60) (nat_le 1 terms.documents_limit && nat_le terms.documents_limit 1_000_000) bounds in
    rw (currency, both.0, both.1, airlines, rates, periods, taxes) refl

-- and nest no deeper than tables in lists
flat_lists : (p : Published) (old new : Members) → members_depth old ≤ 2 → PutsLists p old new → members_depth new ≤ 2
flat_lists p old new flat puts =
    let first : members_depth puts.first ≤ 2 = flat_list airline_of (codes "airline") p.airlines old puts.first flat puts.airlines in
    let second : members_depth puts.second ≤ 2 = flat_list rate_of (codes "rate") p.rates puts.first puts.second first puts.rates in
    let third : members_depth puts.third ≤ 2 = flat_list period_of (codes "period") p.periods puts.second puts.third second puts.periods in
    flat_list tax_of (codes "commission_tax") p.commission_taxes puts.third new third puts.taxes
  where
    flat_list : {A : Type 0} (form : Data → Option A) (key : List ℕ) (xs : List A) (before after : Members) → members_depth before ≤ 2 → PutsList form key xs before after → members_depth after ≤ 2
    flat_list form key xs before after flat list =
        let deep : members_depth (put key (array list.items) before) ≤ 2 = put_depth key (array list.items) before 2 (omega (arith, list.are.flat)) flat in
        subst (λ (ms : Members). members_depth ms ≤ 2) (sym list.new_is) deep

pub document_is : (terms : Terms) (p : Published) (first new : Members) → IsSoundPlan p → p.terms ≡ Some terms → PutsTerms terms no_members first → PutsLists p first new → IsDocumentOf terms p new
document_is terms p first new sound has puts lists =
    let bounds = sound.terms_bounds terms has in
    let shown = all_read puts.currency terms lists.airlines.items lists.rates.items lists.periods.items lists.taxes.items p puts.is.reads bounds lists.airlines.are.reads lists.rates.are.reads lists.periods.are.reads lists.taxes.are.reads in
    let with_airlines = lists.airlines.new_is ∙ ap (put (codes "airline") (array lists.airlines.items)) puts.new_is in
    let with_rates = lists.rates.new_is ∙ ap (put (codes "rate") (array lists.rates.items)) with_airlines in
    let with_periods = lists.periods.new_is ∙ ap (put (codes "period") (array lists.periods.items)) with_rates in
    let whole = lists.taxes.new_is ∙ ap (put (codes "commission_tax") (array lists.taxes.items)) with_periods in
    let one : members_depth (put (codes "currency") puts.currency no_members) ≤ 2 = put_depth (codes "currency") puts.currency no_members 2 (omega (arith, puts.is.flat)) (omega arith) in
    let two = put_depth (codes "review_days") (integer (pos terms.review_days)) (put (codes "currency") puts.currency no_members) 2 (omega arith) one in
    let three = put_depth (codes "documents_limit") (integer (pos terms.documents_limit)) (put (codes "review_days") (integer (pos terms.review_days)) (put (codes "currency") puts.currency no_members)) 2 (omega arith) two in
    record {
      says = ap plan_in whole ∙ shown;
      flat = flat_lists p first new (subst (λ (ms : Members). members_depth ms ≤ 2) (sym puts.new_is) three) lists;
    }

-- ---- the plan that is made

plan_is : (p : Published) (terms : Terms) (entries : PlanText) → IsSoundPlan p → p.terms ≡ Some terms → plan_data entries ≡ entries_with terms p → with_entries opening entries ≡ unbegun p
plan_is p terms entries sound has same =
    let term : Some entries.terms ≡ p.terms = ap (λ (d : PlanData). Some d.terms) same ∙ sym has in
    let airlines : once same_airline entries.airlines.items ≡ p.airlines = ap (λ (d : PlanData). once same_airline d.airlines) same ∙ airlines_once p.airlines sound.airlines in
    let rates : once same_rate entries.rates.items ≡ p.rates = ap (λ (d : PlanData). once same_rate d.rates) same ∙ rates_once p.rates sound.rates in
    let periods : once same_period entries.periods.items ≡ p.periods = ap (λ (d : PlanData). once same_period d.periods) same ∙ periods_once p.periods sound.periods in
    let taxes : once same_tax entries.commission_taxes.items ≡ p.commission_taxes = ap (λ (d : PlanData). once same_tax d.commission_taxes) same ∙ taxes_once p.commission_taxes sound.commission_taxes in
    λ i. record { terms = term i; airlines = airlines i; rates = rates i; periods = periods i; commission_taxes = taxes i; day = opening.day; closed = [] }

makes : (p : Published) (terms : Terms) (entries : PlanText) → IsSoundPlan p → p.terms ≡ Some terms → plan_data entries ≡ entries_with terms p → extended opening entries ≡ Ok (unbegun p)
makes p terms entries sound is same =
    let text : IsTextOf p entries = record {
      terms = is ∙ ap (λ (d : PlanData). Some d.terms) (sym same);
      airlines = ap (λ (d : PlanData). d.airlines) same;
      rates = ap (λ (d : PlanData). d.rates) same;
      periods = ap (λ (d : PlanData). d.periods) same;
      commission_taxes = ap (λ (d : PlanData). d.commission_taxes) same;
    } in
    let reached = (made_again p sound).with_terms entries text in
    let made : with_entries opening entries ≡ reached.0 = (published opening entries reached.0 reached.1).is in
    reached.1 ∙ ap (λ (q : Published). Ok q) (sym made ∙ plan_is p terms entries sound is same)

pub says_plan : (p : Published) (terms : Terms) (ms : Members) (text : List ℕ) → IsSoundPlan p → p.terms ≡ Some terms → IsDocumentOf terms p ms → document_of text ≡ Some ms → SaysPlan p text
says_plan p terms ms text sound is document reads = record {
  terms = terms;
  are_published = is;
  says = rw (reads, document.says) refl;
  makes = λ entries same. makes p terms entries sound is same;
}

pub all_true : {A : Type 0} (xs : List A) → list_all (λ (x : A). true) xs ≡ true
all_true [] = refl
all_true (x ∷ xs) = all_true xs
