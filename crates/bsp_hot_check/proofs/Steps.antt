-- Each record that may come next.
use Rattle.std.proofs.Common.{◌≡◌, ℕ, suc, ◌+◌, ◌==◌, ℤ, Bool, true, List, [], ◌∷◌, ◌++◌, length, Option, Some, None, refl, sym, ap, ◌∙◌, arith, length-append, append_assoc, append-nil, add-zero}
use Rattle.std.specs.List.{last_or}
use Rattle.std.specs.Ordering.{int_eq}
use Rattle.std.proofs.lemmas.Bool.{and_from, eq-eqb}
use Rattle.std.proofs.lemmas.Bool.Decides.{Decides-int_eq}
use Rattle.std.proofs.lemmas.Slice.Eq.{bytes_eq-Decides}
use Rattle.std.proofs.lemmas.List.{map-append}
use Rattle.bsp_hot_records.specs.declared.code.DocumentCode.{DocumentCode}
use Rattle.bsp_hot_records.specs.declared.form.FileForm.{FileForm}
use Rattle.bsp_hot_records.specs.declared.totals.Sums.{Sums}
use Rattle.bsp_hot_records.specs.declared.model.Heading.{Heading as JudgedHeading}
use Rattle.bsp_hot_check.specs.declared.model.Place.{Place}
use Rattle.bsp_hot_check.specs.declared.model.Place.TheVariants.{InDocument}
use Rattle.bsp_hot_check.specs.declared.model.OfficeSums.{OfficeSums}
use Rattle.bsp_hot_check.specs.declared.model.Standing.{Standing}
use Rattle.bsp_hot_records.specs.Records.{Days, Heading, Document, Part, amounts, commission, commission_tax, related, cash, credit, exchange, Record, file_header, period_header, office_header, transaction_header, document, part}
use Rattle.bsp_hot_records.specs.Sums.{one_document, add, net_of, with_net, is_same, has_totals}
use Rattle.bsp_hot_check.specs.Hot.{Body, Item, File, IsAfter, AreItems, IsItem, IsFile, part_sums, document_sums, items_sums, file_sums, item_records, items_records}
use Rattle.bsp_hot_records.specs.Judged.{judged_part}
use Rattle.bsp_hot_check.specs.Standings.{judged_sums, is_key_after, is_agent_after, add_at, allowed, step}
use Rattle.bsp_hot_records.proofs.SumLemmas.{plus_assoc, none_right}
use Rattle.bsp_hot_check.proofs.SumLemmas.{document_sums_none, document_sums_snoc, items_sums_snoc, codes_of, codes_snoc, add_at_more}
use Rattle.bsp_hot_check.proofs.PartialItems.{PartialItem, whole, first, code_of, parts_so_far, IsNextPart, item_with, is_item, is_whole, first_code, first_parts, first_progress, first_sound}
use Rattle.bsp_hot_check.proofs.Drafts.{nothing, headed, between, opened, begun, in_item, count_items, number, front, with_items, partial_records, so_far, key_of, key_or, latest_key, last_agent, office_of, office_with, made, IsOpen, IsInItem, Next}

-- ---- helpers

pub allowed_as : (test : Bool) (x y : Standing) → test ≡ true → x ≡ y → allowed test x ≡ Some y
allowed_as test x y h e = rw (h, e) refl

pub same : (r r2 : ℕ) (p p2 : Place) (h : Option JudgedHeading) (o o2 t t2 : ℕ) (f f2 : Sums) (a a2 : Option ℕ) (w w2 : OfficeSums) → r ≡ r2 → p ≡ p2 → o ≡ o2 → t ≡ t2 → f ≡ f2 → a ≡ a2 → w ≡ w2
    → made r p h o t f a w ≡ made r2 p2 h o2 t2 f2 a2 w2
same r r2 p p2 h o o2 t t2 f f2 a a2 w w2 er ep eo et ef ea ew = rw (er, ep, eo, et, ef, ea, ew) refl

pub one_more : (xs ys : List Record) (r : Record) → ys ≡ xs ++ r ∷ [] → length xs + 1 ≡ length ys
one_more xs ys r e = sym (ap length e ∙ length-append xs (r ∷ []))

pub eqb-refl : (n : ℕ) → (n == n) ≡ true
eqb-refl n = eq-eqb n n refl

same_int : (x : ℤ) → int_eq x x ≡ true
same_int x = (Decides-int_eq x x).1 refl

pub has_with_net : (s : Sums) → has_totals s (with_net s) ≡ true
unfolding has_totals is_same
has_with_net s =
    let paid = and_from _ _ (and_from _ _ (eqb-refl s.documents) (same_int s.cash)) (same_int s.credit) in
    let sums = and_from _ _ (and_from _ _ paid (same_int s.commission)) (same_int s.tax) in
    and_from _ _ sums (same_int (net_of s))

-- ---- the headers

pub begins : (h : Heading) → Next nothing (file_header h) (headed h)
unfolding step
begins h = record { stands = refl; records_are = refl; sound = tt }

abbrev pub no_offices : Heading → Days → File
no_offices h days = record { heading = h; days = days; offices = [] }

pub heads : (h : Heading) (days : Days) → Next (headed h) (period_header h.period days) (between (no_offices h days))
unfolding step
heads h days = record {
  stands = allowed_as _ _ _ (eqb-refl h.period) refl;
  records_are = refl;
  sound = tt;
}

-- ---- an office begins

pub opens : (f : File) (agent : ℕ) → IsFile f → is_agent_after (last_agent None f.offices) agent ≡ true → Next (between f) (office_header agent f.heading.period f.heading.currency) (opened f agent)
unfolding step
opens f agent file after = record {
  stands =
      let currency = (bytes_eq-Decides f.heading.currency f.heading.currency).1 refl in
      let test = and_from _ _ (and_from _ _ after (eqb-refl f.heading.period)) currency in
      allowed_as _ _ _ test (same _ _ _ _ _ _ _ _ _ _ _ _ _ _ _ (one_more (front f) (with_items f agent []) (office_header agent f.heading.period f.heading.currency) refl) refl refl refl refl refl refl);
  records_are = refl;
  sound = record { file = file; after = after; are = tt };
}

-- ---- a transaction begins

pub number_none : (f : File) → number f [] ≡ count_items f.offices + 1
number_none f = omega arith

pub begins_first : (f : File) (agent : ℕ) → IsOpen f agent [] → Next (opened f agent) (transaction_header (number f []) f.heading.airline) (begun f agent [])
unfolding step
begins_first f agent is_open = record {
  stands =
      let test = and_from _ _ (eq-eqb _ _ (number_none f)) (eqb-refl f.heading.airline) in
      allowed_as _ _ _ test
      (same _ _ _ _ _ _ _ _ _ _ _ _ _ _ _ (one_more (so_far (opened f agent)) (so_far (begun f agent [])) (transaction_header (number f []) f.heading.airline) refl)
      refl refl (sym (number_none f)) (sym (none_right _)) refl refl);
  records_are = refl;
  sound = is_open;
}

pub last_snoc : {A : Type 0} (before : Option A) (xs : List A) (x : A) → last_or before (xs ++ x ∷ []) ≡ Some x
last_snoc before [] x = refl
last_snoc before (y ∷ xs) x = last_snoc (Some y) xs x

-- an office with one more item
pub office_whole : (items : List Item) (d : Document) (body : Body) → office_with items d (whole body) ≡ office_of (items ++ item_with d body ∷ [])
office_whole items d body =
    let it = item_with d body in
    rw (codes_snoc items it, items_sums_snoc items it, last_snoc None items it) refl

pub number_more : (f : File) (items : List Item) (it : Item) → number f (items ++ it ∷ []) ≡ number f items + 1
number_more f items it = omega (arith, length-append items (it ∷ []))

pub items_records_snoc : (airline agent n : ℕ) (items : List Item) (it : Item) → items_records airline agent n (items ++ it ∷ []) ≡ items_records airline agent n items ++ item_records airline agent (n + length items) it
items_records_snoc airline agent n [] it =
    append-nil (item_records airline agent n it) ∙ ap (λ (k : ℕ). item_records airline agent k it) (sym (add-zero n))
items_records_snoc airline agent n (first_item ∷ items) it =
    let count : n + 1 + length items ≡ n + suc (length items) = omega arith in
    ap (λ (xs : List Record). item_records airline agent n first_item ++ xs)
    (items_records_snoc airline agent (n + 1) items it ∙ ap (λ (k : ℕ). items_records airline agent (n + 1) items ++ item_records airline agent k it) count)
    ∙ sym (append_assoc (item_records airline agent n first_item) (items_records airline agent (n + 1) items) (item_records airline agent (n + suc (length items)) it))

pub with_items_snoc : (f : File) (agent : ℕ) (items : List Item) (it : Item) → with_items f agent (items ++ it ∷ []) ≡ with_items f agent items ++ item_records f.heading.airline agent (number f items) it
with_items_snoc f agent items it =
    let n = 1 + count_items f.offices in
    let header = office_header agent f.heading.period f.heading.currency in
    ap (λ (xs : List Record). front f ++ header ∷ xs) (items_records_snoc f.heading.airline agent n items it)
    ∙ sym (append_assoc (front f) (header ∷ items_records f.heading.airline agent n items) (item_records f.heading.airline agent (number f items) it))

-- an item that is after the last
pub is_after : (before : Option Item) (it : Item) → is_key_after (key_or before) (key_of it) ≡ true → IsAfter before it
is_after None it h = tt
is_after (Some before) it h = h

are_items_snoc : (form : FileForm) (airline : ℕ) (before : Option Item) (items : List Item) (it : Item) → AreItems form airline before items → is_key_after (key_or (last_or before items)) (key_of it) ≡ true → IsItem form airline it
    → AreItems form airline before (items ++ it ∷ [])
are_items_snoc form airline before [] it are after is = (is_after before it after, is, tt)
are_items_snoc form airline before (x ∷ items) it are after is = (are.0, are.1, are_items_snoc form airline (Some x) items it are.2 after is)

pub open_snoc : (f : File) (agent : ℕ) (items : List Item) (d : Document) (body : Body) → IsInItem f agent items d (whole body) → IsOpen f agent (items ++ item_with d body ∷ [])
open_snoc f agent items d body g = record {
  file = g.is_open.file;
  after = g.is_open.after;
  are = are_items_snoc f.heading.form f.heading.airline None items (item_with d body) g.is_open.are g.in_order (is_item f.heading.form f.heading.airline d body g.sound);
}

pub begins_next : (f : File) (agent : ℕ) (items : List Item) (d : Document) (body : Body) → IsInItem f agent items d (whole body)
    → Next (in_item f agent items d (whole body)) (transaction_header (number f (items ++ item_with d body ∷ [])) f.heading.airline) (begun f agent (items ++ item_with d body ∷ []))
unfolding step
begins_next f agent items d body g =
    let it = item_with d body in
    let items2 = items ++ it ∷ [] in
    let r = transaction_header (number f items2) f.heading.airline in
    let records : so_far (begun f agent items2) ≡ so_far (in_item f agent items d (whole body)) ++ r ∷ [] = ap (λ (xs : List Record). xs ++ r ∷ []) (with_items_snoc f agent items it) in
    let office = office_whole items d body in
    record {
      stands =
          let test = and_from _ _ (and_from _ _ (is_whole body) (eq-eqb _ _ (number_more f items it))) (eqb-refl f.heading.airline) in
          allowed_as _ _ _ test
          (same _ _ _ _ _ _ _ _ _ _ _ _ _ _ _ (one_more (so_far (in_item f agent items d (whole body))) (so_far (begun f agent items2)) r records)
          refl refl (sym (number_more f items it)) (ap (λ (w : OfficeSums). add (file_sums f.offices) w.all) office) refl office);
      records_are = records;
      sound = open_snoc f agent items d body g;
    }

-- ---- an item

pub documents : (f : File) (agent : ℕ) (items : List Item) (c : DocumentCode) (d : Document) → IsOpen f agent items → is_key_after (latest_key items) (record { code = c; number = d.number }) ≡ true
    → Next (begun f agent items) (document (number f items) agent c d) (in_item f agent items d (first c))
unfolding step
documents f agent items c d is_open after =
    let r = document (number f items) agent c d in
    let n = number f items in
    let codes_are : partial_records f.heading.airline agent n d (first c) ≡ transaction_header n f.heading.airline ∷ r ∷ [] = rw (first_code c, first_parts c) refl in
    let records : so_far (in_item f agent items d (first c)) ≡ so_far (begun f agent items) ++ r ∷ [] =
    ap (λ (xs : List Record). with_items f agent items ++ xs) codes_are
    ∙ sym (append_assoc (with_items f agent items) (transaction_header n f.heading.airline ∷ []) (r ∷ [])) in
    let parts : one_document ≡ document_sums (parts_so_far (first c)) = sym document_sums_none ∙ ap document_sums (sym (first_parts c)) in
    record {
      stands =
          let test = and_from _ _ (and_from _ _ (eqb-refl n) (eqb-refl agent)) after in
          let all = ap (add (items_sums items)) parts in
          allowed_as _ _ _ test
          (same _ _ _ _ _ _ _ _ _ _ _ _ _ _ _ (one_more (so_far (begun f agent items)) (so_far (in_item f agent items d (first c))) r records)
          (ap InDocument (sym (first_progress c))) refl refl (plus_assoc (file_sums f.offices) (items_sums items) one_document ∙ ap (add (file_sums f.offices)) all) refl
          (rw (← parts, first_code c) refl));
      records_are = records;
      sound = record {
        is_open = is_open;
        in_order = rw (first_code c) after;
        sound = first_sound f.heading.form f.heading.airline c;
      };
    }

judged_adds : (x : Part) → judged_sums (judged_part x) ≡ part_sums x
judged_adds (amounts a) = refl
judged_adds (commission c) = refl
judged_adds (commission_tax t) = refl
judged_adds (related y) = refl
judged_adds (cash paid) = refl
judged_adds (credit card) = refl
judged_adds (exchange ex) = refl

pub parts : (f : File) (agent : ℕ) (items : List Item) (d : Document) (g h : PartialItem) (x : Part) → IsInItem f agent items d g → IsNextPart f.heading.form f.heading.airline g x h
    → Next (in_item f agent items d g) (part (number f items) x) (in_item f agent items d h)
unfolding step
parts f agent items d g h x is next =
    let n = number f items in
    let r = part n x in
    let airline = f.heading.airline in
    let more : partial_records airline agent n d h ≡ partial_records airline agent n d g ++ r ∷ [] =
    rw (next.code_is, next.parts_are) (ap (λ (xs : List Record). transaction_header n airline ∷ document n agent (code_of g) d ∷ xs) (map-append (part n) (parts_so_far g) (x ∷ []))) in
    let records : so_far (in_item f agent items d h) ≡ so_far (in_item f agent items d g) ++ r ∷ [] =
    ap (λ (xs : List Record). with_items f agent items ++ xs) more ∙ sym (append_assoc (with_items f agent items) (partial_records airline agent n d g) (r ∷ [])) in
    let sums : add (document_sums (parts_so_far g)) (judged_sums (judged_part x)) ≡ document_sums (parts_so_far h) =
    ap (add (document_sums (parts_so_far g))) (judged_adds x) ∙ sym (document_sums_snoc (parts_so_far g) x) ∙ ap document_sums (sym next.parts_are) in
    let all : add (add (items_sums items) (document_sums (parts_so_far g))) (judged_sums (judged_part x)) ≡ add (items_sums items) (document_sums (parts_so_far h)) =
    plus_assoc _ _ _ ∙ ap (add (items_sums items)) sums in
    let codes : add_at (add_at (codes_of items) (code_of g) (document_sums (parts_so_far g))) (code_of g) (judged_sums (judged_part x)) ≡ add_at (codes_of items) (code_of h) (document_sums (parts_so_far h)) =
    add_at_more (codes_of items) (code_of g) _ _ ∙ ap (add_at (codes_of items) (code_of g)) sums ∙ ap (λ (c : DocumentCode). add_at (codes_of items) c (document_sums (parts_so_far h))) (sym next.code_is) in
    record {
      stands =
          let test = and_from _ _ next.taken (eqb-refl n) in
          allowed_as _ _ _ test
          (same _ _ _ _ _ _ _ _ _ _ _ _ _ _ _ (one_more (so_far (in_item f agent items d g)) (so_far (in_item f agent items d h)) r records)
          (ap InDocument (sym next.progress_is)) refl refl (plus_assoc _ _ _ ∙ ap (add (file_sums f.offices)) all) refl
          (rw (codes, all, next.code_is) refl));
      records_are = records;
      sound = record { is_open = is.is_open; in_order = rw next.code_is is.in_order; sound = next.sound is.sound };
    }
