-- The records of totals that may come next.
use Rattle.std.proofs.Common.{◌≡◌, ◌<◌, ℕ, ◌+◌, Bool, true, List, [], ◌∷◌, ◌++◌, length, filter, Option, Some, None, refl, sym, ap, ◌∙◌, arith, inl, inr, length-append, append_assoc, append-nil}
use Rattle.std.specs.List.{find}
use Rattle.std.specs.Option.{is_none}
use Rattle.std.proofs.lemmas.Bool.{and_from, cases_Bool, ltb-true}
use Rattle.std.proofs.lemmas.List.{map-append}
use Rattle.bsp_hot_records.specs.declared.code.DocumentCode.{DocumentCode}
use Rattle.bsp_hot_records.specs.declared.code.DocumentCode.TheVariants.{Tktt, Rfnd, Canx, Adma, Acma}
use Rattle.bsp_hot_records.specs.declared.form.FileForm.{FileForm}
use Rattle.bsp_hot_records.specs.declared.totals.Sums.{Sums}
use Rattle.bsp_hot_records.specs.declared.model.Heading.{Heading as JudgedHeading}
use Rattle.bsp_hot_records.specs.declared.model.Record.TheVariants as record_is
use Rattle.bsp_hot_check.specs.declared.model.Place.{Place}
use Rattle.bsp_hot_check.specs.declared.model.Place.TheVariants.{InDocument, Totalled}
use Rattle.bsp_hot_check.specs.declared.model.OfficeSums.{OfficeSums}
use Rattle.bsp_hot_records.specs.Records.{Heading, Document, Record, office_header, code_totals, office_totals, period_totals, file_totals}
use Rattle.bsp_hot_records.specs.Sums.{add, with_net, has_totals, is_code, all_codes}
use Rattle.bsp_hot_check.specs.Hot.{Body, Item, Office, File, AreItems, IsBehind, AreOffices, IsFile, items_sums, code_sums, file_sums, items_records, has_code, office_records, offices_records, headers, all_but_last}
use Rattle.bsp_hot_check.specs.Standings.{later_codes, left_codes, sums_at, stands_in, next_code, is_next, is_agent_after, step}
use Rattle.bsp_hot_check.proofs.SumLemmas.{file_sums_snoc, codes_of}
use Rattle.bsp_hot_check.proofs.PartialItems.{whole, progress_of, item_with, is_whole}
use Rattle.bsp_hot_check.proofs.Drafts.{between, in_item, totalled, closed, ended, count_items, number, front, with_items, code_records, so_far, last_agent, office_of, office_with, made, IsInItem, IsTotalling, Next}
use Rattle.bsp_hot_check.proofs.Steps.{allowed_as, same, one_more, eqb-refl, has_with_net, office_whole, with_items_snoc, open_snoc}

-- ---- the codes that have their BOT93

pub sums_at_codes : (items : List Item) (c : DocumentCode) → sums_at (codes_of items) c ≡ code_sums c items
sums_at_codes items Tktt = refl
sums_at_codes items Rfnd = refl
sums_at_codes items Canx = refl
sums_at_codes items Adma = refl
sums_at_codes items Acma = refl

has_codes : (items : List Item) (c : DocumentCode) → stands_in (codes_of items) c ≡ has_code items c
has_codes items Tktt = refl
has_codes items Rfnd = refl
has_codes items Canx = refl
has_codes items Adma = refl
has_codes items Acma = refl

found_same : (p q : DocumentCode → Bool) (xs : List DocumentCode) → ((c : DocumentCode) → p c ≡ q c) → find p xs ≡ find q xs
found_same p q [] e = refl
found_same p q (x ∷ xs) e = rw (e x, found_same p q xs e) refl

-- the code that is found among these is the first that has an item
pub found_codes : (items : List Item) (xs : List DocumentCode) → find (stands_in (codes_of items)) xs ≡ find (has_code items) xs
found_codes items xs = found_same (stands_in (codes_of items)) (has_code items) xs (has_codes items)

-- each code is followed by its later ones
abbrev pub AreInOrder : List DocumentCode → Type 0
AreInOrder [] = Unit {0}
AreInOrder (c ∷ xs) = (xs ≡ later_codes c) × AreInOrder xs

pub later_in_order : (c : DocumentCode) → AreInOrder (later_codes c)
later_in_order Tktt = (refl, (refl, (refl, (refl, tt))))
later_in_order Rfnd = (refl, (refl, (refl, tt)))
later_in_order Canx = (refl, (refl, tt))
later_in_order Adma = (refl, tt)
later_in_order Acma = tt

pub all_in_order : AreInOrder all_codes
all_in_order = (refl, (refl, (refl, (refl, (refl, tt)))))

pub found_first : (p : DocumentCode → Bool) (xs : List DocumentCode) (c : DocumentCode) → AreInOrder xs → find p xs ≡ Some c → filter p xs ≡ c ∷ filter p (later_codes c)
found_first p [] c order e = absurd cc
found_first p (x ∷ xs) c order e =
    elim (cases_Bool (p x)) [
      | inl h ↦
          let k : Some x ≡ Some c = rw h at e in
          let same_code : x ≡ c = cc in
          rw h (ap (λ (ys : List DocumentCode). x ∷ filter p ys) order.0 ∙ ap (λ (y : DocumentCode). y ∷ filter p (later_codes y)) same_code)
      | inr h ↦ rw h (found_first p xs c order.1 (rw h at e))
    ]

-- no other code comes before the one that is found
pub found_all : (p : DocumentCode → Bool) (c : DocumentCode) → find p all_codes ≡ Some c → filter p all_codes ≡ c ∷ filter p (later_codes c)
found_all p c e = found_first p all_codes c all_in_order e

pub found_later : (p : DocumentCode → Bool) (before c : DocumentCode) → find p (later_codes before) ≡ Some c → filter p (later_codes before) ≡ c ∷ filter p (later_codes c)
found_later p before c e = found_first p (later_codes before) c (later_in_order before) e

pub found_none : (p : DocumentCode → Bool) (xs : List DocumentCode) → find p xs ≡ None → filter p xs ≡ []
found_none p [] e = refl
found_none p (x ∷ xs) e =
    elim (cases_Bool (p x)) [
      | inl h ↦ let k : Some x ≡ None = rw h at e in absurd cc
      | inr h ↦ rw h (found_none p xs (rw h at e))
    ]

-- ---- BOT93

pub is_code_refl : (c : DocumentCode) → is_code c c ≡ true
is_code_refl Tktt = refl
is_code_refl Rfnd = refl
is_code_refl Canx = refl
is_code_refl Adma = refl
is_code_refl Acma = refl

-- the BOT93 of the code that is found comes next
code_total : (r r2 : ℕ) (p : Place) (h : Option JudgedHeading) (o t t2 : ℕ) (f : Sums) (agent : ℕ) (w : OfficeSums) (items : List Item) (c : DocumentCode) → w ≡ office_of items → find (has_code items) (left_codes p) ≡ Some c → r + 1 ≡ r2 → t ≡ t2
    → step (made r p h o t (add f w.all) (Some agent) w) (record_is.CodeTotals (record { agent = agent; code = c; totals = with_net (code_sums c items) }))
    ≡ Some (made r2 (Totalled c) h o t2 (add f (items_sums items)) (Some agent) (office_of items))
unfolding step
code_total r r2 p h o t t2 f agent w items c e found er et =
    let next : is_next (next_code w.codes p) c ≡ true = rw (e, found_codes items (left_codes p), found) (is_code_refl c) in
    let totals : has_totals (sums_at w.codes c) (with_net (code_sums c items)) ≡ true = rw (e, sums_at_codes items c) (has_with_net (code_sums c items)) in
    allowed_as _ _ _ (and_from _ _ (and_from _ _ next (eqb-refl agent)) totals)
    (same _ _ _ _ _ _ _ _ _ _ _ _ _ _ _ er refl refl et (ap (λ (x : OfficeSums). add f x.all) e) refl e)

pub totals_first : (f : File) (agent : ℕ) (items : List Item) (d : Document) (body : Body) (c : DocumentCode) → IsInItem f agent items d (whole body) → find (has_code (items ++ item_with d body ∷ [])) all_codes ≡ Some c
    → Next (in_item f agent items d (whole body)) (code_totals agent c (with_net (code_sums c (items ++ item_with d body ∷ [])))) (totalled f agent (items ++ item_with d body ∷ []) (c ∷ []) c)
totals_first f agent items d body c g found =
    let it = item_with d body in
    let items2 = items ++ it ∷ [] in
    let r = code_totals agent c (with_net (code_sums c items2)) in
    let records : so_far (totalled f agent items2 (c ∷ []) c) ≡ so_far (in_item f agent items d (whole body)) ++ r ∷ [] =
    ap (λ (xs : List Record). xs ++ r ∷ []) (with_items_snoc f agent items it) in
    let count : number f items ≡ count_items f.offices + length items2 = omega (arith, length-append items (it ∷ [])) in
    let left : find (has_code items2) (left_codes (InDocument (progress_of (whole body)))) ≡ Some c = rw (is_whole body) found in
    record {
      stands =
          code_total _ _ (InDocument (progress_of (whole body))) _ _ _ _ (file_sums f.offices) agent (office_with items d (whole body)) items2 c (office_whole items d body) left
          (one_more (so_far (in_item f agent items d (whole body))) (so_far (totalled f agent items2 (c ∷ []) c)) r records) count;
      records_are = records;
      sound = record {
        is_open = open_snoc f agent items d body g;
        some = omega (arith, length-append items (it ∷ []));
        rest = found_all (has_code items2) c found;
      };
    }

pub totals_next : (f : File) (agent : ℕ) (items : List Item) (done : List DocumentCode) (before c : DocumentCode) → IsTotalling f agent items done before → find (has_code items) (later_codes before) ≡ Some c
    → Next (totalled f agent items done before) (code_totals agent c (with_net (code_sums c items))) (totalled f agent items (done ++ c ∷ []) c)
totals_next f agent items done before c is found =
    let r = code_totals agent c (with_net (code_sums c items)) in
    let records : so_far (totalled f agent items (done ++ c ∷ []) c) ≡ so_far (totalled f agent items done before) ++ r ∷ [] =
    ap (λ (xs : List Record). with_items f agent items ++ xs) (map-append _ done (c ∷ []))
    ∙ sym (append_assoc (with_items f agent items) (code_records agent items done) (r ∷ [])) in
    record {
      stands =
          code_total _ _ (Totalled before) _ _ _ _ (file_sums f.offices) agent (office_of items) items c refl found
          (one_more (so_far (totalled f agent items done before)) (so_far (totalled f agent items (done ++ c ∷ []) c)) r records) refl;
      records_are = records;
      sound = record {
        is_open = is.is_open;
        some = is.some;
        rest = is.rest ∙ ap (λ (xs : List DocumentCode). done ++ xs) (found_later (has_code items) before c found) ∙ sym (append_assoc done (c ∷ []) (filter (has_code items) (later_codes c)));
      };
    }

-- ---- BOT94

-- a file with one more office
abbrev pub with_office : File → ℕ → List Item → File
with_office f agent items = record {
  heading = f.heading;
  days = f.days;
  offices = f.offices ++ record { agent = agent; items = items } ∷ [];
}

pub offices_snoc : (h : Heading) (n : ℕ) (offices : List Office) (o : Office) → offices_records h n (offices ++ o ∷ []) ≡ offices_records h n offices ++ office_records h (n + count_items offices) o
offices_snoc h n [] o =
    let k : n ≡ n + 0 = omega arith in
    append-nil (office_records h n o) ∙ ap (λ (i : ℕ). office_records h i o) k
offices_snoc h n (x ∷ offices) o =
    let k : n + length x.items + count_items offices ≡ n + (length x.items + count_items offices) = omega arith in
    ap (λ (xs : List Record). office_records h n x ++ xs)
    (offices_snoc h (n + length x.items) offices o ∙ ap (λ (i : ℕ). offices_records h (n + length x.items) offices ++ office_records h i o) k)
    ∙ sym (append_assoc (office_records h n x) (offices_records h (n + length x.items) offices) (office_records h (n + (length x.items + count_items offices)) o))

pub count_snoc : (offices : List Office) (o : Office) → count_items offices + length o.items ≡ count_items (offices ++ o ∷ [])
count_snoc [] o = omega arith
count_snoc (x ∷ offices) o = omega (arith, count_snoc offices o)

pub last_agent_snoc : (before : Option ℕ) (offices : List Office) (o : Office) → last_agent before (offices ++ o ∷ []) ≡ Some o.agent
last_agent_snoc before [] o = refl
last_agent_snoc before (x ∷ offices) o = last_agent_snoc (Some x.agent) offices o

is_behind : (before : Option ℕ) (agent : ℕ) → is_agent_after before agent ≡ true → IsBehind before agent
is_behind None agent h = tt
is_behind (Some x) agent h = ltb-true x agent h

pub are_offices_snoc : (form : FileForm) (airline : ℕ) (before : Option ℕ) (offices : List Office) (o : Office) → AreOffices form airline before offices → is_agent_after (last_agent before offices) o.agent ≡ true → 0 < length o.items → AreItems form airline None o.items
    → AreOffices form airline before (offices ++ o ∷ [])
are_offices_snoc form airline before [] o are after some items = (is_behind before o.agent after, some, items, tt)
are_offices_snoc form airline before (x ∷ offices) o are after some items = (are.0, are.1, are.2, are_offices_snoc form airline (Some x.agent) offices o are.3 after some items)

-- the office's records are those of its items and of all codes that have one
office_whole_records : (f : File) (agent : ℕ) (items : List Item) (done : List DocumentCode) → filter (has_code items) all_codes ≡ done
    → front (with_office f agent items) ≡ (with_items f agent items ++ code_records agent items done) ++ office_totals agent (with_net (items_sums items)) ∷ []
office_whole_records f agent items done e =
    let o : Office = record { agent = agent; items = items } in
    let n = 1 + count_items f.offices in
    let header = office_header agent f.heading.period f.heading.currency in
    let body = items_records f.heading.airline agent n items in
    let last = office_totals agent (with_net (items_sums items)) ∷ [] in
    ap (λ (xs : List Record). headers f ++ xs) (offices_snoc f.heading 1 f.offices o)
    ∙ sym (append_assoc (headers f) (offices_records f.heading 1 f.offices) (office_records f.heading n o))
    ∙ ap (λ (xs : List DocumentCode). front f ++ header ∷ (body ++ (code_records agent items xs ++ last))) e
    ∙ sym (append_assoc (front f) (header ∷ body) (code_records agent items done ++ last))
    ∙ sym (append_assoc (with_items f agent items) (code_records agent items done) last)

pub totals : (f : File) (agent : ℕ) (items : List Item) (done : List DocumentCode) (c : DocumentCode) → IsTotalling f agent items done c → find (has_code items) (later_codes c) ≡ None
    → Next (totalled f agent items done c) (office_totals agent (with_net (items_sums items))) (between (with_office f agent items))
unfolding step
totals f agent items done c is none =
    let o : Office = record { agent = agent; items = items } in
    let r = office_totals agent (with_net (items_sums items)) in
    let all : filter (has_code items) all_codes ≡ done = is.rest ∙ ap (λ (xs : List DocumentCode). done ++ xs) (found_none (has_code items) (later_codes c) none) ∙ append-nil done in
    let records : so_far (between (with_office f agent items)) ≡ so_far (totalled f agent items done c) ++ r ∷ [] = office_whole_records f agent items done all in
    let no_more : is_none (next_code (codes_of items) (Totalled c)) ≡ true = rw (found_codes items (later_codes c), none) refl in
    record {
      stands =
          allowed_as _ _ _ (and_from _ _ (and_from _ _ no_more (eqb-refl agent)) (has_with_net (items_sums items)))
          (same _ _ _ _ _ _ _ _ _ _ _ _ _ _ _ (one_more (so_far (totalled f agent items done c)) (so_far (between (with_office f agent items))) r records)
          refl (sym (length-append f.offices (o ∷ []))) (count_snoc f.offices o) (sym (file_sums_snoc f.offices o)) (sym (last_agent_snoc None f.offices o)) refl);
      records_are = records;
      sound = are_offices_snoc f.heading.form f.heading.airline None f.offices o is.is_open.file is.is_open.after is.some is.is_open.are;
    }

-- ---- BCT95 and BFT99

pub closes : (f : File) → IsFile f → Next (between f) (period_totals f.heading.period (length f.offices) (with_net (file_sums f.offices))) (closed f)
unfolding step
closes f file =
    let r = period_totals f.heading.period (length f.offices) (with_net (file_sums f.offices)) in
    let records : so_far (closed f) ≡ so_far (between f) ++ r ∷ [] = sym (append_assoc (headers f) (offices_records f.heading 1 f.offices) (r ∷ [])) in
    record {
      stands =
          let test = and_from _ _ (and_from _ _ (eqb-refl f.heading.period) (eqb-refl (length f.offices))) (has_with_net (file_sums f.offices)) in
          allowed_as _ _ _ test (same _ _ _ _ _ _ _ _ _ _ _ _ _ _ _ (one_more (so_far (between f)) (so_far (closed f)) r records) refl refl refl refl refl refl);
      records_are = records;
      sound = file;
    }

pub ends : (f : File) → IsFile f → Next (closed f) (file_totals f.heading.airline (length (all_but_last f) + 1) (with_net (file_sums f.offices))) (ended f)
unfolding step
ends f file =
    let r = file_totals f.heading.airline (length (all_but_last f) + 1) (with_net (file_sums f.offices)) in
    record {
      stands =
          let test = and_from _ _ (and_from _ _ (eqb-refl f.heading.airline) (eqb-refl (length (all_but_last f) + 1))) (has_with_net (file_sums f.offices)) in
          allowed_as _ _ _ test (same _ _ _ _ _ _ _ _ _ _ _ _ _ _ _ (one_more (so_far (closed f)) (so_far (ended f)) r refl) refl refl refl refl refl refl);
      records_are = refl;
      sound = file;
    }
