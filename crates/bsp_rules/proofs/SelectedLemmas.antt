-- The facts on all of an agent's items are those on the items that share a number with the transaction.
use Rattle.std.proofs.Common.{◌≡◌, ℕ, Bool, true, false, ◌&&◌, not, List, [], ◌∷◌, map, Option, Some, None, option_map, refl, sym, ◌∙◌, ap, inl, inr, subst, ◌==◌}
use Rattle.std.specs.List.{filter, filter_map, find, list_any}
use Rattle.std.specs.Str.{bytes_eq}
use Rattle.std.proofs.lemmas.Bool.{and_parts, or_cases, or_left, or_right, false≢true}
use Rattle.std.proofs.lemmas.Map.Views.{any-filter_same}
use Rattle.std.proofs.lemmas.Slice.Eq.{bytes_eq-Decides}
use Rattle.bsp_calendar.specs.Published.{Published}
use Rattle.bsp_ret_records.specs.declared.transactions.ReportedDocument.{ReportedDocument}
use Rattle.bsp_ret_records.specs.declared.transactions.Transaction.{Transaction}
use Rattle.bsp_rules.specs.declared.facts.Facts.{Facts}
use Rattle.bsp_rules.specs.declared.rows.Item.{Item}
use Rattle.bsp_rules.specs.declared.rows.Range.{Range}
use Rattle.bsp_rules.specs.Rows.{cancelled, has_number, held_period, is_canx, is_living_relation, is_past, is_ticket, names, relates, ticket, used, used_elsewhere, used_in_closed_period}
use Rattle.bsp_rules.specs.SameContent.{same_code, same_content, same_document}
use Rattle.bsp_rules.specs.FactsOf.{facts_in, own_number, related_document}
use Rattle.bsp_rules.proofs.SharedLemmas.{bytes_swapped, named_among}
use Rattle.bsp_rules.specs.Selected.{AreSelected, is_among, numbers_of, selected, shares, without_count}

-- ---- tests that only kept elements pass

any_kept : {X : Type 0} (test keep : X → Bool) → ((x : X) → test x ≡ true → keep x ≡ true) → (xs : List X) → list_any test (filter keep xs) ≡ list_any test xs
any_kept test keep kept xs = any-filter_same test keep true kept xs

find_step : {X : Type 0} (test keep : X → Bool) (x : X) (xs : List X) → (test x ≡ true → keep x ≡ true) → find test (filter keep xs) ≡ find test xs → (k t : Bool) → keep x ≡ k → test x ≡ t → find test (filter keep (x ∷ xs)) ≡ find test (x ∷ xs)
find_step test keep x xs kept same true true k t = rw (k, t) refl
find_step test keep x xs kept same true false k t = rw (k, t) same
find_step test keep x xs kept same false true k t = absurd (false≢true (sym k ∙ kept t))
find_step test keep x xs kept same false false k t = rw (k, t) same

find_kept : {X : Type 0} (test keep : X → Bool) → ((x : X) → test x ≡ true → keep x ≡ true) → (xs : List X) → find test (filter keep xs) ≡ find test xs
find_kept test keep kept [] = refl
find_kept test keep kept (x ∷ xs) = find_step test keep x xs (kept x) (find_kept test keep kept xs) (keep x) (test x) refl refl

-- ---- numbers

is_among-same : (number other : List ℕ) (numbers : List (List ℕ)) → bytes_eq number other ≡ true → is_among number numbers ≡ true → is_among other numbers ≡ true
is_among-same number other numbers e h = let P : List ℕ → Type 0 = λ n. is_among n numbers ≡ true in subst P ((bytes_eq-Decides number other).0 e) h

-- two lists share a number that is in both
in_both : (number : List ℕ) (numbers others : List (List ℕ)) → is_among number numbers ≡ true → is_among number others ≡ true → list_any (λ other. is_among other numbers) others ≡ true
in_both number numbers [] h g = absurd (false≢true g)
in_both number numbers (other ∷ others) h g =
    elim (or_cases (bytes_eq number other) (is_among number others) g) as (λ _. list_any (λ n. is_among n numbers) (other ∷ others) ≡ true) [
      | inl e ↦ or_left (is_among other numbers) (list_any (λ n. is_among n numbers) others) (is_among-same number other numbers e h)
      | inr e ↦ or_right (is_among other numbers) (list_any (λ n. is_among n numbers) others) (in_both number numbers others h e)
    ]

-- ---- the numbers of a transaction

-- an item with the number, and one that names it, share it with every list that has it
kept_by_number : (number : List ℕ) (numbers : List (List ℕ)) → is_among number numbers ≡ true → (i : Item) → has_number number i ≡ true → shares numbers i ≡ true
kept_by_number number numbers h i own =
    in_both number numbers (numbers_of i.transaction) h (or_left _ _ (sym (bytes_swapped i.transaction.document.number number) ∙ own))

kept_by_name : (number : List ℕ) (numbers : List (List ℕ)) → is_among number numbers ≡ true → (i : Item) → names number i.transaction ≡ true → shares numbers i ≡ true
kept_by_name number numbers h i named =
    in_both number numbers (numbers_of i.transaction) h (or_right _ _ (sym (named_among number i.transaction.related) ∙ named))

own_is_among : (t : Transaction) → is_among t.document.number (numbers_of t) ≡ true
own_is_among t = or_left (bytes_eq t.document.number t.document.number) _ ((bytes_eq-Decides t.document.number t.document.number).1 refl)

-- the same content has the same number
number_of_same : (a b : Transaction) → same_content a b ≡ true → bytes_eq a.document.number b.document.number ≡ true
number_of_same a b h =
    let past_code = (and_parts (same_code a.code b.code) _ h).1 in
    let past_agent = (and_parts (bytes_eq a.agent b.agent) _ past_code).1 in
    let document = (and_parts (same_document a.document b.document) _ past_agent).0 in
    (and_parts (bytes_eq a.document.number b.document.number) _ (and_parts (a.document.airline == b.document.airline) _ document).1).0

-- ---- what is asked of the list

module _ (number : List ℕ) (numbers : List (List ℕ)) (h : is_among number numbers ≡ true) (items : List Item) where
  used_same : used number (filter (shares numbers) items) ≡ used number items
  used_same = any_kept (has_number number) (shares numbers) (kept_by_number number numbers h) items

  cancelled_same : cancelled number (filter (shares numbers) items) ≡ cancelled number items
  cancelled_same = any_kept (λ i. has_number number i && is_canx i) (shares numbers)
      (λ i e. kept_by_number number numbers h i (and_parts _ _ e).0) items

  used_elsewhere_same : (airline : ℕ) → used_elsewhere airline number (filter (shares numbers) items) ≡ used_elsewhere airline number items
  used_elsewhere_same airline = any_kept (λ i. has_number number i && not (i.transaction.document.airline == airline)) (shares numbers)
      (λ i e. kept_by_number number numbers h i (and_parts _ _ e).0) items

  used_in_closed_period_same : (p : Published) → used_in_closed_period p number (filter (shares numbers) items) ≡ used_in_closed_period p number items
  used_in_closed_period_same p = any_kept (λ i. has_number number i && is_past p i.period) (shares numbers)
      (λ i e. kept_by_number number numbers h i (and_parts _ _ e).0) items

  relates_same : relates number (filter (shares numbers) items) ≡ relates number items
  relates_same = any_kept (is_living_relation number) (shares numbers)
      (λ i e. kept_by_name number numbers h i (and_parts (i.lives && not (is_canx i)) (names number i.transaction) e).1) items

  ticket_same : (d : ReportedDocument) → d.number ≡ number → ticket d (filter (shares numbers) items) ≡ ticket d items
  ticket_same d e = find_kept (is_ticket d) (shares numbers)
      (λ i k. kept_by_number number numbers h i (rw (sym e) (and_parts _ (has_number d.number i) k).1)) items

held_same : (t : Transaction) (items : List Item) → held_period t (filter (shares (numbers_of t)) items) ≡ held_period t items
held_same t items =
    ap (option_map (λ i. i.period)) (find_kept (λ i. same_content i.transaction t) (shares (numbers_of t))
    (λ i e. kept_by_number t.document.number (numbers_of t) (own_is_among t) i (number_of_same i.transaction t e)) items)

own_same : (items : List Item) (t : Transaction) (p : Published) → own_number (filter (shares (numbers_of t)) items) t p ≡ own_number items t p
unfolding own_number
own_same items t p =
    let n = t.document.number in
    let h = own_is_among t in
    let a = used_same n (numbers_of t) h items in
    let b = cancelled_same n (numbers_of t) h items in
    let c = used_elsewhere_same n (numbers_of t) h items t.document.airline in
    let d = used_in_closed_period_same n (numbers_of t) h items p in
    let e = relates_same n (numbers_of t) h items in
    rw (a, b, c, d, e) refl

-- a related document's facts are the same where its number is among those that are shared
document_same : (numbers : List (List ℕ)) (items : List Item) (d : ReportedDocument) → is_among d.number numbers ≡ true → related_document (filter (shares numbers) items) d ≡ related_document items d
unfolding related_document
document_same numbers items d h =
    let a = ticket_same d.number numbers h items d refl in
    let b = relates_same d.number numbers h items in
    rw (a, b) refl

related_same : (numbers : List (List ℕ)) (items : List Item) (places : List (Option ReportedDocument)) → ((n : List ℕ) → is_among n (filter_map (λ place. option_map (λ d. d.number) place) places) ≡ true → is_among n numbers ≡ true) → map (λ place. option_map (related_document (filter (shares numbers) items)) place) places ≡ map (λ place. option_map (related_document items) place) places
related_same numbers items [] among = refl
related_same numbers items (None ∷ places) among = rw (related_same numbers items places among) refl
related_same numbers items (Some d ∷ places) among =
    let rest = related_same numbers items places (λ n h. among n (or_right (bytes_eq n d.number) _ h)) in
    let first = document_same numbers items d (among d.number (or_left (bytes_eq d.number d.number) _ ((bytes_eq-Decides d.number d.number).1 refl))) in
    rw (first, rest) refl

pub facts_selected : (f : Facts) (registered : Bool) (ranges : List Range) (items : List Item) (t : Transaction) (p : Published) → f ≡ facts_in registered ranges items t p → AreSelected f registered ranges items t p
unfolding facts_in selected
facts_selected f registered ranges items t p e =
    let held = held_same t items in
    let own = own_same items t p in
    let related = related_same (numbers_of t) items t.related (λ n h. or_right (bytes_eq n t.document.number) _ h) in
    ap without_count e ∙ rw (held, own, related) refl
