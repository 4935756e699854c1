-- The facts over items that are found by key are those over all items, the count apart.
use Rattle.std.proofs.Common.{◌≡◌, Bool, true, false, ◌&&◌, ◌||◌, not, List, [], ◌∷◌, map, Option, Some, None, option_map, cond, refl, sym, ap, ◌∙◌, ◌==◌}
use Rattle.std.specs.List.{Contains, find, list_any}
use Rattle.std.proofs.lemmas.Bool.{and_parts, false≢true}
use Rattle.std.proofs.lemmas.Slice.Eq.{bytes_eq-Decides}
use Rattle.bsp_calendar.proofs.ListLemmas.{contains_filter, contains_head, contains_tail, filter_contains, filter_holds}
use Rattle.bsp_calendar.proofs.ListedLemmas.{any_contains, contains_any}
use Rattle.bsp_calendar.specs.Published.{Published, target_of}
use Rattle.bsp_ret_records.specs.declared.codes.TransactionCode.{TransactionCode}
use Rattle.bsp_ret_records.specs.declared.codes.TransactionCode.TheVariants.{Tktt, Rfnd, Canx}
use Rattle.bsp_ret_records.specs.declared.transactions.ReportedDocument.{ReportedDocument}
use Rattle.bsp_ret_records.specs.declared.transactions.Transaction.{Transaction}
use Rattle.bsp_rules.specs.declared.facts.Facts.{Facts}
use Rattle.bsp_rules.specs.declared.rows.Item.{Item}
use Rattle.bsp_rules.specs.declared.rows.Range.{Range}
use Rattle.bsp_rules.specs.Rows.{cancelled, has_number, held_period, is_canx, is_living_relation, is_past, is_ticket, relates, ticket, used, used_elsewhere, used_in_closed_period}
use Rattle.bsp_rules.specs.SameContent.{same_code, same_content}
use Rattle.bsp_rules.specs.FactsOf.{count_in, facts_in, own_number, related_document}
use Rattle.bsp_rules.specs.Selected.{AreDistinct, AreFound, AreFoundFacts, numbers_of, selected, shares, without_count}
use Rattle.bsp_rules.proofs.SameContentLemmas.{content_decides}
use Rattle.bsp_rules.proofs.SelectedLemmas.{facts_selected}

-- ---- lists with the same elements

record AreAlike {X : Type 0} (xs ys : List X) : Type 0 where
  there : (x : X) → Contains xs x → Contains ys x
  back : (x : X) → Contains ys x → Contains xs x

same_bools : (a b : Bool) → (a ≡ true → b ≡ true) → (b ≡ true → a ≡ true) → a ≡ b
same_bools true b f g = sym (f refl)
same_bools false true f g = absurd (false≢true (g refl))
same_bools false false f g = refl

any_alike : {X : Type 0} (test : X → Bool) (xs ys : List X) → AreAlike xs ys → list_any test xs ≡ list_any test ys
any_alike test xs ys alike = same_bools _ _
    (λ h. let one = contains_any test xs h in any_contains test ys one.0 (alike.there one.0 one.1) one.2)
    (λ h. let one = contains_any test ys h in any_contains test xs one.0 (alike.back one.0 one.1) one.2)

find_found : {X : Type 0} (test : X → Bool) (xs : List X) (x : X) → find test xs ≡ Some x → Contains xs x × (test x ≡ true)
find_found test [] x e = absurd (cc)
find_found {X} test (y ∷ ys) x e = by_test (find_found test ys x) (test y) refl e where
  by_test : (find test ys ≡ Some x → Contains ys x × (test x ≡ true)) → (b : Bool) → test y ≡ b → cond b (Some y) (find test ys) ≡ Some x → Contains (y ∷ ys) x × (test x ≡ true)
  by_test rest true t k = (let same : y ≡ x = cc in (rw (← same) (contains_head y ys), ap test (sym same) ∙ t))
  by_test rest false t k = (contains_tail y ys x (rest k).0, (rest k).1)

find_any : {X : Type 0} (test : X → Bool) (xs : List X) → find test xs ≡ None → list_any test xs ≡ false
find_any test [] e = refl
find_any test (y ∷ ys) e = by_test (find_any test ys) (test y) e where
  by_test : (find test ys ≡ None → list_any test ys ≡ false) → (b : Bool) → cond b (Some y) (find test ys) ≡ None → (b || list_any test ys) ≡ false
  by_test rest true k = absurd (cc)
  by_test rest false k = rest k

-- one element at most passes the test
find_alike : {X : Type 0} (test : X → Bool) (xs ys : List X) → AreAlike xs ys → ((x y : X) → Contains ys x → Contains ys y → test x ≡ true → test y ≡ true → x ≡ y) → find test xs ≡ find test ys
find_alike {X} test xs ys alike one = by_found (find test xs) (find test ys) refl refl where
  by_found : (a b : Option X) → find test xs ≡ a → find test ys ≡ b → a ≡ b
  by_found None None e f = refl
  by_found None (Some y) e f =
      (let here = find_found test ys y f in
      absurd (false≢true (sym (find_any test xs e) ∙ any_contains test xs y (alike.back y here.0) here.1)))
  by_found (Some x) None e f =
      (let here = find_found test xs x e in
      absurd (false≢true (sym (find_any test ys f) ∙ any_contains test ys x (alike.there x here.0) here.1)))
  by_found (Some x) (Some y) e f =
      (let here = find_found test xs x e in
      let there = find_found test ys y f in
      ap Some (one x y (alike.there x here.0) there.0 here.1 there.1))

-- ---- their facts

no_canx : (code : TransactionCode) → same_code code Tktt ≡ true → same_code code Canx ≡ false
no_canx Tktt h = refl
no_canx Rfnd h = absurd (false≢true h)
no_canx Canx h = absurd (false≢true h)

module _ (xs ys : List Item) (alike : AreAlike xs ys) (distinct : AreDistinct ys) where
  held_alike : (t : Transaction) → held_period t xs ≡ held_period t ys
  held_alike t = ap (option_map (λ i. i.period)) (find_alike (λ i. same_content i.transaction t) xs ys alike
      (λ x y here there e f.
      let same : x.transaction ≡ y.transaction = (content_decides x.transaction t).0 e ∙ sym ((content_decides y.transaction t).0 f) in
      distinct x y here there (ap (λ (u : Transaction). u.document.number) same) (ap (λ (u : Transaction). same_code u.code Canx) same)))

  ticket_alike : (d : ReportedDocument) → ticket d xs ≡ ticket d ys
  ticket_alike d = find_alike (is_ticket d) xs ys alike
      (λ x y here there e f.
      let a = and_parts _ (has_number d.number x) e in
      let b = and_parts _ (has_number d.number y) f in
      distinct x y here there
      ((bytes_eq-Decides x.transaction.document.number d.number).0 a.1 ∙ sym ((bytes_eq-Decides y.transaction.document.number d.number).0 b.1))
      (no_canx x.transaction.code (and_parts _ _ a.0).0 ∙ sym (no_canx y.transaction.code (and_parts _ _ b.0).0)))

  own_alike : (t : Transaction) (p : Published) → own_number xs t p ≡ own_number ys t p
  unfolding own_number
  own_alike t p =
      let n = t.document.number in
      let a : used n xs ≡ used n ys = any_alike (has_number n) xs ys alike in
      let b : cancelled n xs ≡ cancelled n ys = any_alike (λ i. has_number n i && is_canx i) xs ys alike in
      let c : used_elsewhere t.document.airline n xs ≡ used_elsewhere t.document.airline n ys = any_alike (λ i. has_number n i && not (i.transaction.document.airline == t.document.airline)) xs ys alike in
      let d : used_in_closed_period p n xs ≡ used_in_closed_period p n ys = any_alike (λ i. has_number n i && is_past p i.period) xs ys alike in
      let e : relates n xs ≡ relates n ys = any_alike (is_living_relation n) xs ys alike in
      rw (a, b, c, d, e) refl

  document_alike : (d : ReportedDocument) → related_document xs d ≡ related_document ys d
  unfolding related_document
  document_alike d =
      let a = ticket_alike d in
      let b : relates d.number xs ≡ relates d.number ys = any_alike (is_living_relation d.number) xs ys alike in
      rw (a, b) refl

  related_alike : (places : List (Option ReportedDocument)) → map (λ place. option_map (related_document xs) place) places ≡ map (λ place. option_map (related_document ys) place) places
  related_alike [] = refl
  related_alike (None ∷ places) = ap (λ rest. None ∷ rest) (related_alike places)
  related_alike (Some d ∷ places) = let a = document_alike d in let b = related_alike places in rw (a, b) refl

  facts_alike : (registered : Bool) (ranges : List Range) (t : Transaction) (p : Published) → without_count (facts_in registered ranges xs t p) ≡ without_count (facts_in registered ranges ys t p)
  unfolding facts_in
  facts_alike registered ranges t p =
      let held = held_alike t in
      let own = own_alike t p in
      let related = related_alike t.related in
      rw (held, own, related) refl

-- ---- what is found by key

selected_alike : (t : Transaction) (items found : List Item) → AreFound t items found → AreAlike (selected t found) (selected t items)
unfolding selected
selected_alike t items found h =
    let keep = shares (numbers_of t) in
    record {
      there = λ i k. contains_filter keep items i (h.own i (filter_contains keep found i k)) (filter_holds keep found i k);
      back = λ i k. contains_filter keep found i (h.all i (filter_contains keep items i k) (filter_holds keep items i k)) (filter_holds keep items i k);
    }

selected_distinct : (t : Transaction) (items : List Item) → AreDistinct items → AreDistinct (selected t items)
unfolding selected
selected_distinct t items distinct = λ i j h k. distinct i j (filter_contains _ items i h) (filter_contains _ items j k)

count_of : (registered : Bool) (ranges : List Range) (items : List Item) (t : Transaction) (p : Published) → count_in items t.document.airline (target_of p t.issued) ≡ (facts_in registered ranges items t p).count
unfolding facts_in
count_of registered ranges items t p = refl

pub found_facts : AreFoundFacts
found_facts registered ranges items found t p distinct h =
    let all = facts_in registered ranges items t p in
    let few = facts_in registered ranges found t p in
    let same : without_count few ≡ without_count all =
    facts_selected few registered ranges found t p refl
    ∙ (facts_alike (selected t found) (selected t items) (selected_alike t items found h) (selected_distinct t items distinct) registered ranges t p
    ∙ sym (facts_selected all registered ranges items t p refl)) in
    let count = count_of registered ranges items t p in
    ap (λ (f : Facts). record f { count = count_in items t.document.airline (target_of p t.issued) }) same ∙ (λ i. record all { count = count i })
