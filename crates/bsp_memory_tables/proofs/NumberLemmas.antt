-- The index has each number of each item, and so each item that shares a number with a transaction is found.
use Rattle.std.proofs.Common.{◌≡◌, ℕ, ◌==◌, ◌&&◌, ◌||◌, Bool, true, false, cond, List, [], ◌∷◌, map, refl, sym, ap, subst, ◌∙◌, Option, Some, None, ◌⊎◌, inl, inr}
use Rattle.std.specs.List.{filter, list_any}
use Rattle.std.specs.Ordering.{is_eq, eq_by_cmp}
use Rattle.std.specs.Cmp.{tied_itself}
use Rattle.std.specs.FinMap.{FinMap, empty, get, get-empty, insert, entries, get-insert, get-entries}
use Rattle.std.specs.FinMap.Entries.{find}
use Rattle.std.specs.Str.{bytes_eq}
use Rattle.std.specs.Result.{result_ok}
use Rattle.std.proofs.lemmas.Bool.{eqb-true}
use Rattle.std.proofs.lemmas.Slice.Eq.{bytes_eq-Decides}
use Rattle.std.proofs.lemmas.List.Folds.{list_any-append}
use Rattle.bsp_rows.specs.Codes.{code_reading}
use Rattle.bsp_rows.specs.ReportedDocument.{ReportedDocument}
use Rattle.bsp_rows.specs.RulesRows.{has_number, names_number}
use Rattle.bsp_rows.specs.Transaction.{Transaction}
use Rattle.bsp_rows.specs.Item.{Item}
use Rattle.bsp_rows.specs.Selected.{is_among, numbers_of, shares}
use Rattle.bsp_maps.specs.Windows.{values_in}
use Rattle.bsp_maps.proofs.PickLemmas.{AreAmong}
use Rattle.bsp_rows.specs.declared.keys.ItemKey.{ItemKey}
use Rattle.bsp_rows.specs.Rows.{item_cmp}
use Rattle.bsp_rows.proofs.KeyOrders.{item_exact, item_total}
use Rattle.bsp_rows.proofs.MapLemmas.{get_written, same_Some, same_key}
use Rattle.bsp_memory_tables.specs.declared.keys.NumberKey.{NumberKey}
use Rattle.bsp_memory_tables.specs.Numbers.{IsIndexed, bears, is_bearing, is_number, is_of_number, is_own, is_with_number, own_keys, place_numbers, keys_at, keys_at_each, number_cmp, number_key, with_number, with_numbers}
use Rattle.bsp_memory_tables.proofs.NumberOrder.{number_exact, number_total}

or_left : (a b : Bool) → a ≡ true → (a || b) ≡ true
or_left true b h = refl
or_left false b h = absurd (cc)

or_right : (a b : Bool) → b ≡ true → (a || b) ≡ true
or_right true b h = refl
or_right false b h = h

item_of : NumberKey → ItemKey
item_of b = record { agent = b.agent; number = b.item; is_canx = b.is_canx }

-- ---- what the index has, it keeps

module _ (index : FinMap number_cmp ItemKey) where
  stays : (k key : ItemKey) (n m : List ℕ) (b : Bool) → eq_by_cmp number_cmp (number_key k n) (number_key key m) ≡ b → get index (number_key k n) ≡ Some k → cond b (Some key) (get index (number_key k n)) ≡ Some k
  unfolding item_of
  stays k key n m true e h = ap Some (sym (ap item_of (same_key number_exact (number_key k n) (number_key key m) e)))
  stays k key n m false e h = h

  kept : (k key : ItemKey) (n m : List ℕ) → get index (number_key k n) ≡ Some k → get (with_number key m index) (number_key k n) ≡ Some k
  kept k key n m h = at (is_own key m) where
    at : (own : Bool) → get (cond own index (insert index (number_key key m) key)) (number_key k n) ≡ Some k
    at true = h
    at false = get-insert number_total index (number_key key m) key (number_key k n) ∙ stays k key n m (eq_by_cmp number_cmp (number_key k n) (number_key key m)) refl h

  -- a number that is not its own is added
  added : (key : ItemKey) (m : List ℕ) → is_own key m ≡ false → get (with_number key m index) (number_key key m) ≡ Some key
  added key m other = ap (λ own. get (cond own index (insert index (number_key key m) key)) (number_key key m)) other ∙ get_written number_total number_exact index (number_key key m) key

kept_each : (k key : ItemKey) (n : List ℕ) (ms : List (List ℕ)) (index : FinMap number_cmp ItemKey) → get index (number_key k n) ≡ Some k → get (with_numbers key ms index) (number_key k n) ≡ Some k
kept_each k key n [] index h = h
kept_each k key n (m ∷ ms) index h = kept_each k key n ms (with_number key m index) (kept index k key n m h)

-- each number that was added is there
there : (key : ItemKey) (n : List ℕ) → is_own key n ≡ false → (ms : List (List ℕ)) (index : FinMap number_cmp ItemKey) → is_among n ms ≡ true → get (with_numbers key ms index) (number_key key n) ≡ Some key
there key n other [] index h = absurd (cc)
there key n other (m ∷ ms) index h = at (bytes_eq n m) refl h (there key n other ms (with_number key m index)) where
  at : (b : Bool) → bytes_eq n m ≡ b → (b || is_among n ms) ≡ true → (is_among n ms ≡ true → get (with_numbers key ms (with_number key m index)) (number_key key n) ≡ Some key) → get (with_numbers key ms (with_number key m index)) (number_key key n) ≡ Some key
  at true e h rest =
      let same = (bytes_eq-Decides n m).0 e in
      kept_each key key n ms (with_number key m index)
      (ap (λ (x : List ℕ). get (with_number key m index) (number_key key x)) same ∙ added index key m (ap (is_own key) (sym same) ∙ other))
  at false e h rest = rest h

-- ---- an item is written

module _ (items : FinMap item_cmp Item) where
  written : (key k : ItemKey) (new i : Item) (b : Bool) → eq_by_cmp item_cmp k key ≡ b → cond b (Some new) (get items k) ≡ Some i → ((k ≡ key) × (new ≡ i)) ⊎ (get items k ≡ Some i)
  written key k new i true e h = inl (same_key item_exact k key e, same_Some new i h)
  written key k new i false e h = inr h

  pub indexed : (index : FinMap number_cmp ItemKey) (key : ItemKey) (new : Item) → IsIndexed items index → IsIndexed (insert items key new) (with_numbers key (numbers_of new.transaction) index)
  indexed index key new is k i n at h other = elim (written key k new i (eq_by_cmp item_cmp k key) refl (sym (get-insert item_total items key new k) ∙ at)) [
    | inl p ↦ subst (λ (j : ItemKey). get (with_numbers key (numbers_of new.transaction) index) (number_key j n) ≡ Some j) (sym p.0)
        (there key n (ap (λ (j : ItemKey). is_own j n) (sym p.0) ∙ other) (numbers_of new.transaction) index (ap (λ (x : Item). is_among n (numbers_of x.transaction)) p.1 ∙ h))
    | inr old ↦ kept_each k key n (numbers_of new.transaction) index (is k i n old h other)
  ]

pub nothing_indexed : (m : FinMap item_cmp Item) (index : FinMap number_cmp ItemKey) → m ≡ empty → IsIndexed m index
nothing_indexed m index e k i number at has other = let f : None ≡ Some i = sym (get-empty item_cmp k) ∙ sym (ap (λ (x : FinMap item_cmp Item). get x k) e) ∙ at in absurd (cc)

-- ---- what is found

value_found : (has : NumberKey → Bool) (q : NumberKey) (v : ItemKey) → has q ≡ true → (es : List (NumberKey × ItemKey)) → find number_cmp q es ≡ Some v → list_any (eq_by_cmp item_cmp v) (values_in has es) ≡ true
value_found has q v is [] h = let f : None ≡ Some v = h in absurd (cc)
value_found has q v is (e ∷ es) h = at (eq_by_cmp number_cmp q e.0) refl h (value_found has q v is es) where
  skip : (b : Bool) → list_any (eq_by_cmp item_cmp v) (values_in has es) ≡ true → list_any (eq_by_cmp item_cmp v) (map (λ e. e.1) (cond b (e ∷ filter (λ e. has e.0) es) (filter (λ e. has e.0) es))) ≡ true
  skip true rest = or_right (eq_by_cmp item_cmp v e.1) (list_any (eq_by_cmp item_cmp v) (values_in has es)) rest
  skip false rest = rest

  at : (b : Bool) → eq_by_cmp number_cmp q e.0 ≡ b → cond b (Some e.1) (find number_cmp q es) ≡ Some v → (find number_cmp q es ≡ Some v → list_any (eq_by_cmp item_cmp v) (values_in has es) ≡ true) → list_any (eq_by_cmp item_cmp v) (values_in has (e ∷ es)) ≡ true
  at true t h rest =
      let same : q ≡ e.0 = same_key number_exact q e.0 t in
      let value : e.1 ≡ v = same_Some e.1 v h in
      ap (λ b. list_any (eq_by_cmp item_cmp v) (map (λ e. e.1) (cond b (e ∷ filter (λ e. has e.0) es) (filter (λ e. has e.0) es)))) (sym (ap has same) ∙ is)
      ∙ or_left (eq_by_cmp item_cmp v e.1) (list_any (eq_by_cmp item_cmp v) (values_in has es)) (ap (eq_by_cmp item_cmp v) value ∙ ap is_eq (tied_itself item_total v))
  at false t h rest = skip (has e.0) (rest h)

and_first : (a b : Bool) → (a && b) ≡ true → a ≡ true
and_first true b h = refl
and_first false b h = h

and_second : (a b : Bool) → (a && b) ≡ true → b ≡ true
and_second true b h = h
and_second false b h = absurd (cc)

and_both : (a b : Bool) → a ≡ true → b ≡ true → (a && b) ≡ true
and_both true b h k = k
and_both false b h k = h

-- an item is one of those that may have its number
one_of_two : (agent number : ℕ) (canx : Bool) → list_any (eq_by_cmp item_cmp (record { agent = agent; number = number; is_canx = canx })) (own_keys agent (Some number)) ≡ true
one_of_two agent number false = or_left _ _ (ap is_eq (tied_itself item_total (record { agent = agent; number = number; is_canx = false })))
one_of_two agent number true = or_right _ _ (or_left _ _ (ap is_eq (tied_itself item_total (record { agent = agent; number = number; is_canx = true }))))

own_found : (k : ItemKey) (agent : ℕ) (read : Option ℕ) → (k.agent == agent) ≡ true → is_number k.number read ≡ true → list_any (eq_by_cmp item_cmp k) (own_keys agent read) ≡ true
own_found k agent None own is = absurd (cc is)
own_found k agent (Some number) own is =
    let a : agent ≡ k.agent = sym (eqb-true k.agent agent own) in
    let n : number ≡ k.number = eqb-true number k.number is in
    (λ i. list_any (eq_by_cmp item_cmp k) (own_keys (a i) (Some (n i)))) ∙ one_of_two k.agent k.number k.is_canx

module _ (index : FinMap number_cmp ItemKey) (agent : ℕ) (k : ItemKey) (own : (k.agent == agent) ≡ true) where
  at_number : (n m : List ℕ) → (is_own k n ≡ false → get index (number_key k n) ≡ Some k) → bytes_eq n m ≡ true → list_any (eq_by_cmp item_cmp k) (keys_at index agent m) ≡ true
  at_number n m is same = list_any-append (eq_by_cmp item_cmp k) (own_keys agent (result_ok (code_reading 10 m))) (values_in (is_of_number agent m) (entries index)) ∙ at (is_own k n) refl where
    at : (b : Bool) → is_own k n ≡ b → (list_any (eq_by_cmp item_cmp k) (own_keys agent (result_ok (code_reading 10 m))) || list_any (eq_by_cmp item_cmp k) (values_in (is_of_number agent m) (entries index))) ≡ true
    at true e = or_left _ _ (own_found k agent (result_ok (code_reading 10 m)) own (ap (is_own k) (sym ((bytes_eq-Decides n m).0 same)) ∙ e))
    at false e = or_right _ _ (value_found (is_of_number agent m) (number_key k n) k (and_both (k.agent == agent) (bytes_eq n m) own same) (entries index) (sym (get-entries index (number_key k n)) ∙ is e))

  at_each : (n : List ℕ) → (is_own k n ≡ false → get index (number_key k n) ≡ Some k) → (ms : List (List ℕ)) → is_among n ms ≡ true → list_any (eq_by_cmp item_cmp k) (keys_at_each index agent ms) ≡ true
  at_each n is [] h = absurd (cc)
  at_each n is (m ∷ ms) h = list_any-append (eq_by_cmp item_cmp k) (keys_at index agent m) (keys_at_each index agent ms) ∙ at (bytes_eq n m) refl h (at_each n is ms) where
    at : (b : Bool) → bytes_eq n m ≡ b → (b || is_among n ms) ≡ true → (is_among n ms ≡ true → list_any (eq_by_cmp item_cmp k) (keys_at_each index agent ms) ≡ true) → (list_any (eq_by_cmp item_cmp k) (keys_at index agent m) || list_any (eq_by_cmp item_cmp k) (keys_at_each index agent ms)) ≡ true
    at true e h rest = or_left (list_any (eq_by_cmp item_cmp k) (keys_at index agent m)) (list_any (eq_by_cmp item_cmp k) (keys_at_each index agent ms)) (at_number n m is e)
    at false e h rest = or_right (list_any (eq_by_cmp item_cmp k) (keys_at index agent m)) (list_any (eq_by_cmp item_cmp k) (keys_at_each index agent ms)) (rest h)

itself : (n : List ℕ) → bytes_eq n n ≡ true
itself n = (bytes_eq-Decides n n).1 refl

-- one of the numbers passes
some_number : (test : List ℕ → Bool) (G : Type 0) (ns : List (List ℕ)) → list_any test ns ≡ true → ((n : List ℕ) → test n ≡ true → is_among n ns ≡ true → G) → G
some_number test G [] h f = absurd (cc)
some_number test G (m ∷ ms) h f = one (test m) refl h (λ rest. some_number test G ms rest (λ n t p. f n t (or_right (bytes_eq n m) (is_among n ms) p))) where
  one : (b : Bool) → test m ≡ b → (b || list_any test ms) ≡ true → (list_any test ms ≡ true → G) → G
  one true t h rest = f m t (or_left (bytes_eq m m) (is_among m ms) (itself m))
  one false t h rest = rest h

pub all_bearing : (items : FinMap item_cmp Item) (index : FinMap number_cmp ItemKey) (agent : ℕ) (t : Transaction) → IsIndexed items index → AreAmong (is_bearing agent t) items (keys_at_each index agent (numbers_of t))
all_bearing items index agent t is k i at h =
    let own = and_first (k.agent == agent) (shares (numbers_of t) i) h in
    some_number (λ n. is_among n (numbers_of t)) (list_any (eq_by_cmp item_cmp k) (keys_at_each index agent (numbers_of t)) ≡ true) (numbers_of i.transaction) (and_second (k.agent == agent) (shares (numbers_of t) i) h)
    (λ n shared has. at_each index agent k own n (is k i n at has) (numbers_of t) shared)

-- a number that a related place names is among the related numbers
named : (number : List ℕ) (places : List (Option ReportedDocument)) → list_any (names_number number) places ≡ list_any (λ n. bytes_eq n number) (place_numbers places)
named number [] = refl
named number (None ∷ places) = named number places
named number (Some d ∷ places) = ap (λ b. bytes_eq d.number number || b) (named number places)

pub all_with_number : (items : FinMap item_cmp Item) (index : FinMap number_cmp ItemKey) (agent : ℕ) (number : List ℕ) → IsIndexed items index → AreAmong (is_with_number agent number) items (keys_at index agent number)
all_with_number items index agent number is k i at h =
    let own = and_first (k.agent == agent) (bears number i) h in
    let borne = ap (λ b. has_number number i || b) (sym (named number i.transaction.related)) ∙ and_second (k.agent == agent) (bears number i) h in
    some_number (λ n. bytes_eq n number) (list_any (eq_by_cmp item_cmp k) (keys_at index agent number) ≡ true) (numbers_of i.transaction) borne
    (λ n same has. at_number index agent k own n number (is k i n at has) same)

-- ---- the list

pub two_tests : {K V : Type 0} (q : K → Bool) (p : V → Bool) (es : List (K × V)) → map (λ e. e.1) (filter (λ e. q e.0 && p e.1) es) ≡ filter p (map (λ e. e.1) (filter (λ e. q e.0) es))
two_tests q p [] = refl
two_tests {K} {V} q p (e ∷ es) = split (q e.0) (p e.1) refl (two_tests q p es) where
  split : (a b : Bool) → p e.1 ≡ b → map (λ e. e.1) (filter (λ e. q e.0 && p e.1) es) ≡ filter p (map (λ e. e.1) (filter (λ e. q e.0) es))
      → map (λ e. e.1) (cond (a && b) (e ∷ filter (λ e. q e.0 && p e.1) es) (filter (λ e. q e.0 && p e.1) es)) ≡ filter p (map (λ e. e.1) (cond a (e ∷ filter (λ e. q e.0) es) (filter (λ e. q e.0) es)))
  split true true h rest = ap (λ l. e.1 ∷ l) rest ∙ sym (ap (λ b. cond b (e.1 ∷ filter p (map (λ e. e.1) (filter (λ e. q e.0) es))) (filter p (map (λ e. e.1) (filter (λ e. q e.0) es)))) h)
  split true false h rest = rest ∙ sym (ap (λ b. cond b (e.1 ∷ filter p (map (λ e. e.1) (filter (λ e. q e.0) es))) (filter p (map (λ e. e.1) (filter (λ e. q e.0) es)))) h)
  split false b h rest = rest
