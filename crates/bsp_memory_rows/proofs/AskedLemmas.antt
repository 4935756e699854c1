-- The tallies that are kept and have rows are those of the keys that some row has.
use Rattle.std.proofs.Common.{◌≡◌, ℕ, ◌<◌, ◌==◌, ◌&&◌, ◌||◌, Bool, true, false, cond, T, List, [], ◌∷◌, ◌++◌, map, length, refl, sym, ap, subst, ◌∙◌, arith, Ordering, Option, Some, None, is_some}
use Rattle.std.specs.Prelude.{nat_lt, option_map, unwrap_or}
use Rattle.std.specs.List.{Contains, cons_option, filter, filter_map, list_any}
use Rattle.std.specs.Ordering.{eq_by_cmp}
use Rattle.std.specs.Cmp.{IsTotalOrder}
use Rattle.std.specs.FinMap.{FinMap, IsAntisymmetric, entries, entries_sorted, entries-from_sorted, from_entries, from_sorted, get, get-entries, get-from_entries, get-from_sorted, keys, same_map}
use Rattle.std.specs.FinMap.Entries.{below_all, find, is_sorted}
use Rattle.std.specs.Ordering.{is_lt}
use Rattle.std.proofs.lemmas.List.Folds.{list_any-append}
use Rattle.bsp_rows.proofs.ListLemmas.{contains_head, contains_tail}
use Rattle.bsp_rows.specs.Item.{Item}
use Rattle.bsp_rows.specs.MemoFields.{MemoFields}
use Rattle.bsp_rows.specs.Owed.{is_period}
use Rattle.bsp_rows.specs.Tally.{Tally}
use Rattle.bsp_rows.specs.PostingsTallies.{is_item_under, is_memo_under}
use Rattle.bsp_maps.specs.Windows.{entries_in}
use Rattle.bsp_maps.proofs.PickLemmas.{find_passing, sorted_filter, wanted}
use Rattle.bsp_rows.specs.declared.keys.TallyKey.{TallyKey}
use Rattle.bsp_rows.specs.declared.questions.Tallies.{Tallies}
use Rattle.bsp_rows.specs.Tallies.{added_up, is_tally_asked, item_tally_key, key_tally, memo_tally_key, tally_cmp}
use Rattle.bsp_rows.proofs.KeyOrders.{tally_exact, tally_total}
use Rattle.bsp_rows.proofs.MapLemmas.{entry_get, same_key}
use Rattle.bsp_memory_rows.specs.Kept.{AreAddedUp}
use Rattle.bsp_memory_rows.specs.Lookups.{asked_tallies, has_rows, is_asked}
use Rattle.bsp_memory_rows.proofs.TallySteps.{billed_key, key_is, memo_key_of, own_key, own_memo_key, ties}

-- ---- tests of lists

both_ways : (a b : Bool) → (a ≡ true → b ≡ true) → (b ≡ true → a ≡ true) → a ≡ b
both_ways true b f g = sym (f refl)
both_ways false true f g = g refl
both_ways false false f g = refl

length_more : {A : Type 0} (x : A) (xs : List A) → nat_lt 0 (length (x ∷ xs)) ≡ true
length_more x xs = let h : 0 < length (x ∷ xs) = omega arith in grind arith

-- some elements pass exactly where one does
some_pass : {A : Type 0} (p : A → Bool) (xs : List A) → nat_lt 0 (length (filter p xs)) ≡ list_any p xs
some_pass p [] = refl
some_pass p (x ∷ xs) = at (p x) (some_pass p xs) where
  at : (b : Bool) → nat_lt 0 (length (filter p xs)) ≡ list_any p xs → nat_lt 0 (length (cond b (x ∷ filter p xs) (filter p xs))) ≡ (b || list_any p xs)
  at true rest = length_more x (filter p xs)
  at false rest = rest

any_mapped : {A B : Type 0} (p : A → Bool) (q : B → Bool) (f : A → B) → ((x : A) → p x ≡ q (f x)) → (xs : List A) → list_any p xs ≡ list_any q (map f xs)
any_mapped p q f same [] = refl
any_mapped p q f same (x ∷ xs) = ap (λ b. b || list_any p xs) (same x) ∙ ap (λ b. q (f x) || b) (any_mapped p q f same xs)

abbrev passes : {B : Type 0} → (B → Bool) → Option B → Bool
passes q None = false
passes q (Some y) = q y

any_filtered : {A B : Type 0} (p : A → Bool) (q : B → Bool) (f : A → Option B) → ((x : A) → p x ≡ passes q (f x)) → (xs : List A) → list_any p xs ≡ list_any q (filter_map f xs)
any_filtered p q f same [] = refl
any_filtered {A} {B} p q f same (x ∷ xs) = ap (λ b. b || list_any p xs) (same x) ∙ at (f x) (any_filtered p q f same xs) where
  at : (o : Option B) → list_any p xs ≡ list_any q (filter_map f xs) → (passes q o || list_any p xs) ≡ list_any q (cons_option o (filter_map f xs))
  at None rest = rest
  at (Some y) rest = ap (λ b. q y || b) rest

-- ---- the keys that some row has

module _ (k : TallyKey) where
  item_key : (i : Item) → is_item_under (key_tally k) i ≡ eq_by_cmp tally_cmp k (item_tally_key i)
  item_key i = both_ways (is_item_under (key_tally k) i) (eq_by_cmp tally_cmp k (item_tally_key i))
      (λ own. ap (eq_by_cmp tally_cmp k) (sym (key_is k i own)) ∙ ties k)
      (λ tie. ap (λ (q : TallyKey). is_item_under (key_tally q) i) (same_key tally_exact k (item_tally_key i) tie) ∙ own_key i)

  never : (a b : Bool) → (a && (b && false)) ≡ false
  never true true = refl
  never true false = refl
  never false b = refl

  no_key : (m : MemoFields) (billed : Option ℕ) → m.billed ≡ billed → option_map (λ period. memo_key_of period m) billed ≡ None → is_memo_under (key_tally k) m ≡ false
  no_key m None is none = ap (λ (b : Option ℕ). (m.agent == k.agent) && ((m.airline == k.airline) && is_period k.period b)) is ∙ never (m.agent == k.agent) (m.airline == k.airline)
  no_key m (Some period) is none = let f : Some (memo_key_of period m) ≡ None = none in absurd (cc f)

  memo_key : (m : MemoFields) (o : Option TallyKey) → memo_tally_key m ≡ o → is_memo_under (key_tally k) m ≡ passes (eq_by_cmp tally_cmp k) o
  memo_key m None is = no_key m m.billed refl is
  memo_key m (Some key) is = both_ways (is_memo_under (key_tally k) m) (eq_by_cmp tally_cmp k key)
      (λ own. ap (eq_by_cmp tally_cmp k) (sym (billed_key m k key m.billed refl is own)) ∙ ties k)
      (λ tie. ap (λ (q : TallyKey). is_memo_under (key_tally q) m) (same_key tally_exact k key tie) ∙ own_memo_key m key is)

  used : (items : List Item) (memos : List MemoFields) → has_rows (added_up (key_tally k) items memos) ≡ list_any (eq_by_cmp tally_cmp k) (map item_tally_key items ++ filter_map memo_tally_key memos)
  used items memos =
      ap (λ b. b || nat_lt 0 (length (filter (is_memo_under (key_tally k)) memos))) (some_pass (is_item_under (key_tally k)) items ∙ any_mapped (is_item_under (key_tally k)) (eq_by_cmp tally_cmp k) item_tally_key item_key items)
      ∙ ap (λ b. list_any (eq_by_cmp tally_cmp k) (map item_tally_key items) || b) (some_pass (is_memo_under (key_tally k)) memos ∙ any_filtered (is_memo_under (key_tally k)) (eq_by_cmp tally_cmp k) memo_tally_key (λ m. memo_key m (memo_tally_key m) refl) memos)
      ∙ sym (list_any-append (eq_by_cmp tally_cmp k) (map item_tally_key items) (filter_map memo_tally_key memos))

-- ---- keys of sorted entries

bare : {K V : Type 0} → List (K × V) → List (K × Unit {0})
bare es = map (λ e. (e.0, tt {0})) es

find_key : {K : Type 0} (R : K → K → Ordering) (q : K) (ks : List K) → find R q (map (λ k. (k, tt {0})) ks) ≡ cond (list_any (eq_by_cmp R q) ks) (Some (tt {0})) None
find_key R q [] = refl
find_key R q (k ∷ ks) = at (eq_by_cmp R q k) (find_key R q ks) where
  at : (b : Bool) → find R q (map (λ k. (k, tt {0})) ks) ≡ cond (list_any (eq_by_cmp R q) ks) (Some (tt {0})) None → cond b (Some (tt {0})) (find R q (map (λ k. (k, tt {0})) ks)) ≡ cond (b || list_any (eq_by_cmp R q) ks) (Some (tt {0})) None
  at true rest = refl
  at false rest = rest

module _ {K V : Type 0} (R : K → K → Ordering) (o : IsTotalOrder R) (exact : IsAntisymmetric R) where
  below_bare : (x : K) (es : List (K × V)) → below_all R x (bare es) ≡ below_all R x es
  unfolding bare
  below_bare x [] = refl
  below_bare x (e ∷ es) = ap (λ b. is_lt (R x e.0) && b) (below_bare x es)

  sorted_bare : (es : List (K × V)) → is_sorted R (bare es) ≡ is_sorted R es
  unfolding bare
  sorted_bare [] = refl
  sorted_bare (e ∷ es) = ap (λ b. b && is_sorted R (bare es)) (below_bare e.0 es) ∙ ap (λ b. below_all R e.0 es && b) (sorted_bare es)

  find_bare : (q : K) (es : List (K × V)) → find R q (bare es) ≡ option_map (λ v. tt {0}) (find R q es)
  unfolding bare
  find_bare q [] = refl
  find_bare q (e ∷ es) = at (eq_by_cmp R q e.0) (find_bare q es) where
    at : (b : Bool) → find R q (bare es) ≡ option_map (λ v. tt {0}) (find R q es) → cond b (Some (tt {0})) (find R q (bare es)) ≡ option_map (λ v. tt {0}) (cond b (Some e.1) (find R q es))
    at true rest = refl
    at false rest = rest

  bare_keys : (es : List (K × V)) → map (λ e. e.0) (bare es) ≡ map (λ e. e.0) es
  unfolding bare
  bare_keys [] = refl
  bare_keys (e ∷ es) = ap (λ ks. e.0 ∷ ks) (bare_keys es)

  some_unit : (w : Option V) → option_map (λ v. tt {0}) w ≡ cond (is_some w) (Some (tt {0})) None
  some_unit None = refl
  some_unit (Some v) = refl

  -- sorted entries have the keys of a list, where an entry is at just those
  pub sorted_keys : (es : List (K × V)) (ks : List K) → T (is_sorted R es) → ((q : K) → is_some (find R q es) ≡ list_any (eq_by_cmp R q) ks) → map (λ e. e.0) es ≡ keys (from_entries {R = R} (map (λ k. (k, tt {0})) ks))
  sorted_keys es ks up same =
      let up_bare : T (is_sorted R (bare es)) = subst (λ b. T b) (sym (sorted_bare es)) up in
      let maps : from_sorted (bare es) ≡ from_entries {R = R} (map (λ k. (k, tt {0})) ks) = same_map o exact (from_sorted (bare es)) (from_entries {R = R} (map (λ k. (k, tt {0})) ks)) (λ q.
      get-from_sorted R (bare es) q up_bare ∙ find_bare q es ∙ some_unit (find R q es) ∙ ap (λ b. cond b (Some (tt {0})) None) (same q)
      ∙ sym (get-from_entries o (map (λ k. (k, tt {0})) ks) q ∙ find_key R q ks)) in
      sym (bare_keys es) ∙ ap (map (λ e. e.0)) (sym (entries-from_sorted R (bare es) up_bare)) ∙ ap keys maps

-- ---- the tallies that are asked for

module _ (asked : TallyKey → Bool) (tally : TallyKey → Tally) where
  pub listed : (es : List (TallyKey × Tally)) → ((e : TallyKey × Tally) → Contains es e → e.1 ≡ tally e.0) → map (λ e. e.1) (filter (λ e. asked e.0 && has_rows e.1) es) ≡ map tally (filter asked (map (λ e. e.0) (filter (λ e. has_rows e.1) es)))
  listed [] is = refl
  listed (e ∷ es) is = at (asked e.0) (has_rows e.1) refl (listed es (λ d there. is d (contains_tail e es d there))) where
    whole : List Tally
    whole = map (λ e. e.1) (filter (λ e. asked e.0 && has_rows e.1) es)

    rest_keys : List TallyKey
    rest_keys = map (λ e. e.0) (filter (λ e. has_rows e.1) es)

    at : (a b : Bool) → asked e.0 ≡ a → map (λ e. e.1) (filter (λ e. asked e.0 && has_rows e.1) es) ≡ map tally (filter asked (map (λ e. e.0) (filter (λ e. has_rows e.1) es)))
        → map (λ e. e.1) (cond (a && b) (e ∷ filter (λ e. asked e.0 && has_rows e.1) es) (filter (λ e. asked e.0 && has_rows e.1) es)) ≡ map tally (filter asked (map (λ e. e.0) (cond b (e ∷ filter (λ e. has_rows e.1) es) (filter (λ e. has_rows e.1) es))))
    at true true p rest = ap (λ t. t ∷ map (λ e. e.1) (filter (λ e. asked e.0 && has_rows e.1) es)) (is e (contains_head e es)) ∙ ap (λ ts. tally e.0 ∷ ts) rest
        ∙ sym (ap (λ b. map tally (cond b (e.0 ∷ filter asked (map (λ e. e.0) (filter (λ e. has_rows e.1) es))) (filter asked (map (λ e. e.0) (filter (λ e. has_rows e.1) es))))) p)
    at true false p rest = rest
    at false true p rest = rest ∙ sym (ap (λ b. map tally (cond b (e.0 ∷ filter asked (map (λ e. e.0) (filter (λ e. has_rows e.1) es))) (filter asked (map (λ e. e.0) (filter (λ e. has_rows e.1) es))))) p)
    at false false p rest = rest

module _ (items : List Item) (memos : List MemoFields) (tallies : FinMap tally_cmp Tally) (are : AreAddedUp items memos tallies) where
  entry_tally : (e : TallyKey × Tally) → Contains (entries tallies) e → e.1 ≡ added_up (key_tally e.0) items memos
  entry_tally e there = sym (ap (λ (w : Option Tally). unwrap_or w (key_tally e.0)) (entry_get tally_total tally_exact tallies e.0 e.1 there)) ∙ are e.0

  found_used : (k : TallyKey) (w : Option Tally) → get tallies k ≡ w → is_some (wanted tally_cmp tally_total tally_exact (λ k t. has_rows t) k w) ≡ has_rows (unwrap_or w (key_tally k))
  found_used k None is = refl
  found_used k (Some t) is = at (has_rows t) where
    at : (b : Bool) → is_some (cond b (Some t) None) ≡ b
    at true = refl
    at false = refl

  has_key : (k : TallyKey) → is_some (find tally_cmp k (filter (λ e. has_rows e.1) (entries tallies))) ≡ list_any (eq_by_cmp tally_cmp k) (map item_tally_key items ++ filter_map memo_tally_key memos)
  has_key k =
      ap is_some (find_passing tally_cmp tally_total tally_exact (λ k t. has_rows t) k (entries tallies) (entries_sorted tallies))
      ∙ ap (λ (w : Option Tally). is_some (wanted tally_cmp tally_total tally_exact (λ k t. has_rows t) k w)) (sym (get-entries tallies k))
      ∙ found_used k (get tallies k) refl
      ∙ ap has_rows (are k)
      ∙ used k items memos

  pub asked_are : (which : Tallies) → asked_tallies which (entries tallies) ≡ map (λ k. added_up (key_tally k) items memos) (filter (is_tally_asked which) (keys (from_entries {R = tally_cmp} (map (λ k. (k, tt {0})) (map item_tally_key items ++ filter_map memo_tally_key memos)))))
  asked_are which =
      listed (is_tally_asked which) (λ k. added_up (key_tally k) items memos) (entries tallies) entry_tally
      ∙ ap (λ ks. map (λ k. added_up (key_tally k) items memos) (filter (is_tally_asked which) ks))
      (sorted_keys tally_cmp tally_total tally_exact (filter (λ e. has_rows e.1) (entries tallies)) (map item_tally_key items ++ filter_map memo_tally_key memos)
      (sorted_filter tally_cmp tally_total (λ e. has_rows e.1) (entries tallies) (entries_sorted tallies)) has_key)

-- those of an agent, where no others are asked for
pub of_window : (which : Tallies) (has : TallyKey → Bool) → ((k : TallyKey) → is_tally_asked which k ≡ true → has k ≡ true) → (es : List (TallyKey × Tally)) → asked_tallies which (entries_in has es) ≡ asked_tallies which es
of_window which has all [] = refl
of_window which has all (e ∷ es) = at (has e.0) (is_tally_asked which e.0) refl refl (of_window which has all es) where
  at : (h a : Bool) → has e.0 ≡ h → is_tally_asked which e.0 ≡ a → asked_tallies which (entries_in has es) ≡ asked_tallies which es
      → asked_tallies which (cond h (e ∷ entries_in has es) (entries_in has es)) ≡ map (λ e. e.1) (cond (a && has_rows e.1) (e ∷ filter (λ e. is_asked which e.0 e.1) es) (filter (λ e. is_asked which e.0 e.1) es))
  at true a p q rest = ap (λ b. map (λ e. e.1) (cond (b && has_rows e.1) (e ∷ filter (λ e. is_asked which e.0 e.1) (entries_in has es)) (filter (λ e. is_asked which e.0 e.1) (entries_in has es)))) q ∙ more (a && has_rows e.1) rest where
    more : (b : Bool) → asked_tallies which (entries_in has es) ≡ asked_tallies which es → map (λ e. e.1) (cond b (e ∷ filter (λ e. is_asked which e.0 e.1) (entries_in has es)) (filter (λ e. is_asked which e.0 e.1) (entries_in has es))) ≡ map (λ e. e.1) (cond b (e ∷ filter (λ e. is_asked which e.0 e.1) es) (filter (λ e. is_asked which e.0 e.1) es))
    more true rest = ap (λ ts. e.1 ∷ ts) rest
    more false rest = rest
  at false true p q rest = absurd (cc (all e.0 q))
  at false false p q rest = rest
