-- What a row more or less makes of the tallies.
use Rattle.std.proofs.Common.{◌≡◌, ℕ, ◌+◌, ◌==◌, ◌&&◌, Bool, true, false, cond, List, ◌∷◌, length, refl, sym, ap, subst, ◌∙◌, arith, Option, Some, None, Result, Ok, Err, OnOk, IsPermutation}
use Rattle.std.specs.Prelude.{unwrap_or, option_map, IsSome, IfSome, SomeIff}
use Rattle.std.specs.List.{filter, sum_by}
use Rattle.std.specs.Ordering.{eq_by_cmp, is_eq}
use Rattle.std.specs.Cmp.{tied_itself}
use Rattle.std.specs.FinMap.{FinMap, get, insert, get-insert}
use Rattle.std.specs.Cmp.Derive.{both_true}
use Rattle.std.proofs.lemmas.Bool.{and_parts, eqb-true}
use Rattle.bsp_rows.specs.Item.{Item}
use Rattle.bsp_rows.specs.MemoFields.{MemoFields}
use Rattle.bsp_rows.specs.Owed.{is_billed_in, is_period}
use Rattle.bsp_rows.specs.Posting.{Posting}
use Rattle.bsp_rows.specs.Tally.{Tally}
use Rattle.bsp_rows.specs.Postings.{is_counted, item_posting, postings}
use Rattle.bsp_rows.specs.Nets.{cash_of, credit_of, commission_of, tax_of, memos_of}
use Rattle.bsp_rows.specs.Removal.{not_counting, without_item, without_memo, without_posting}
use Rattle.bsp_rows.specs.PostingsTallies.{IsTallyOf, counting, is_item_under, is_memo_under, items_under, under, with_item, with_memo, with_posting}
use Rattle.bsp_rows.specs.RulesRows.{is_canx}
use Rattle.std.specs.Prelude.{count_by}
use Rattle.bsp_rows.proofs.TallyLemmas as grown
use Rattle.bsp_rows.proofs.RemovalLemmas as shrunk
use Rattle.bsp_rows.proofs.RemovalLemmas.{documents_and_memos}
use Rattle.bsp_rows.specs.declared.keys.TallyKey.{TallyKey}
use Rattle.bsp_rows.specs.Tallies.{added_up, item_tally_key, key_tally, memo_tally_key, tally_cmp}
use Rattle.bsp_rows.proofs.KeyOrders.{tally_exact, tally_total}
use Rattle.bsp_rows.proofs.MapLemmas.{same_key, same_Some}
use Rattle.bsp_memory_rows.specs.Kept.{AreAddedUp, tally_at}

-- ---- one tally of given rows

-- the counts and the sums of rows are their tally
pub is_tally : (items : List Item) (memos : List MemoFields) (t : Tally) → IsTallyOf items memos (added_up t items memos)
is_tally items memos t = record {
  accepted = refl;
  canx = refl;
  living = refl;
  count = documents_and_memos items memos t;
  cash = refl;
  credit = refl;
  commission = refl;
  tax = refl;
  memos = refl;
}

-- and there is no other of the same agent, airline and period
pub one_tally : (items : List Item) (memos : List MemoFields) (s t : Tally) → IsTallyOf items memos s → s.agent ≡ t.agent → s.airline ≡ t.airline → s.period ≡ t.period → s ≡ added_up t items memos
one_tally items memos s t is agent airline period =
    let rows : under items memos s ≡ under items memos t = λ j. filter (λ (p : Posting). (p.agent == agent j) && (p.airline == airline j)) (postings (period j) items memos) in
    let own : items_under items s ≡ items_under items t = λ j. filter (λ (i : Item). (i.agent == agent j) && ((i.transaction.document.airline == airline j) && (i.period == period j))) items in
    let living : s.living ≡ sum_by (λ p. p.documents) (under items memos t) = is.living ∙ ap (λ (l : List Posting). sum_by (λ p. p.documents) l) rows in
    let count : s.living + s.memo_count ≡ length (under items memos t) = is.count ∙ ap (λ (l : List Posting). length l) rows in
    let both = documents_and_memos items memos t in
    let billed : s.memo_count ≡ length (filter (is_memo_under t) memos) = omega (arith, living, count, both) in
    λ j. record {
      agent = agent j;
      airline = airline j;
      period = period j;
      accepted = (is.accepted ∙ ap (λ (l : List Item). length l) own) j;
      living = living j;
      canx = (is.canx ∙ ap (λ (l : List Item). count_by is_canx l) own) j;
      memo_count = billed j;
      cash = (is.cash ∙ ap cash_of rows) j;
      credit = (is.credit ∙ ap credit_of rows) j;
      commission = (is.commission ∙ ap commission_of rows) j;
      tax = (is.tax ∙ ap tax_of rows) j;
      memos = (is.memos ∙ ap memos_of rows) j;
    }

if_same : {A B : Type 0} (f : A → B) (b : Bool) (x y : A) (z : B) → f x ≡ z → f y ≡ z → f (cond b x y) ≡ z
if_same f true x y z p q = p
if_same f false x y z p q = q

-- ---- the tally of a key, with a row more or less

module _ (t : Tally) (items : List Item) (memos : List MemoFields) where
  item_more : (i : Item) → is_item_under t i ≡ true → with_item i (added_up t items memos) ≡ added_up t (i ∷ items) memos
  item_more i own =
      let s = added_up t items memos in
      let b = is_counted i.period i in
      let x = with_posting (item_posting i) (counting i s) in
      one_tally (i ∷ items) memos (with_item i s) t (grown.own_item i items memos s own (is_tally items memos t))
      (if_same (λ (u : Tally). u.agent) b x (counting i s) t.agent refl refl)
      (if_same (λ (u : Tally). u.airline) b x (counting i s) t.airline refl refl)
      (if_same (λ (u : Tally). u.period) b x (counting i s) t.period refl refl)

  item_less : (i : Item) → is_item_under t i ≡ true → without_item i (added_up t (i ∷ items) memos) ≡ added_up t items memos
  item_less i own =
      let s = added_up t (i ∷ items) memos in
      let b = is_counted i.period i in
      let x = without_posting (item_posting i) (not_counting i s) in
      one_tally items memos (without_item i s) t (shrunk.own_item i items memos s own (is_tally (i ∷ items) memos t))
      (if_same (λ (u : Tally). u.agent) b x (not_counting i s) t.agent refl refl)
      (if_same (λ (u : Tally). u.airline) b x (not_counting i s) t.airline refl refl)
      (if_same (λ (u : Tally). u.period) b x (not_counting i s) t.period refl refl)

  item_other : (i : Item) → is_item_under t i ≡ false → added_up t items memos ≡ added_up t (i ∷ items) memos
  item_other i other = one_tally (i ∷ items) memos (added_up t items memos) t (grown.other_item i items memos (added_up t items memos) other (is_tally items memos t)) refl refl refl

  memo_more : (m : MemoFields) → is_memo_under t m ≡ true → with_memo m (added_up t items memos) ≡ added_up t items (m ∷ memos)
  memo_more m own = one_tally items (m ∷ memos) (with_memo m (added_up t items memos)) t (grown.own_memo m items memos (added_up t items memos) own (is_tally items memos t)) refl refl refl

  memo_less : (m : MemoFields) → is_memo_under t m ≡ true → without_memo m (added_up t items (m ∷ memos)) ≡ added_up t items memos
  memo_less m own = one_tally items memos (without_memo m (added_up t items (m ∷ memos))) t (shrunk.own_memo m items memos (added_up t items (m ∷ memos)) own (is_tally items (m ∷ memos) t)) refl refl refl

  memo_other : (m : MemoFields) → is_memo_under t m ≡ false → added_up t items memos ≡ added_up t items (m ∷ memos)
  memo_other m other = one_tally items (m ∷ memos) (added_up t items memos) t (grown.other_memo m items memos (added_up t items memos) other (is_tally items memos t)) refl refl refl

-- ---- whose row it is

same_number : (n : ℕ) → (n == n) ≡ true
same_number n = grind arith

pub own_key : (i : Item) → is_item_under (key_tally (item_tally_key i)) i ≡ true
own_key i = both_true (same_number i.agent) (both_true (same_number i.transaction.document.airline) (same_number i.period))

pub key_is : (k : TallyKey) (i : Item) → is_item_under (key_tally k) i ≡ true → k ≡ item_tally_key i
key_is k i own =
    let parts = and_parts (i.agent == k.agent) _ own in
    let tail = and_parts (i.transaction.document.airline == k.airline) (i.period == k.period) parts.1 in
    let a : i.agent ≡ k.agent = eqb-true i.agent k.agent parts.0 in
    let c : i.transaction.document.airline ≡ k.airline = eqb-true i.transaction.document.airline k.airline tail.0 in
    let p : i.period ≡ k.period = eqb-true i.period k.period tail.1 in
    λ j. record { agent = sym a j; airline = sym c j; period = sym p j }

pub ties : (k : TallyKey) → eq_by_cmp tally_cmp k k ≡ true
ties k = ap is_eq (tied_itself tally_total k)

not_own : (k : TallyKey) (i : Item) (b : Bool) → is_item_under (key_tally k) i ≡ b → eq_by_cmp tally_cmp k (item_tally_key i) ≡ false → b ≡ false
not_own k i false own apart = refl
not_own k i true own apart =
    let is : eq_by_cmp tally_cmp k (item_tally_key i) ≡ true = ap (eq_by_cmp tally_cmp k) (sym (key_is k i own)) ∙ ties k in
    absurd (cc (is, apart))

abbrev pub memo_key_of : ℕ → MemoFields → TallyKey
memo_key_of period m = record { agent = m.agent; airline = m.airline; period = period }

module _ (m : MemoFields) where
  key_billed : (key : TallyKey) (billed : Option ℕ) → m.billed ≡ billed → option_map (λ period. memo_key_of period m) billed ≡ Some key → is_memo_under (key_tally key) m ≡ true
  key_billed key None is has = let f : None ≡ Some key = has in absurd (cc)
  key_billed key (Some period) is has =
      let same : memo_key_of period m ≡ key = same_Some (memo_key_of period m) key has in
      subst (λ (k : TallyKey). is_memo_under (key_tally k) m ≡ true) same
      (both_true (same_number m.agent) (both_true (same_number m.airline) (ap (is_period period) is ∙ same_number period)))

  pub own_memo_key : (key : TallyKey) → memo_tally_key m ≡ Some key → is_memo_under (key_tally key) m ≡ true
  own_memo_key key has = key_billed key m.billed refl has

  pub billed_key : (k key : TallyKey) (billed : Option ℕ) → m.billed ≡ billed → option_map (λ period. memo_key_of period m) billed ≡ Some key → is_memo_under (key_tally k) m ≡ true → k ≡ key
  billed_key k key None is has own = let f : None ≡ Some key = has in absurd (cc)
  billed_key k key (Some period) is has own =
      let parts = and_parts (m.agent == k.agent) _ own in
      let tail = and_parts (m.airline == k.airline) (is_billed_in k.period m) parts.1 in
      let a : m.agent ≡ k.agent = eqb-true m.agent k.agent parts.0 in
      let c : m.airline ≡ k.airline = eqb-true m.airline k.airline tail.0 in
      let p : period ≡ k.period = eqb-true period k.period (sym (ap (is_period k.period) is) ∙ tail.1) in
      let here : k ≡ memo_key_of period m = λ j. record { agent = sym a j; airline = sym c j; period = sym p j } in
      here ∙ same_Some (memo_key_of period m) key has

  not_own_memo : (k key : TallyKey) (b : Bool) → memo_tally_key m ≡ Some key → is_memo_under (key_tally k) m ≡ b → eq_by_cmp tally_cmp k key ≡ false → b ≡ false
  not_own_memo k key false has own apart = refl
  not_own_memo k key true has own apart =
      let is : eq_by_cmp tally_cmp k key ≡ true = ap (eq_by_cmp tally_cmp k) (sym (billed_key k key m.billed refl has own)) ∙ ties k in
      absurd (cc (is, apart))

-- ---- one tally is written

module _ (old : FinMap tally_cmp Tally) (was is : TallyKey → Tally) (key : TallyKey) (new : Tally) where
  at_written : (k : TallyKey) (b : Bool) → eq_by_cmp tally_cmp k key ≡ b → new ≡ is key → (b ≡ false → was k ≡ is k) → tally_at old k ≡ was k → unwrap_or (cond b (Some new) (get old k)) (key_tally k) ≡ is k
  at_written k true e own other before = own ∙ ap is (sym (same_key tally_exact k key e))
  at_written k false e own other before = before ∙ other refl

  written : new ≡ is key → ((k : TallyKey) → eq_by_cmp tally_cmp k key ≡ false → was k ≡ is k) → ((k : TallyKey) → tally_at old k ≡ was k) → (k : TallyKey) → tally_at (insert old key new) k ≡ is k
  written own other before k =
      ap (λ (t : Option Tally). unwrap_or t (key_tally k)) (get-insert tally_total old key new k)
      ∙ at_written k (eq_by_cmp tally_cmp k key) refl own (other k) (before k)

-- the value that is there exactly where there is room
the_value : {A : Type 0} (o : Option A) (P : Type 0) (v : A) (Q : A → Type 0) → SomeIff o P v → IsSome o → IfSome o Q → Q v
the_value None P v Q iff there q = let f : false ≡ true = there in absurd (cc f)
the_value (Some x) P v Q iff there q = subst Q iff.1 q

-- a tally is changed, and kept
pub kept : (old next : FinMap tally_cmp Tally) (f : Tally → Tally) (place key : TallyKey) (at : Tally) (o : Option Tally) (P : Type 0) (was is : TallyKey → Tally)
    → place ≡ key → at ≡ tally_at old place → SomeIff o P (f at) → IsSome o → IfSome o (λ t. next ≡ insert old place t)
    → f (was key) ≡ is key → ((k : TallyKey) → eq_by_cmp tally_cmp k key ≡ false → was k ≡ is k) → ((k : TallyKey) → tally_at old k ≡ was k) → (k : TallyKey) → tally_at next k ≡ is k
kept old next f place key at o P was is here found iff there put own other before =
    let next_is : next ≡ insert old place (f at) = the_value o P (f at) (λ t. next ≡ insert old place t) iff there put in
    let value : f at ≡ is key = ap f (found ∙ ap (tally_at old) here ∙ before key) ∙ own in
    let moved : next ≡ insert old key (f at) = next_is ∙ ap (λ (k : TallyKey). insert old k (f at)) here in
    subst (λ (m : FinMap tally_cmp Tally). (k : TallyKey) → tally_at m k ≡ is k) (sym moved) (written old was is key (f at) value other before)

-- ---- items and memos, counted and discounted

pub item_counted : (items : List Item) (memos : List MemoFields) (i : Item) → with_item i (added_up (key_tally (item_tally_key i)) items memos) ≡ added_up (key_tally (item_tally_key i)) (i ∷ items) memos
item_counted items memos i = item_more (key_tally (item_tally_key i)) items memos i (own_key i)

pub item_discounted : (items : List Item) (memos : List MemoFields) (i : Item) → without_item i (added_up (key_tally (item_tally_key i)) (i ∷ items) memos) ≡ added_up (key_tally (item_tally_key i)) items memos
item_discounted items memos i = item_less (key_tally (item_tally_key i)) items memos i (own_key i)

pub item_elsewhere : (items : List Item) (memos : List MemoFields) (i : Item) (k : TallyKey) → eq_by_cmp tally_cmp k (item_tally_key i) ≡ false → added_up (key_tally k) items memos ≡ added_up (key_tally k) (i ∷ items) memos
item_elsewhere items memos i k apart = item_other (key_tally k) items memos i (not_own k i (is_item_under (key_tally k) i) refl apart)

pub memo_counted : (items : List Item) (memos : List MemoFields) (m : MemoFields) (key : TallyKey) → memo_tally_key m ≡ Some key → with_memo m (added_up (key_tally key) items memos) ≡ added_up (key_tally key) items (m ∷ memos)
memo_counted items memos m key has = memo_more (key_tally key) items memos m (own_memo_key m key has)

pub memo_discounted : (items : List Item) (memos : List MemoFields) (m : MemoFields) (key : TallyKey) → memo_tally_key m ≡ Some key → without_memo m (added_up (key_tally key) items (m ∷ memos)) ≡ added_up (key_tally key) items memos
memo_discounted items memos m key has = memo_less (key_tally key) items memos m (own_memo_key m key has)

pub memo_elsewhere : (items : List Item) (memos : List MemoFields) (m : MemoFields) (k key : TallyKey) → memo_tally_key m ≡ Some key → eq_by_cmp tally_cmp k key ≡ false → added_up (key_tally k) items memos ≡ added_up (key_tally k) items (m ∷ memos)
memo_elsewhere items memos m k key has apart = memo_other (key_tally k) items memos m (not_own_memo m k key (is_memo_under (key_tally k) m) has refl apart)

-- the order of the rows changes nothing
pub moved : (items others : List Item) (memos other_memos : List MemoFields) (tallies : FinMap tally_cmp Tally) → IsPermutation items others → IsPermutation memos other_memos → AreAddedUp items memos tallies → AreAddedUp others other_memos tallies
moved items others memos other_memos tallies same other_same are k =
    are k ∙ one_tally others other_memos (added_up (key_tally k) items memos) (key_tally k) (grown.tally_permuted items others memos other_memos (added_up (key_tally k) items memos) same other_same (is_tally items memos (key_tally k))) refl refl refl

pub both_ok : {A B P Q R : Type 0} (r : Result A B) → (P → Q → R) → OnOk r P → OnOk r Q → OnOk r R
both_ok (Ok x) f p q = f p q
both_ok (Err y) f p q = tt

pub on_ok : {A B P Q : Type 0} (r : Result A B) → (P → Q) → OnOk r P → OnOk r Q
on_ok (Ok x) f p = f p
on_ok (Err y) f p = tt
