-- Where tallies are the sums of rows, their postings add up to what the rows' postings add up to.
use Rattle.std.proofs.Common.{◌≡◌, ℕ, zero, suc, ◌+◌, ◌<◌, ◌==◌, refl, ap, subst, ◌∙◌, sym, inl, inr, Bool, true, false, ◌&&◌, ◌||◌, List, [], ◌∷◌, map, length, get_or, arith, cond}
use Rattle.std.specs.Prelude.{ℤ, pos, ◌+ℤ◌, ◌-ℤ◌, nat_lt}
use Rattle.std.specs.List.{filter, sum_by, Contains}
use Rattle.std.proofs.lemmas.Bool.{cases_Bool, cond_both, eqb-true, eq-eqb, and_parts, and_from, or_left, or_right, or_cases, lt-ltb, ltb-true, true≢false}
use Rattle.std.proofs.lemmas.List.Sums.{sum_by-cons}
use Rattle.std.proofs.lemmas.List.Elements.{All-contains}
use Rattle.bsp_rules.specs.declared.rows.Item.{Item}
use Rattle.bsp_statement.specs.declared.tally.Tally.{Tally}
use Rattle.bsp_memos.specs.declared.fields.MemoFields.{MemoFields}
use Rattle.bsp_statement.specs.declared.posting.Posting.{Posting}
use Rattle.bsp_statement.specs.Postings.{postings}
use Rattle.bsp_statement.specs.Sums.{figures_of}
use Rattle.bsp_statement.specs.Tallies.{is_used, tally_posting, tally_postings, is_under, under, IsTallyOf, same_key, AreTallies}
use Rattle.bsp_statement.proofs.ListLemmas.{contains_more, kept, keeps, filter_none}
use Rattle.bsp_statement.proofs.RunningLemmas.{figures_same}
use Rattle.bsp_statement.proofs.SumLemmas.{sums, sums-cons, sums_agree, sums-filter, sums-map, sums_nothing, sums_over, sums_agree_on, single}

masked : {R : Type 0} (f : R → ℤ) (b : Bool) (rows : List R) → sums (λ r. cond b (f r) (pos 0)) rows ≡ cond b (sums f rows) (pos 0)
masked f true rows = refl
masked f false rows = sums_nothing rows

documents_as_int : (rows : List Posting) → pos (sum_by (λ p. p.documents) rows) ≡ sums (λ p. pos p.documents) rows
documents_as_int [] = refl
documents_as_int (p ∷ rows) =
    ap (λ (n : ℕ). pos n) (sum_by-cons (λ (q : Posting). q.documents) p rows)
    ∙ ap (λ (n : ℤ). pos p.documents +ℤ n) (documents_as_int rows)
    ∙ sym (sums-cons (λ (q : Posting). pos q.documents) p rows)

-- ---- filters

some_passes : {X : Type 0} (test : X → Bool) (xs : List X) → 0 < length (filter test xs) → (x : X) × Contains xs x × (test x ≡ true)
some_passes test [] more = absurd (omega (arith, more))
some_passes {X} test (x ∷ xs) more = elim (cases_Bool (test x)) [
  | inl passes ↦ (x, (0, omega arith, refl), passes)
  | inr fails ↦
      let found = some_passes test xs (subst (λ (b : Bool). 0 < length (cond b (x ∷ filter test xs) (filter test xs))) fails more) in
      (found.0, contains_more x found.0 xs found.1, found.2)
]

length_passing : {X : Type 0} (test : X → Bool) (xs : List X) (x : X) → Contains xs x → test x ≡ true → 0 < length (filter test xs)
length_passing test [] x (k, below, is) passes = absurd (omega (arith, below))
length_passing test (y ∷ xs) x (zero, below, is) passes =
    subst (λ (b : Bool). 0 < length (cond b (y ∷ filter test xs) (filter test xs))) (sym (ap test is ∙ passes)) (omega arith)
length_passing test (y ∷ xs) x (suc k, below, is) passes =
    let rest = length_passing test xs x (k, omega (arith, below), is) passes in
    cond_both (test y) (y ∷ filter test xs) (filter test xs) (λ ys. 0 < length ys) (λ first. omega arith) (λ other. rest)

some_used : (a b : ℕ) → 0 < a + b → (nat_lt 0 a || nat_lt 0 b) ≡ true
some_used zero b more = or_right (nat_lt 0 0) (nat_lt 0 b) (lt-ltb 0 b (omega (arith, more)))
some_used (suc a) b more = or_left (nat_lt 0 (suc a)) (nat_lt 0 b) (lt-ltb 0 (suc a) (omega arith))

used_some : (a b : ℕ) → (nat_lt 0 a || nat_lt 0 b) ≡ true → 0 < a + b
used_some a b is = elim (or_cases (nat_lt 0 a) (nat_lt 0 b) is) [
  | inl first ↦ let more = ltb-true 0 a first in omega arith
  | inr second ↦ let more = ltb-true 0 b second in omega arith
]

-- ---- tallies of rows

module _ (items : List Item) (memos : List MemoFields) (tallies : List Tally) (are : AreTallies items memos tallies) (period : ℕ) where
  abbrev rows : List Posting
  rows = postings period items memos

  abbrev from_tallies : List Posting
  from_tallies = tally_postings period tallies

  in_period : (t : Tally) → is_used period t ≡ true → under items memos t ≡ filter (is_under t) rows
  in_period t used =
      let at : t.period ≡ period = eqb-true t.period period ((and_parts (t.period == period) (nat_lt 0 t.living || nat_lt 0 t.memo_count) used).0) in
      ap (λ (q : ℕ). filter (is_under t) (postings q items memos)) at

  tally_is : (t : Tally) → Contains tallies t → IsTallyOf items memos t
  tally_is t has = All-contains (IsTallyOf items memos) tallies t are.each has

  used_at : (t : Tally) (p : Posting) → Contains tallies t → t.period ≡ period → Contains rows p → is_under t p ≡ true → is_used period t ≡ true
  used_at t p has at row below =
      let more : 0 < length (filter (is_under t) rows) = length_passing (is_under t) rows p row below in
      let same : length (under items memos t) ≡ length (filter (is_under t) rows) = ap (λ (q : ℕ). length (filter (is_under t) (postings q items memos))) at in
      let count = (tally_is t has).count in
      and_from (t.period == period) (nat_lt 0 t.living || nat_lt 0 t.memo_count) (eq-eqb t.period period at) (some_used t.living t.memo_count (omega arith))

  one_key : (s t : Tally) (p : Posting) → (is_used period s && is_under s p) ≡ true → (is_used period t && is_under t p) ≡ true → same_key s t ≡ true
  one_key s t p first second =
      let s' = and_parts (is_used period s) (is_under s p) first in
      let t' = and_parts (is_used period t) (is_under t p) second in
      let s_key = and_parts (p.agent == s.agent) (p.airline == s.airline) s'.1 in
      let t_key = and_parts (p.agent == t.agent) (p.airline == t.airline) t'.1 in
      let agents : s.agent ≡ t.agent = sym (eqb-true p.agent s.agent s_key.0) ∙ eqb-true p.agent t.agent t_key.0 in
      let airlines : s.airline ≡ t.airline = sym (eqb-true p.airline s.airline s_key.1) ∙ eqb-true p.airline t.airline t_key.1 in
      let s_at : s.period ≡ period = eqb-true s.period period ((and_parts (s.period == period) (nat_lt 0 s.living || nat_lt 0 s.memo_count) s'.0).0) in
      let t_at : t.period ≡ period = eqb-true t.period period ((and_parts (t.period == period) (nat_lt 0 t.living || nat_lt 0 t.memo_count) t'.0).0) in
      and_from (s.agent == t.agent) ((s.airline == t.airline) && (s.period == t.period)) (eq-eqb s.agent t.agent agents)
      (and_from (s.airline == t.airline) (s.period == t.period) (eq-eqb s.airline t.airline airlines) (eq-eqb s.period t.period (s_at ∙ sym t_at)))

  once_at : (p : Posting) → Contains rows p → (v : ℤ) → sums (λ t. cond (is_used period t && is_under t p) v (pos 0)) tallies ≡ v
  once_at p row v =
      let found = are.whole period p row in
      single (λ t. is_used period t && is_under t p) v tallies
      (λ i j d less below first second. true≢false (sym (one_key (get_or tallies i d) (get_or tallies j d) p first second) ∙ are.once i j d less below))
      found.0 found.1 (and_from (is_used period found.0) (is_under found.0 p) (used_at found.0 p found.1 found.2 row found.3) found.3)

  -- a test of agent and airline
  module _ (own : Posting → Bool) (agrees : (t : Tally) (p : Posting) → is_under t p ≡ true → own p ≡ own (tally_posting t)) where
    module _ (f : Posting → ℤ) (f_is : (t : Tally) → IsTallyOf items memos t → f (tally_posting t) ≡ sums f (under items memos t)) where
      agree_at : (t : Tally) (p : Posting) → cond (is_under t p) (cond (own p) (f p) (pos 0)) (pos 0) ≡ cond (own (tally_posting t)) (cond (is_under t p) (f p) (pos 0)) (pos 0)
      agree_at t p = by_under (is_under t p) (agrees t p) where
        by_own : (b : Bool) → pos 0 ≡ cond b (pos 0) (pos 0)
        by_own true = refl
        by_own false = refl

        by_under : (b : Bool) → (b ≡ true → own p ≡ own (tally_posting t)) → cond b (cond (own p) (f p) (pos 0)) (pos 0) ≡ cond (own (tally_posting t)) (cond b (f p) (pos 0)) (pos 0)
        by_under true same = ap (λ (o : Bool). cond o (f p) (pos 0)) (same refl)
        by_under false same = by_own (own (tally_posting t))

      at_used : (t : Tally) → IsTallyOf items memos t → is_used period t ≡ true → cond (own (tally_posting t)) (f (tally_posting t)) (pos 0) ≡ sums (λ p. cond (own p) (f p) (pos 0)) (filter (is_under t) rows)
      at_used t is used =
          ap (λ (n : ℤ). cond (own (tally_posting t)) n (pos 0)) (f_is t is ∙ ap (λ (ps : List Posting). sums f ps) (in_period t used) ∙ sums-filter f (is_under t) rows)
          ∙ sym (masked (λ p. cond (is_under t p) (f p) (pos 0)) (own (tally_posting t)) rows)
          ∙ sym (sums_agree _ _ (agree_at t) rows)
          ∙ sym (sums-filter (λ p. cond (own p) (f p) (pos 0)) (is_under t) rows)

      at_tally : (t : Tally) (used : Bool) → (used ≡ true → cond (own (tally_posting t)) (f (tally_posting t)) (pos 0) ≡ sums (λ p. cond (own p) (f p) (pos 0)) (filter (is_under t) rows)) → cond used (cond (own (tally_posting t)) (f (tally_posting t)) (pos 0)) (pos 0) ≡ sums (λ p. cond (own p) (f p) (pos 0)) (filter (λ p. used && is_under t p) rows)
      at_tally t true is = is refl
      at_tally t false is = ap (λ (ps : List Posting). sums (λ p. cond (own p) (f p) (pos 0)) ps) (sym (filter_none rows))

      pub by_tallies : sums f (filter own from_tallies) ≡ sums f (filter own rows)
      by_tallies =
          sums-filter f own from_tallies
          ∙ sums-map (λ p. cond (own p) (f p) (pos 0)) tally_posting (filter (is_used period) tallies)
          ∙ sums-filter (λ t. cond (own (tally_posting t)) (f (tally_posting t)) (pos 0)) (is_used period) tallies
          ∙ sums_agree_on (λ t. cond (is_used period t) (cond (own (tally_posting t)) (f (tally_posting t)) (pos 0)) (pos 0)) (λ t. sums (λ p. cond (own p) (f p) (pos 0)) (filter (λ p. is_used period t && is_under t p) rows)) tallies
          (λ k d below. at_tally (get_or tallies k d) (is_used period (get_or tallies k d)) (at_used (get_or tallies k d) (are.each k d below)))
          ∙ sums_over (λ p. cond (own p) (f p) (pos 0)) (λ t p. is_used period t && is_under t p) tallies rows once_at
          ∙ sym (sums-filter f own rows)

    pub own_figures : figures_of (filter own from_tallies) ≡ figures_of (filter own rows)
    own_figures =
        let count : pos (sum_by (λ p. p.documents) (filter own from_tallies)) ≡ pos (sum_by (λ p. p.documents) (filter own rows)) =
        documents_as_int (filter own from_tallies)
        ∙ by_tallies (λ p. pos p.documents) (λ t is. ap (λ (n : ℕ). pos n) is.living ∙ documents_as_int (under items memos t))
        ∙ sym (documents_as_int (filter own rows)) in
        let cash = by_tallies (λ p. p.cash) (λ t is. is.cash) in
        let commission = by_tallies (λ p. p.commission) (λ t is. is.commission) in
        let tax = by_tallies (λ p. p.tax) (λ t is. is.tax) in
        let memos_sum = by_tallies (λ p. p.memos) (λ t is. is.memos) in
        figures_same _ _ (cc) cash (by_tallies (λ p. p.credit) (λ t is. is.credit)) commission tax memos_sum
        (ap (λ (x : ℤ). ((x -ℤ sums (λ p. p.commission) (filter own from_tallies)) -ℤ sums (λ p. p.tax) (filter own from_tallies)) +ℤ sums (λ p. p.memos) (filter own from_tallies)) cash
        ∙ ap (λ (x : ℤ). ((sums (λ p. p.cash) (filter own rows) -ℤ x) -ℤ sums (λ p. p.tax) (filter own from_tallies)) +ℤ sums (λ p. p.memos) (filter own from_tallies)) commission
        ∙ ap (λ (x : ℤ). ((sums (λ p. p.cash) (filter own rows) -ℤ sums (λ p. p.commission) (filter own rows)) -ℤ x) +ℤ sums (λ p. p.memos) (filter own from_tallies)) tax
        ∙ ap (λ (x : ℤ). ((sums (λ p. p.cash) (filter own rows) -ℤ sums (λ p. p.commission) (filter own rows)) -ℤ sums (λ p. p.tax) (filter own rows)) +ℤ x) memos_sum)

    module _ (code_of : Posting → ℕ) (same_code : (t : Tally) (p : Posting) → is_under t p ≡ true → code_of p ≡ code_of (tally_posting t)) (code : ℕ) where
      pub to_rows : Contains (map code_of (filter own from_tallies)) code → Contains (map code_of (filter own rows)) code
      to_rows has =
          let q = kept code_of own from_tallies code has in
          let t = kept tally_posting (is_used period) tallies q.0 q.1 in
          let more : 0 < length (under items memos t.0) =
          rw (← (tally_is t.0 t.1).count) (used_some t.0.living t.0.memo_count ((and_parts (t.0.period == period) (nat_lt 0 t.0.living || nat_lt 0 t.0.memo_count) t.2).1)) in
          let p = some_passes (is_under t.0) rows (subst (λ (ps : List Posting). 0 < length ps) (in_period t.0 t.2) more) in
          let owned : own p.0 ≡ true = agrees t.0 p.0 p.2 ∙ ap own t.3 ∙ q.2 in
          let named : code_of p.0 ≡ code = same_code t.0 p.0 p.2 ∙ ap code_of t.3 ∙ q.3 in
          subst (λ (c : ℕ). Contains (map code_of (filter own rows)) c) named (keeps code_of own rows p.0 p.1 owned)

      pub to_tallies : Contains (map code_of (filter own rows)) code → Contains (map code_of (filter own from_tallies)) code
      to_tallies has =
          let p = kept code_of own rows code has in
          let t = are.whole period p.0 p.1 in
          let used = used_at t.0 p.0 t.1 t.2 p.1 t.3 in
          let owned : own (tally_posting t.0) ≡ true = sym (agrees t.0 p.0 t.3) ∙ p.2 in
          let named : code_of (tally_posting t.0) ≡ code = sym (same_code t.0 p.0 t.3) ∙ p.3 in
          subst (λ (c : ℕ). Contains (map code_of (filter own from_tallies)) c) named (keeps code_of own from_tallies (tally_posting t.0) (keeps tally_posting (is_used period) tallies t.0 t.1 used) owned)
