-- The entry with the last key that is not after an airline and a day is that with the latest first day up to the day.
use Rattle.std.proofs.Common.{◌≡◌, ℕ, ◌<◌, ◌==◌, Bool, true, false, cond, List, [], get_or, refl, sym, ap, ◌∙◌, arith, inl, inr, subst}
use Rattle.std.specs.Prelude.{Option, Some, None, MatchOption, IsTrue}
use Rattle.std.specs.List.{All, AllPairs, Contains, filter}
use Rattle.std.specs.Ordering.{nat_cmp, eq_by_cmp, is_gt, is_lt}
use Rattle.std.specs.declared.cmp.Ordering.TheVariants.{Less, Equal, Greater}
use Rattle.std.proofs.lemmas.Bool.{and_parts, and_from, both_ways, eqb-true, eqb-false, eq-eqb, false_from_ne_true, cases_order}
use Rattle.std.proofs.lemmas.Bool.Decides.{nat_tests}
use Rattle.std.proofs.lemmas.List.Elements.{All-contains, Contains-get_or}
use Rattle.bsp_fields.specs.CivilDay.{CivilDay, is_day}
use Rattle.bsp_fields.specs.Days.{day_number}
use Rattle.bsp_fields.proofs.DayOrderLemmas.{civil_cmp, cases_days}
use Rattle.bsp_calendar.specs.DayOrder.{is_up_to}
use Rattle.std.specs.Cmp.{IsTotalOrder}
use Rattle.std.proofs.lemmas.Cmp.{nat_cmp_total, on_total, then_total, eq_by_cmp_equiv}
use Rattle.bsp_calendar.specs.KeyLaws.{rate_key_cmp, same_day_itself, alike_rates, rate_itself}
use Rattle.bsp_calendar.specs.Listed.{IsLastUpTo, same_key}
use Rattle.bsp_calendar.specs.Published.{applies, latest, number_or_zero, IsLatestRate}
use Rattle.bsp_calendar.specs.Requests.{same_rate, differ_in_rate}
use Rattle.bsp_calendar.specs.declared.entries.Rate.{Rate}
use Rattle.bsp_calendar.proofs.DayLemmas.{up_to_from, not_up_to_from, below_weaker, up_to_itself}
use Rattle.bsp_calendar.proofs.KeyLemmas.{rate_key, same_rates}
use Rattle.bsp_calendar.proofs.ListedLemmas.{agree_distinct}
use Rattle.bsp_calendar.proofs.ListLemmas.{contains_none, contains_filter, filter_contains, filter_holds, filter_none}
use Rattle.bsp_calendar.proofs.LatestLemmas.{BeginsLast, latest_is, latest_number}

nat_less : (x y : ℕ) → x < y → nat_cmp x y ≡ Less
nat_less x y h = grind (arith, nat_tests)

nat_equal : (x y : ℕ) → x ≡ y → nat_cmp x y ≡ Equal
nat_equal x y h = grind (arith, nat_tests)

nat_greater : (x y : ℕ) → y < x → nat_cmp x y ≡ Greater
nat_greater x y h = grind (arith, nat_tests)

civil_cmp_itself : (d : CivilDay) → civil_cmp d d ≡ Equal
civil_cmp_itself d = rw (nat_equal d.year d.year refl, nat_equal d.month d.month refl, nat_equal d.day d.day refl) refl

-- ---- days by their keys

module _ (d e : CivilDay) (hd : IsTrue (is_day d)) (he : IsTrue (is_day e)) where
  pub day_not_after : is_up_to d e ≡ true → is_gt (civil_cmp d e) ≡ false
  day_not_after up =
      elim (cases_days d e hd he) [
        | inl lt ↦ rw lt.0 refl
        | inr other ↦
            elim other [
              | inl gt ↦ absurd (both_ways _ (not_up_to_from (day_number d) (day_number e) gt.1) up)
              | inr one ↦ rw (one, civil_cmp_itself e) refl
            ]
      ]

  pub day_up_to : is_gt (civil_cmp d e) ≡ false → is_up_to d e ≡ true
  day_up_to after =
      elim (cases_days d e hd he) [
        | inl lt ↦ up_to_from (day_number d) (day_number e) (below_weaker _ _ lt.1)
        | inr other ↦
            elim other [
              | inl gt ↦ absurd (both_ways (is_gt (civil_cmp d e)) after (rw gt.0 refl))
              | inr one ↦ rw one (up_to_itself (day_number e))
            ]
      ]

  pub day_up_to_back : is_lt (civil_cmp d e) ≡ false → is_up_to e d ≡ true
  day_up_to_back before =
      elim (cases_days d e hd he) [
        | inl lt ↦ absurd (both_ways (is_lt (civil_cmp d e)) before (rw lt.0 refl))
        | inr other ↦
            elim other [
              | inl gt ↦ up_to_from (day_number e) (day_number d) (below_weaker _ _ gt.1)
              | inr one ↦ rw one (up_to_itself (day_number e))
            ]
      ]

  -- two days of the calendar with one number are one day
  pub one_day : is_up_to d e ≡ true → is_up_to e d ≡ true → d ≡ e
  one_day up back =
      elim (cases_days d e hd he) [
        | inl lt ↦ absurd (both_ways _ (not_up_to_from (day_number e) (day_number d) lt.1) back)
        | inr other ↦
            elim other [
              | inl gt ↦ absurd (both_ways _ (not_up_to_from (day_number d) (day_number e) gt.1) up)
              | inr one ↦ one
            ]
      ]

-- ---- days of one airline, by their keys

module _ (a b : ℕ) (d e : CivilDay) (hd : IsTrue (is_day d)) (he : IsTrue (is_day e)) (same : a ≡ b) where
  not_after : is_up_to d e ≡ true → is_gt (rate_key_cmp (a, d) (b, e)) ≡ false
  not_after up = rw (nat_equal a b same) (day_not_after d e hd he up)

  up_to_of : is_gt (rate_key_cmp (a, d) (b, e)) ≡ false → is_up_to d e ≡ true
  up_to_of after =
      let days : is_gt (civil_cmp d e) ≡ false = rw (nat_equal a b same) at after in
      day_up_to d e hd he days

  up_to_back : is_lt (rate_key_cmp (a, d) (b, e)) ≡ false → is_up_to e d ≡ true
  up_to_back before =
      let days : is_lt (civil_cmp d e) ≡ false = rw (nat_equal a b same) at before in
      day_up_to_back d e hd he days

-- of an airline before another every key is before the other's
before_key : (a b : ℕ) (d e : CivilDay) → a < b → is_lt (rate_key_cmp (a, d) (b, e)) ≡ true
before_key a b d e h = rw (nat_less a b h) refl

after_key : (a b : ℕ) (d e : CivilDay) → b < a → is_gt (rate_key_cmp (a, d) (b, e)) ≡ true
after_key a b d e h = rw (nat_greater a b h) refl

abbrev first_day : Rate → CivilDay
first_day r = r.from

abbrev hundredths : Rate → ℕ
hundredths r = r.hundredths

abbrev pub answer_of : ℕ → Option Rate → ℕ
answer_of airline None = 0
answer_of airline (Some r) = cond (r.airline == airline) r.hundredths 0

module _ (rates : List Rate) (airline : ℕ) (day : CivilDay) (civil : IsTrue (is_day day)) (all_civil : All (λ r. IsTrue (is_day r.from)) rates) where
  -- an entry that applies has a key that is not after the airline's on the day
  applying : (s : Rate) → Contains rates s → applies airline day s ≡ true → (s.airline ≡ airline) × (is_gt (rate_key_cmp (rate_key s) (airline, day)) ≡ false)
  applying s in' h =
      let both = and_parts (s.airline == airline) (is_up_to s.from day) h in
      let same = eqb-true s.airline airline both.0 in
      (same, not_after s.airline airline s.from day (All-contains (λ r. IsTrue (is_day r.from)) rates s all_civil in') civil same both.1)

  none_applies : ((s : Rate) → Contains rates s → applies airline day s ≡ true → ⊥) → number_or_zero hundredths (latest first_day (filter (applies airline day) rates)) ≡ 0
  none_applies none =
      rw (filter_none (applies airline day) rates (λ k d l. false_from_ne_true _ (none (get_or rates k d) (Contains-get_or rates k d l)))) refl

  begins_last : (r : Rate) → Contains rates r → r.airline ≡ airline → is_gt (rate_key_cmp (rate_key r) (airline, day)) ≡ false → All (λ s. is_gt (rate_key_cmp (rate_key s) (airline, day)) ≡ false → is_lt (rate_key_cmp (rate_key r) (rate_key s)) ≡ false) rates → BeginsLast first_day (filter (applies airline day) rates) r
  begins_last r in' same after last =
      let days = All-contains (λ s. IsTrue (is_day s.from)) rates r all_civil in' in
      let up = up_to_of r.airline airline r.from day days civil same after in
      record {
        among = contains_filter (applies airline day) rates r in' (and_from (r.airline == airline) _ (eq-eqb r.airline airline same) up);
        last = λ s ins.
            let inr' = filter_contains (applies airline day) rates s ins in
            let h = applying s inr' (filter_holds (applies airline day) rates s ins) in
            let not_before = All-contains (λ t. is_gt (rate_key_cmp (rate_key t) (airline, day)) ≡ false → is_lt (rate_key_cmp (rate_key r) (rate_key t)) ≡ false) rates s last inr' h.1 in
            up_to_back r.airline s.airline r.from s.from days (All-contains (λ t. IsTrue (is_day t.from)) rates s all_civil inr') (same ∙ sym h.0) not_before;
      }

  -- two entries of the airline that begin last are one entry
  one_last : ((x y : Rate) → Contains rates x → Contains rates y → same_rate x y ≡ true → x ≡ y) → (r s : Rate) → BeginsLast first_day (filter (applies airline day) rates) r → BeginsLast first_day (filter (applies airline day) rates) s → r ≡ s
  one_last agree r s hr hs =
      let inr' = filter_contains (applies airline day) rates r hr.among in
      let ins = filter_contains (applies airline day) rates s hs.among in
      let ar = (applying r inr' (filter_holds (applies airline day) rates r hr.among)).0 in
      let as' = (applying s ins (filter_holds (applies airline day) rates s hs.among)).0 in
      let day_of = λ (t : Rate) (h : Contains rates t). All-contains (λ u. IsTrue (is_day u.from)) rates t all_civil h in
      let from : r.from ≡ s.from = one_day r.from s.from (day_of r inr') (day_of s ins) (hs.last r hr.among) (hr.last s hs.among) in
      agree r s inr' ins (and_from (r.airline == s.airline) _ (eq-eqb _ _ (ar ∙ sym as')) (rw from (same_day_itself s.from)))

  latest_one : ((x y : Rate) → Contains rates x → Contains rates y → same_rate x y ≡ true → x ≡ y) → (r : Rate) → BeginsLast first_day (filter (applies airline day) rates) r → (l : Option Rate) → MatchOption l (filter (applies airline day) rates ≡ []) (BeginsLast first_day (filter (applies airline day) rates)) → number_or_zero hundredths l ≡ r.hundredths
  latest_one agree r h None none = contains_none r (rw none at h.among)
  latest_one agree r h (Some s) hs = ap (λ (t : Rate). t.hundredths) (one_last agree s r hs h)

  found_by : ((x y : Rate) → Contains rates x → Contains rates y → same_rate x y ≡ true → x ≡ y) → (r : Rate) → IsLastUpTo rate_key_cmp rate_key rates (airline, day) (Some r) → (b : Bool) → (r.airline == airline) ≡ b → number_or_zero hundredths (latest first_day (filter (applies airline day) rates)) ≡ cond b r.hundredths 0
  found_by agree r (in', after, last) true is =
      latest_one agree r (begins_last r in' (eqb-true r.airline airline is) after last) (latest first_day (filter (applies airline day) rates)) (latest_is first_day (filter (applies airline day) rates))
  found_by agree r (in', after, last) false is =
      none_applies
      (λ s ins h.
      let at = applying s ins h in
      elim (cases_order r.airline airline) [
        | inl same ↦ eqb-false r.airline airline is same
        | inr other ↦
            elim other [
              | inl lt ↦ both_ways (is_lt (rate_key_cmp (rate_key r) (rate_key s))) (All-contains (λ t. is_gt (rate_key_cmp (rate_key t) (airline, day)) ≡ false → is_lt (rate_key_cmp (rate_key r) (rate_key t)) ≡ false) rates s last ins at.1) (before_key r.airline s.airline r.from s.from (rw at.0 lt))
              | inr gt ↦ both_ways _ after (after_key r.airline airline r.from day gt)
            ]
      ])

  pub rate_found : ((x y : Rate) → Contains rates x → Contains rates y → same_rate x y ≡ true → x ≡ y) → (found : Option Rate) → IsLastUpTo rate_key_cmp rate_key rates (airline, day) found → number_or_zero hundredths (latest first_day (filter (applies airline day) rates)) ≡ answer_of airline found
  rate_found agree None none =
      none_applies (λ s ins h. both_ways _ (applying s ins h).1 (All-contains (λ t. is_gt (rate_key_cmp (rate_key t) (airline, day)) ≡ true) rates s none ins))
  rate_found agree (Some r) found = found_by agree r found (r.airline == airline) refl

pub day_total : IsTotalOrder civil_cmp
day_total =
    then_total (on_total (λ (d : CivilDay). d.year) nat_cmp_total)
    (then_total (on_total (λ (d : CivilDay). d.month) nat_cmp_total) (on_total (λ (d : CivilDay). d.day) nat_cmp_total))

pub rate_key_total : IsTotalOrder rate_key_cmp
rate_key_total = then_total (on_total (λ (k : ℕ × CivilDay). k.0) nat_cmp_total) (on_total (λ (k : ℕ × CivilDay). k.1) day_total)

agree_rates : (rates : List Rate) → AllPairs (λ x y. same_key (eq_by_cmp rate_key_cmp) rate_key x y ≡ false) rates → (x y : Rate) → Contains rates x → Contains rates y → same_rate x y ≡ true → x ≡ y
agree_rates rates apart x y hx hy s =
    agree_distinct (eq_by_cmp rate_key_cmp) (eq_by_cmp_equiv rate_key_total) rate_key differ_in_rate alike_rates rate_itself rates apart x y hx hy (ap (λ (t : Rate → Rate → Bool). t x y) same_rates ∙ s)

-- the rate by what the look-up found, in the two forms of its contract
pub rate_answered : (rates : List Rate) (airline : ℕ) (day : CivilDay) (key : ℕ × CivilDay) (found : Option Rate) (value : ℕ) → IsTrue (is_day day) → All (λ r. IsTrue (is_day r.from)) rates → AllPairs (λ x y. same_key (eq_by_cmp rate_key_cmp) rate_key x y ≡ false) rates → key ≡ (airline, day) → IsLastUpTo rate_key_cmp rate_key rates key found → value ≡ answer_of airline found → (value ≡ number_or_zero hundredths (latest first_day (filter (applies airline day) rates))) × IsLatestRate rates airline day value
rate_answered rates airline day key found value civil all_civil apart is last answered =
    let here : IsLastUpTo rate_key_cmp rate_key rates (airline, day) found = subst (λ (k : ℕ × CivilDay). IsLastUpTo rate_key_cmp rate_key rates k found) is last in
    let v = answered ∙ sym (rate_found rates airline day civil all_civil (agree_rates rates apart) found here) in
    (v, subst (λ (x : ℕ). IsLatestRate rates airline day x) (sym v) (latest_number first_day hundredths (applies airline day) rates))
