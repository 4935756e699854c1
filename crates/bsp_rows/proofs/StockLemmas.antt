-- What keeps the items and the ranges sound beside a change of the plan, the agents or the ranges.
use Rattle.std.proofs.Common.{◌≡◌, ℕ, ◌≤◌, ◌==◌, nat_le, Bool, true, false, ◌&&◌, ◌⊎◌, cond, List, Option, Some, None, is_some, IsSome, refl, sym, ap, subst, ◌∙◌, inl, inr, arith}
use Rattle.std.specs.FinMap.{FinMap, empty, get, insert, remove, entries, get-empty, get-insert, get-remove}
use Rattle.std.specs.Ordering.{nat_cmp, eq_by_cmp}
use Rattle.std.specs.Cmp.{nat_cmp_total}
use Rattle.std.proofs.lemmas.Bool.{and_from, le-leb, eq-eqb, both_ways}
use Rattle.bsp_calendar.specs.Published.{Published}
use Rattle.bsp_calendar.proofs.ListedLemmas.{any_false}
use Rattle.bsp_fields.specs.CivilDay.{CivilDay}
use Rattle.bsp_rules.specs.declared.rows.Item.{Item}
use Rattle.bsp_rules.specs.declared.rows.Range.{Range}
use Rattle.bsp_rules.specs.Rows.{contains}
use Rattle.bsp_rows.specs.declared.keys.RangeKey.{RangeKey}
use Rattle.bsp_rows.specs.declared.keys.ItemKey.{ItemKey}
use Rattle.bsp_rows.specs.Rows.{Rows, range_cmp, item_cmp, range_key, range_of, meets, has_meeting, is_used_in}
use Rattle.bsp_rows.proofs.KeyOrders.{item_total, item_exact, range_total, range_exact}
use Rattle.bsp_rows.specs.Sound.{HasNumber, AreApart, AreSoundRanges, IsInStock, IsInTime, AreSoundItems}
use Rattle.bsp_rows.proofs.MapLemmas.{get_entry, get_written, get_other, same_key, same_Some}
use Rattle.bsp_calendar.specs.SoundPlan.{Grows}
use Rattle.bsp_rules.proofs.TaxLemmas.{up_to_later}
use Rattle.bsp_rows.proofs.MemoLemmas.{limit_grows}
use Rattle.bsp_rows.proofs.TaxTies.{taxed_grows}

time_grows : (p m : Published) (issued : CivilDay) (code : ℕ) → Grows p m → IsInTime p issued code → IsInTime m issued code
time_grows p m issued code g h = record { day = up_to_later issued p.day m.day h.day g.day; period = h.period; there = g.periods code h.period h.there; end = h.end }

-- a change beside the items
pub items_beside : (p m : Published) (agents more : FinMap nat_cmp (List ℕ)) (ranges others : FinMap range_cmp ℕ) (items : FinMap item_cmp Item) → AreSoundItems p agents ranges items → Grows p m → ((a : ℕ) → IsSome (get agents a) → IsSome (get more a)) → ((k : ItemKey) (i : Item) → get items k ≡ Some i → IsInStock ranges k.agent k.number → IsInStock others k.agent k.number) → AreSoundItems m more others items
items_beside p m agents more ranges others items s g known stock = record {
  each = λ k i h. let o = s.each k i h in record {
    right = o.right;
    registered = known k.agent o.registered;
    in_stock = stock k i h o.in_stock;
    in_time = time_grows p m i.transaction.issued i.period g o.in_time;
    tied = o.tied;
    taxed = taxed_grows p m items k i g o.in_time.day o.taxed;
  };
  related_once = s.related_once;
  related_lives = s.related_lives;
  documents = λ agent airline period. limit_grows p m g _ (s.documents agent airline period);
}

-- ---- a token

known_by : (agents : FinMap nat_cmp (List ℕ)) (agent : ℕ) (token : List ℕ) (a : ℕ) → IsSome (get agents a) → (b : Bool) → eq_by_cmp nat_cmp a agent ≡ b → IsSome (get (insert agents agent token) a)
known_by agents agent token a h true same = ap is_some (get-insert nat_cmp_total agents agent token a ∙ ap (λ b. cond b (Some token) (get agents a)) same)
known_by agents agent token a h false same = ap is_some (get-insert nat_cmp_total agents agent token a ∙ ap (λ b. cond b (Some token) (get agents a)) same) ∙ h

pub known_still : (agents : FinMap nat_cmp (List ℕ)) (agent : ℕ) (token : List ℕ) (a : ℕ) → IsSome (get agents a) → IsSome (get (insert agents agent token) a)
known_still agents agent token a h = known_by agents agent token a h (eq_by_cmp nat_cmp a agent) refl

pub ranges_known : (agents more : FinMap nat_cmp (List ℕ)) (ranges : FinMap range_cmp ℕ) → AreSoundRanges agents ranges → ((a : ℕ) → IsSome (get agents a) → IsSome (get more a)) → AreSoundRanges more ranges
ranges_known agents more ranges s known = record { registered = λ k last h. known k.agent (s.registered k last h); apart = s.apart }

-- ---- no ranges

pub none_apart : AreApart empty
none_apart = record { numbers = λ k last h. absurd (cc (sym h ∙ get-empty range_cmp k)); once = λ k l number hk hl. absurd (cc (sym hk.there ∙ get-empty range_cmp k)) }

-- ---- a range more

module _ (rows : Rows) (agent : ℕ) (range : Range) (s : AreApart rows.ranges) (numbers : range.first ≤ range.last) (apart : has_meeting range rows ≡ false) where
  abbrev own : RangeKey
  own = range_key agent range

  abbrev grown : FinMap range_cmp ℕ
  grown = insert rows.ranges own range.last

  -- no old range has a number of it
  no_number : (k : RangeKey) (number : ℕ) → HasNumber rows.ranges k number → range.first ≤ number → number ≤ range.last → ⊥
  no_number k number h from to =
      let first = h.from in
      let last = h.to in
      both_ways _ (any_false (λ e. meets range (range_of e)) (entries rows.ranges) (k, h.last) apart (get_entry range_total range_exact rows.ranges k h.last h.there))
      (and_from (nat_le range.first h.last) (nat_le k.first range.last) (le-leb range.first h.last (omega (arith, from, last))) (le-leb k.first range.last (omega (arith, first, to))))

  free_by : (found : Option ℕ) → get rows.ranges own ≡ found → get rows.ranges own ≡ None
  free_by None is = is
  free_by (Some last) is =
      let some = s.numbers own last is in
      absurd (no_number own range.first (record { last = last; there = is; from = omega arith; to = some }) (omega arith) numbers)

  is_free : get rows.ranges own ≡ None
  is_free = free_by (get rows.ranges own) refl

  other_key : (k : RangeKey) (last : ℕ) → get rows.ranges k ≡ Some last → (b : Bool) → eq_by_cmp range_cmp k own ≡ b → eq_by_cmp range_cmp k own ≡ false
  other_key k last h true same = absurd (cc (sym h ∙ (ap (get rows.ranges) (same_key range_exact k own same) ∙ is_free)))
  other_key k last h false same = same

  stays : (k : RangeKey) (last : ℕ) → get rows.ranges k ≡ Some last → get grown k ≡ Some last
  stays k last h = get_other range_total range_exact rows.ranges own k range.last (other_key k last h (eq_by_cmp range_cmp k own) refl) ∙ h

  pub has_still : (k : RangeKey) (number : ℕ) → HasNumber rows.ranges k number → HasNumber grown k number
  has_still k number h = record { last = h.last; there = stays k h.last h.there; from = h.from; to = h.to }

  found_by : (k : RangeKey) (last : ℕ) → get grown k ≡ Some last → (b : Bool) → eq_by_cmp range_cmp k own ≡ b → ((k ≡ own) × (last ≡ range.last)) ⊎ (get rows.ranges k ≡ Some last)
  found_by k last h true same =
      let is : k ≡ own = same_key range_exact k own same in
      inl (is, same_Some last range.last (sym h ∙ (ap (get grown) is ∙ get_written range_total range_exact rows.ranges own range.last)))
  found_by k last h false same = inr (sym (get_other range_total range_exact rows.ranges own k range.last same) ∙ h)

  found : (k : RangeKey) (last : ℕ) → get grown k ≡ Some last → ((k ≡ own) × (last ≡ range.last)) ⊎ (get rows.ranges k ≡ Some last)
  found k last h = found_by k last h (eq_by_cmp range_cmp k own) refl

  had : (k : RangeKey) (number : ℕ) → HasNumber grown k number → ((k ≡ own) × (range.first ≤ number) × (number ≤ range.last)) ⊎ HasNumber rows.ranges k number
  had k number h = elim (found k h.last h.there) [
    | inl is ↦ (
        let first : k.first ≡ range.first = ap (λ (x : RangeKey). x.first) is.0 in
        let from = h.from in
        let to = h.to in
        let last = is.1 in
        inl (is.0, omega (arith, first, from), omega (arith, last, to)))
    | inr old ↦ inr (record { last = h.last; there = old; from = h.from; to = h.to })
  ]

  pub apart_added : AreApart grown
  apart_added = record {
    numbers = λ k last h. elim (found k last h) [
      | inl is ↦ (let first : k.first ≡ range.first = ap (λ (x : RangeKey). x.first) is.0 in let end = is.1 in omega (arith, first, end, numbers))
      | inr old ↦ s.numbers k last old
    ];
    once = λ k l number hk hl. elim (had k number hk) [
      | inl is ↦ elim (had l number hl) [
        | inl other ↦ is.0 ∙ sym other.0
        | inr old ↦ absurd (no_number l number old is.1 is.2)
      ]
      | inr old ↦ elim (had l number hl) [
        | inl is ↦ absurd (no_number k number old is.1 is.2)
        | inr other ↦ s.once k l number old other
      ]
    ];
  }

  pub ranges_added : (agents : FinMap nat_cmp (List ℕ)) → AreSoundRanges agents rows.ranges → IsSome (get agents agent) → AreSoundRanges agents grown
  ranges_added agents sound known = record {
    registered = λ k last h. elim (found k last h) [
      | inl is ↦ subst (λ (a : ℕ). IsSome (get agents a)) (sym (ap (λ (x : RangeKey). x.agent) is.0)) known
      | inr old ↦ sound.registered k last old
    ];
    apart = apart_added;
  }

-- ---- a range less

module _ (ranges : FinMap range_cmp ℕ) (gone : RangeKey) where
  abbrev fewer : FinMap range_cmp ℕ
  fewer = remove ranges gone

  was_by : (k : RangeKey) (last : ℕ) → get fewer k ≡ Some last → (b : Bool) → eq_by_cmp range_cmp k gone ≡ b → get ranges k ≡ Some last
  was_by k last h true same = absurd (cc (sym h ∙ (get-remove range_total ranges gone k ∙ ap (λ b. cond b None (get ranges k)) same)))
  was_by k last h false same = sym (get-remove range_total ranges gone k ∙ ap (λ b. cond b None (get ranges k)) same) ∙ h

  was : (k : RangeKey) (last : ℕ) → get fewer k ≡ Some last → get ranges k ≡ Some last
  was k last h = was_by k last h (eq_by_cmp range_cmp k gone) refl

  had_before : (k : RangeKey) (number : ℕ) → HasNumber fewer k number → HasNumber ranges k number
  had_before k number h = record { last = h.last; there = was k h.last h.there; from = h.from; to = h.to }

  pub apart_withdrawn : AreApart ranges → AreApart fewer
  apart_withdrawn s = record {
    numbers = λ k last h. s.numbers k last (was k last h);
    once = λ k l number hk hl. s.once k l number (had_before k number hk) (had_before l number hl);
  }

  pub ranges_withdrawn : (agents : FinMap nat_cmp (List ℕ)) → AreSoundRanges agents ranges → AreSoundRanges agents fewer
  ranges_withdrawn agents s = record { registered = λ k last h. s.registered k last (was k last h); apart = apart_withdrawn s.apart }

module _ (rows : Rows) (agent : ℕ) (range : Range) (there : get rows.ranges (range_key agent range) ≡ Some range.last) (unused : is_used_in agent range rows ≡ false) where
  abbrev out : RangeKey
  out = range_key agent range

  abbrev left : FinMap range_cmp ℕ
  left = remove rows.ranges out

  still_by : (k : ItemKey) (i : Item) → get rows.items k ≡ Some i → (h : IsInStock rows.ranges k.agent k.number) → (b : Bool) → eq_by_cmp range_cmp h.key out ≡ b → IsInStock left k.agent k.number
  still_by k i at h true same =
      let is : h.key ≡ out = same_key range_exact h.key out same in
      let last : h.has.last ≡ range.last = same_Some h.has.last range.last (sym h.has.there ∙ (ap (get rows.ranges) is ∙ there)) in
      let first : h.key.first ≡ range.first = ap (λ (x : RangeKey). x.first) is in
      let own : k.agent ≡ agent = sym h.own ∙ ap (λ (x : RangeKey). x.agent) is in
      let from = h.has.from in
      let to = h.has.to in
      absurd (both_ways _ (any_false (λ e. (e.0.agent == agent) && contains e.0.number range) (entries rows.items) (k, i) unused (get_entry item_total item_exact rows.items k i at))
      (and_from (k.agent == agent) (contains k.number range) (eq-eqb k.agent agent own) (and_from (nat_le range.first k.number) (nat_le k.number range.last) (le-leb range.first k.number (omega (arith, first, from))) (le-leb k.number range.last (omega (arith, last, to))))))
  still_by k i at h false same = record {
    key = h.key;
    own = h.own;
    has = record { last = h.has.last; there = get-remove range_total rows.ranges out h.key ∙ (ap (λ b. cond b None (get rows.ranges h.key)) same ∙ h.has.there); from = h.has.from; to = h.has.to };
  }

  pub in_stock_still : (k : ItemKey) (i : Item) → get rows.items k ≡ Some i → IsInStock rows.ranges k.agent k.number → IsInStock left k.agent k.number
  in_stock_still k i at h = still_by k i at h (eq_by_cmp range_cmp h.key out) refl
