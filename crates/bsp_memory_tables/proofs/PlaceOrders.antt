-- The orders of places are exact, and keys have a least one.
use Rattle.std.proofs.Common.{◌≡◌, ℕ, ◌==◌, ◌&&◌, true, not, is_some, refl, ap, Ordering, Less, Equal, Greater, nat_cmp, Option, Some, None}
use Rattle.std.specs.Ordering.{is_eq, ordering_then}
use Rattle.std.specs.FinMap.{IsAntisymmetric, nat_cmp-IsAntisymmetric}
use Rattle.bsp_rows.specs.Item.{Item}
use Rattle.bsp_rows.specs.MemoFields.{MemoFields}
use Rattle.bsp_maps.specs.Indexes.{AreExact, IsLeast, is_place}
use Rattle.bsp_rows.specs.declared.keys.ItemKey.{ItemKey}
use Rattle.bsp_rows.specs.declared.keys.MemoKey.{MemoKey}
use Rattle.bsp_rows.specs.declared.keys.TallyKey.{TallyKey}
use Rattle.bsp_rows.specs.Tallies.{tally_cmp}
use Rattle.bsp_rows.specs.Tally.{Tally}
use Rattle.bsp_rows.specs.Rows.{is_of_airline, is_unbilled, item_cmp, memo_cmp, range_cmp}
use Rattle.bsp_maps.proofs.Orderings.{then_equal}
use Rattle.bsp_rows.proofs.KeyOrders.{item_exact, memo_exact, range_exact, tally_exact}
use Rattle.bsp_memory_tables.specs.Places.{airline_cmp, at_airline, item_place, one_cmp, parties_cmp, tally_airline_place, tally_period_place, agent_place, unbilled_at, unbilled_place}
use Rattle.bsp_memory_tables.specs.Windows.{and_first, and_second, false_first, first_item, first_memo, first_range, first_tally, from_least, least, ties}
use Rattle.bsp_memory_tables.specs.declared.places.AirlinePeriod.{AirlinePeriod}

airline_exact : IsAntisymmetric airline_cmp
airline_exact x y e =
    let both = then_equal (nat_cmp x.airline y.airline) (nat_cmp x.period y.period) e in
    let a = nat_cmp-IsAntisymmetric x.airline y.airline both.0 in
    let p = nat_cmp-IsAntisymmetric x.period y.period both.1 in
    λ i. record { airline = a i; period = p i }

pub parties_exact : IsAntisymmetric parties_cmp
parties_exact x y e =
    let both = then_equal (nat_cmp x.airline y.airline) (nat_cmp x.agent y.agent) e in
    let a = nat_cmp-IsAntisymmetric x.airline y.airline both.0 in
    let g = nat_cmp-IsAntisymmetric x.agent y.agent both.1 in
    λ i. record { airline = a i; agent = g i }

one_exact : IsAntisymmetric one_cmp
one_exact x y e = refl

pub memos_by_agent : AreExact nat_cmp memo_cmp
memos_by_agent = record { places = nat_cmp-IsAntisymmetric; keys = memo_exact }

pub unbilled_memos : AreExact one_cmp memo_cmp
unbilled_memos = record { places = one_exact; keys = memo_exact }

pub ranges_by_last : AreExact nat_cmp range_cmp
ranges_by_last = record { places = nat_cmp-IsAntisymmetric; keys = range_exact }

pub items_by_airline : AreExact airline_cmp item_cmp
items_by_airline = record { places = airline_exact; keys = item_exact }

pub tallies_by_airline : AreExact airline_cmp tally_cmp
tallies_by_airline = record { places = airline_exact; keys = tally_exact }

pub tallies_by_period : AreExact nat_cmp tally_cmp
tallies_by_period = record { places = nat_cmp-IsAntisymmetric; keys = tally_exact }

-- ---- the least keys

pub least_tally_key : IsLeast tally_cmp (first_tally 0)
least_tally_key k = from_least k.agent _ (from_least k.airline _ (least k.period))

pub least_memo_key : IsLeast memo_cmp (first_memo 0)
least_memo_key k = from_least k.airline _ (least k.document)

pub least_range_key : IsLeast range_cmp (first_range 0)
least_range_key k = from_least k.agent _ (least k.first)

pub least_item_key : IsLeast item_cmp (first_item 0)
least_item_key k = from_least k.agent _ (from_least k.number _ (false_first k.is_canx))

-- ---- rows at a place

pub at_agent : (agent : ℕ) (k : MemoKey) (m : MemoFields) → (m.agent == agent) ≡ true → is_place nat_cmp (agent_place k m) agent ≡ true
at_agent agent k m is = ap is_eq (ties agent m.agent is)

due : (billed : Option ℕ) → not (is_some billed) ≡ true → is_place one_cmp (unbilled_at billed) tt ≡ true
due None is = refl
due (Some period) is = absurd (cc)

pub at_unbilled : (k : MemoKey) (m : MemoFields) → is_unbilled m ≡ true → is_place one_cmp (unbilled_place k m) tt ≡ true
at_unbilled k m is = due m.billed is

both_equal : (a b : Ordering) → a ≡ Equal → b ≡ Equal → is_eq (ordering_then a b) ≡ true
both_equal Less b p q = absurd (cc)
both_equal Equal b p q = ap is_eq q
both_equal Greater b p q = absurd (cc)

pub at_airline_place : (place : AirlinePeriod) (k : ItemKey) (i : Item) → is_of_airline place.airline place.period i ≡ true → is_place airline_cmp (item_place k i) place ≡ true
at_airline_place place k i is =
    both_equal (nat_cmp place.airline i.transaction.document.airline) (nat_cmp place.period i.period)
    (ties place.airline i.transaction.document.airline (and_first (i.transaction.document.airline == place.airline) (i.period == place.period) is))
    (ties place.period i.period (and_second (i.transaction.document.airline == place.airline) (i.period == place.period) is))

pub at_tally_airline : (airline period : ℕ) (k : TallyKey) (t : Tally) → ((k.airline == airline) && (k.period == period)) ≡ true → is_place airline_cmp (tally_airline_place k t) (at_airline airline period) ≡ true
at_tally_airline airline period k t is =
    both_equal (nat_cmp airline k.airline) (nat_cmp period k.period)
    (ties airline k.airline (and_first (k.airline == airline) (k.period == period) is))
    (ties period k.period (and_second (k.airline == airline) (k.period == period) is))

pub at_tally_period : (period : ℕ) (k : TallyKey) (t : Tally) → (k.period == period) ≡ true → is_place nat_cmp (tally_period_place k t) period ≡ true
at_tally_period period k t is = ap is_eq (ties period k.period is)
