-- The orders of the keys are total, and no two keys tie.
use Rattle.std.proofs.Common.{nat_cmp}
use Rattle.std.specs.Ordering.{bool_cmp, ordering_then}
use Rattle.std.specs.Cmp.{IsTotalOrder, nat_cmp_total, bool_cmp_total, on_total, then_total}
use Rattle.std.specs.FinMap.{IsAntisymmetric, nat_cmp-IsAntisymmetric}
use Rattle.bsp_maps.proofs.Orderings.{bool_exact, then_equal}
use Rattle.bsp_rows.specs.declared.keys.RangeKey.{RangeKey}
use Rattle.bsp_rows.specs.declared.keys.ItemKey.{ItemKey}
use Rattle.bsp_rows.specs.declared.keys.MemoKey.{MemoKey}
use Rattle.bsp_rows.specs.declared.keys.TallyKey.{TallyKey}
use Rattle.bsp_rows.specs.Rows.{range_cmp, item_cmp, memo_cmp}
use Rattle.bsp_rows.specs.Tallies.{tally_cmp}

pub range_total : IsTotalOrder range_cmp
range_total = then_total (on_total (λ (k : RangeKey). k.agent) nat_cmp_total) (on_total (λ (k : RangeKey). k.first) nat_cmp_total)

pub item_total : IsTotalOrder item_cmp
item_total = then_total (on_total (λ (k : ItemKey). k.agent) nat_cmp_total) (then_total (on_total (λ (k : ItemKey). k.number) nat_cmp_total) (on_total (λ (k : ItemKey). k.is_canx) bool_cmp_total))

pub range_exact : IsAntisymmetric range_cmp
range_exact x y e =
    let both = then_equal (nat_cmp x.agent y.agent) (nat_cmp x.first y.first) e in
    let a = nat_cmp-IsAntisymmetric x.agent y.agent both.0 in
    let f = nat_cmp-IsAntisymmetric x.first y.first both.1 in
    λ i. record { agent = a i; first = f i }

pub item_exact : IsAntisymmetric item_cmp
item_exact x y e =
    let both = then_equal (nat_cmp x.agent y.agent) (ordering_then (nat_cmp x.number y.number) (bool_cmp x.is_canx y.is_canx)) e in
    let rest = then_equal (nat_cmp x.number y.number) (bool_cmp x.is_canx y.is_canx) both.1 in
    let a = nat_cmp-IsAntisymmetric x.agent y.agent both.0 in
    let n = nat_cmp-IsAntisymmetric x.number y.number rest.0 in
    let c = bool_exact x.is_canx y.is_canx rest.1 in
    λ i. record { agent = a i; number = n i; is_canx = c i }

pub memo_exact : IsAntisymmetric memo_cmp
memo_exact x y e =
    let both = then_equal (nat_cmp x.airline y.airline) (nat_cmp x.document y.document) e in
    let a = nat_cmp-IsAntisymmetric x.airline y.airline both.0 in
    let d = nat_cmp-IsAntisymmetric x.document y.document both.1 in
    λ i. record { airline = a i; document = d i }

pub memo_total : IsTotalOrder memo_cmp
memo_total = then_total (on_total (λ (k : MemoKey). k.airline) nat_cmp_total) (on_total (λ (k : MemoKey). k.document) nat_cmp_total)

pub tally_total : IsTotalOrder tally_cmp
tally_total = then_total (on_total (λ (k : TallyKey). k.agent) nat_cmp_total) (then_total (on_total (λ (k : TallyKey). k.airline) nat_cmp_total) (on_total (λ (k : TallyKey). k.period) nat_cmp_total))

pub tally_exact : IsAntisymmetric tally_cmp
tally_exact x y e =
    let both = then_equal (nat_cmp x.agent y.agent) (ordering_then (nat_cmp x.airline y.airline) (nat_cmp x.period y.period)) e in
    let rest = then_equal (nat_cmp x.airline y.airline) (nat_cmp x.period y.period) both.1 in
    let a = nat_cmp-IsAntisymmetric x.agent y.agent both.0 in
    let c = nat_cmp-IsAntisymmetric x.airline y.airline rest.0 in
    let p = nat_cmp-IsAntisymmetric x.period y.period rest.1 in
    λ i. record { agent = a i; airline = c i; period = p i }
