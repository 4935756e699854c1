-- The order of the index's keys is total, and no two keys tie.
use Rattle.std.proofs.Common.{nat_cmp}
use Rattle.std.specs.Ordering.{bool_cmp, ordering_then}
use Rattle.std.specs.Cmp.{IsTotalOrder, nat_cmp_total, bool_cmp_total, on_total, then_total}
use Rattle.std.specs.Cmp.Lexicographic.{slice_cmp, nat_list_cmp_total}
use Rattle.std.specs.FinMap.{IsAntisymmetric, nat_cmp-IsAntisymmetric, slice_cmp-IsAntisymmetric}
use Rattle.bsp_maps.proofs.Orderings.{bool_exact, then_equal}
use Rattle.bsp_memory_tables.specs.declared.keys.NumberKey.{NumberKey}
use Rattle.bsp_memory_tables.specs.Numbers.{number_cmp}

pub number_total : IsTotalOrder number_cmp
number_total = then_total (on_total (λ (k : NumberKey). k.agent) nat_cmp_total) (then_total (on_total (λ (k : NumberKey). k.number) nat_list_cmp_total)
    (then_total (on_total (λ (k : NumberKey). k.item) nat_cmp_total) (on_total (λ (k : NumberKey). k.is_canx) bool_cmp_total)))

pub number_exact : IsAntisymmetric number_cmp
number_exact x y e =
    let one = then_equal (nat_cmp x.agent y.agent) (ordering_then (slice_cmp nat_cmp x.number y.number) (ordering_then (nat_cmp x.item y.item) (bool_cmp x.is_canx y.is_canx))) e in
    let two = then_equal (slice_cmp nat_cmp x.number y.number) (ordering_then (nat_cmp x.item y.item) (bool_cmp x.is_canx y.is_canx)) one.1 in
    let three = then_equal (nat_cmp x.item y.item) (bool_cmp x.is_canx y.is_canx) two.1 in
    let a = nat_cmp-IsAntisymmetric x.agent y.agent one.0 in
    let n = slice_cmp-IsAntisymmetric nat_cmp-IsAntisymmetric x.number y.number two.0 in
    let i = nat_cmp-IsAntisymmetric x.item y.item three.0 in
    let c = bool_exact x.is_canx y.is_canx three.1 in
    λ j. record { agent = a j; number = n j; item = i j; is_canx = c j }
