use Rattle.std.proofs.Common.{rules}
use Rattle.std.proofs.lemmas.List.Sorted.{IsPartitionPoint-from_clause}
use Rattle.bsp_calendar.specs.Standing.{ends_before}
use Rattle.bsp_calendar.proofs.plan.target.first_not_over.Goals as goal

pub returns : goal.returns
returns c =
    let point = IsPartitionPoint-from_clause (ends_before c.args.day) _ _ c.partition_point.ensures.partitioned c.requires (λ a r q k. search rules) in
    (c.partition_point.ensures.bound, point)
