use Rattle.bsp_store_base.proofs.Std.{◌∙◌, both_ways, deref_pair, false≢true, rest_all, rest_more, sym}
use Rattle.bsp_store_base.specs.Seconds.{second_entry}
use Rattle.bsp_store_load.proofs.EntryLemmas.{all_left, ended, must_be, none_for, passed_over, taken}
use Rattle.bsp_store_load.proofs.seconds.are_seconds_of.Goals as goal

pub loop-key-init : goal.loop-key-init
loop-key-init c = rw (c.iter-rest.ensures.rest, c.into_iter-key-iterator.ensures.into_iter_gives.0) (all_left second_entry c.args.own.now.entries c.args.entries.now.entries)

pub loop-key-preserved-then-not-has_second : goal.loop-key-preserved-then-not-has_second
loop-key-preserved-then-not-has_second c =
    let more = rest_more deref_pair c.loop-key.key-iterator c.next.new.self c.next.result (c.in-Some.key, c.in-Some.value) c.in-Some.is c.next.ensures.steps in
    passed_over second_entry c.args.own.now.entries c.args.entries.now.entries c.loop-key.key-iterator c.next.new.self (c.in-Some.key.now, c.in-Some.value.now) more c.loop-key.rest c.loop-key.invariant
    (sym c.has_second.ensures ∙ c.if-not-has_second.true)

pub loop-key-preserved : goal.loop-key-preserved
loop-key-preserved c =
    let more = rest_more deref_pair c.loop-key.key-iterator c.next.new.self c.next.result (c.in-Some.key, c.in-Some.value) c.in-Some.is c.next.ensures.steps in
    let first = rest_more deref_pair c.loop-key.rest c.next-in-loop-key.new.self c.next-in-loop-key.result (c.in-Some-next.own_key, c.in-Some-next.own_value) c.in-Some-next.is c.next-in-loop-key.ensures.steps in
    taken second_entry c.args.own.now.entries c.args.entries.now.entries c.loop-key.key-iterator c.next.new.self (c.in-Some.key.now, c.in-Some.value.now) more c.loop-key.rest c.loop-key.invariant
    (c.in-Some-next.own_key.now, c.in-Some-next.own_value.now) c.next-in-loop-key.new.self first (c.is_second.ensures.0 c.if-not-is_second.false)

pub returns-in_default : goal.returns-in_default
returns-in_default c =
    let more = rest_more deref_pair c.loop-key.key-iterator c.next.new.self c.next.result (c.in-Some.key, c.in-Some.value) c.in-Some.is c.next.ensures.steps in
    let none = rest_all deref_pair c.loop-key.rest c.next-in-loop-key.new.self c.next-in-loop-key.result c.in_default.is c.next-in-loop-key.ensures.steps in (
      λ t. absurd (false≢true t),
      λ h. absurd (none_for second_entry c.args.own.now.entries c.args.entries.now.entries c.loop-key.key-iterator c.next.new.self (c.in-Some.key.now, c.in-Some.value.now) more c.loop-key.rest c.loop-key.invariant
          (sym c.has_second.ensures ∙ c.if-not-has_second.false) none h),
    )

pub returns-then-not-is_second : goal.returns-then-not-is_second
returns-then-not-is_second c =
    let more = rest_more deref_pair c.loop-key.key-iterator c.next.new.self c.next.result (c.in-Some.key, c.in-Some.value) c.in-Some.is c.next.ensures.steps in
    let first = rest_more deref_pair c.loop-key.rest c.next-in-loop-key.new.self c.next-in-loop-key.result (c.in-Some-next.own_key, c.in-Some-next.own_value) c.in-Some-next.is c.next-in-loop-key.ensures.steps in (
      λ t. absurd (false≢true t),
      λ h.
          let is = c.is_second.ensures.1 (must_be second_entry c.args.own.now.entries c.args.entries.now.entries c.loop-key.key-iterator c.next.new.self (c.in-Some.key.now, c.in-Some.value.now) more c.loop-key.rest c.loop-key.invariant
          (sym c.has_second.ensures ∙ c.if-not-has_second.false) (c.in-Some-next.own_key.now, c.in-Some-next.own_value.now) c.next-in-loop-key.new.self first h) in
          absurd (both_ways _ c.if-not-is_second.true is),
    )

pub returns : goal.returns
returns c =
    ended second_entry c.args.own.now.entries c.args.entries.now.entries deref_pair c.loop-key.key-iterator c.loop-key.rest c.next-2.new.self c.next-2.result c.is_none.result
    (rest_all deref_pair c.loop-key.key-iterator c.next.new.self c.next.result c.in-None.is c.next.ensures.steps) c.loop-key.invariant c.next-2.ensures.steps c.is_none.ensures
