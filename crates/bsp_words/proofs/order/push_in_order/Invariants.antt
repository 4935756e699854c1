use Rattle.std.proofs.Common.{◌≡◌, ◌++◌, drop, map}
use Rattle.bsp_words.specs.Order.{in_order, marks_in}
use Rattle.bsp_words.proofs.order.push_in_order.Given as goal

abbrev pub invariant-loop-word : goal.invariant-loop-word
invariant-loop-word g l =
    l.initial.earlier.items ++ in_order (marks_in (map g.S.AsStr.text l.words)) l.fn.closed ≡ l.earlier.items ++ in_order (marks_in (map g.S.AsStr.text (drop l.word-index l.words))) (drop l.taken l.fn.closed)
