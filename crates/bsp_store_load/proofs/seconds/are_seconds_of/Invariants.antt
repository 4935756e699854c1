use Rattle.bsp_store_base.specs.Seconds.{second_entry}
use Rattle.bsp_store_load.proofs.EntryLemmas.{AreLeft}
use Rattle.bsp_store_load.proofs.seconds.are_seconds_of.Given as goal

abbrev pub invariant-loop-key : goal.invariant-loop-key
invariant-loop-key l = AreLeft second_entry l.own.entries l.entries.entries l.rest l.key-iterator
