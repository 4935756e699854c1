use Rattle.std.proofs.Common.{◌≡◌, ◌++◌, take}
use Rattle.std.specs.Ordering.{eq_by_cmp}
use Rattle.std.specs.BTreeMap.{get}
use Rattle.bsp_calendar.specs.Requests.{once}
use Rattle.bsp_calendar.specs.Listed.{IsListed, same_key}
use Rattle.bsp_calendar.proofs.ListedLemmas.{Agree}
use Rattle.bsp_calendar.proofs.listed.add_all.Given as goal

abbrev pub invariant-loop-entry : goal.invariant-loop-entry
invariant-loop-entry g l =
    record {
      indexed : IsListed (eq_by_cmp g.K.Ord.cmp) g.E.Entry.key_of g.E.Entry.valid l.list.items (get g.K.Ord.cmp l.index);
      joined : l.list.items ≡ once (same_key (eq_by_cmp g.K.Ord.cmp) g.E.Entry.key_of) (l.initial.list.items ++ take l.entry-index l.more);
      agreed : Agree (same_key (eq_by_cmp g.K.Ord.cmp) g.E.Entry.key_of) (l.initial.list.items ++ take l.entry-index l.more);
    }
