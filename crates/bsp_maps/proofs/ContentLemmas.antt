-- The entries of a logged map are those of its content.
use Rattle.std.proofs.Common.{◌≡◌, sym, ap, ◌∙◌, Ordering}
use Rattle.std.specs.Cmp.{IsTotalOrder}
use Rattle.std.specs.BTreeMap.{BTreeMap}
use Rattle.std.specs.List.Sorted.{IsStrictlySortedBy}
use Rattle.std.specs.Map.{keys_of}
use Rattle.std.specs.FinMap.{entries, from_entries}
use Rattle.bsp_maps.specs.Undo.{content}
use Rattle.bsp_maps.specs.declared.logged.Logged.{Logged}
use Rattle.bsp_maps.proofs.OrderLemmas.{in_order}

pub of_content : {K V : Type 0} {R : K → K → Ordering} → IsTotalOrder R → (t : Logged K V) (m : BTreeMap K V) → m ≡ t.map → IsStrictlySortedBy R (keys_of m.entries) → m.entries ≡ entries (content R t)
of_content {K} {V} {R} o t m is up = sym (in_order o m.entries up) ∙ ap (λ (n : BTreeMap K V). entries (from_entries {R = R} n.entries)) is
