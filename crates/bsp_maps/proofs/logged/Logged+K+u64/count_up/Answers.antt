use Rattle.std.proofs.Common.{◌+◌, ◌++◌, ◌∷◌, ◌≡◌, ◌∙◌, [], ℕ, ap, List, Option, refl, Some, subst, sym}
use Rattle.std.specs.Prelude.{IsSome, unwrap_or}
use Rattle.std.specs.BTreeMap.{is_at}
use Rattle.std.specs.FinMap.{from_entries, insert}
use Rattle.std.proofs.lemmas.Map.Steps.{set_value_same}
use Rattle.bsp_maps.proofs.UndoLemmas.{found, written, put_back, undone_last}
use Rattle.bsp_maps.specs.Undo.{undone}
use Rattle.bsp_maps.proofs.logged.Logged+K+u64.count_up.Goals as goal

is_there : {X : Type 0} (o : Option X) (x : X) → Some x ≡ o → IsSome o
is_there o x is = subst IsSome is refl

pub returns-in_default-clause-none : goal.returns-in_default-clause-none
returns-in_default-clause-none g c = λ no. (
  ap (λ m. from_entries {R = g.K.Ord.cmp} m.entries) c.get_mut.follows.holds-at-none,
  found g.met.K.Ord.total c.args.self.now.map.entries c.args.key ∙ sym c.in_default.ensures.value,
)

-- nothing was written: the number that was read goes back
pub returns-then-old-clause-before : goal.returns-then-old-clause-before
returns-then-old-clause-before g c =
    let m = c.args.self.now.map in
    let count = c.in-Some.count.now in
    ap (λ es. undone c.reserve.new.self.items (from_entries {R = g.K.Ord.cmp} es)) ((c.get_mut.follows.holds count).0 ∙ set_value_same (is_at (g.K.Ord.cmp c.args.key)) m.entries count (sym c.in-Some.ensures.value))
    ∙ ap (λ olds. undone olds (from_entries {R = g.K.Ord.cmp} m.entries)) c.reserve.ensures.items

pub returns-clause-up : goal.returns-clause-up
returns-clause-up g c = λ yes.
    let m = c.args.self.now.map in
    let count = c.in-Some.count.now in
    let there = found g.met.K.Ord.total m.entries c.args.key ∙ sym c.in-Some.ensures.value in
    written g.met.K.Ord.total c.requires m (c.get_mut.follows.lender (count + 1)) c.args.key (count + 1) ((c.get_mut.follows.holds (count + 1)).3 (is_there _ count c.in-Some.ensures.value)).0
    ∙ ap (λ (n : ℕ). insert (from_entries {R = g.K.Ord.cmp} m.entries) c.args.key (n + 1)) (sym (ap (λ o. unwrap_or o 0) there))

pub returns-clause-before : goal.returns-clause-before
returns-clause-before g c =
    let b = c.args.self.now.map in
    let m = from_entries {R = g.K.Ord.cmp} b.entries in
    let count = c.in-Some.count.now in
    let there = found g.met.K.Ord.total b.entries c.args.key ∙ sym c.in-Some.ensures.value in
    ap (undone c.push_reserved.new.self.items) (written g.met.K.Ord.total c.requires b (c.get_mut.follows.lender (count + 1)) c.args.key (count + 1) ((c.get_mut.follows.holds (count + 1)).3 (is_there _ count c.in-Some.ensures.value)).0)
    ∙ ap (λ olds. undone olds (insert m c.args.key (count + 1))) (c.push_reserved.ensures.items ∙ ap (λ olds. olds ++ record { key = c.args.key; value = Some count } ∷ []) c.reserve.ensures.items)
    ∙ undone_last c.args.self.now.undo.items (record { key = c.args.key; value = Some count }) (insert m c.args.key (count + 1))
    ∙ ap (undone c.args.self.now.undo.items) (put_back g.met.K.Ord.total c.requires m c.args.key (count + 1) (Some count) there)
