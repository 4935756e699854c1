use Rattle.std.proofs.Common.{◌≡◌, ◌∙◌, ◌++◌, [], ◌∷◌, List, ℕ, length, refl, sym, ap, arith}
use Rattle.std.proofs.lemmas.List.{append-nil}
use Rattle.bsp_ret.specs.declared.notes.Place.{Place}
use Rattle.bsp_ret.specs.Notes.{groups_at}
use Rattle.bsp_ret.proofs.NoteLemmas.{with_place, with_nothing}
use Rattle.bsp_ret.proofs.notes.groups.Goals as goal
use Rattle.bsp_ret.proofs.notes.groups.Goals.{then-latest, else-latest}

-- no place is left
no_groups : (bytes : List ℕ) (places : List Place) → length places ≡ 0 → groups_at bytes places ≡ []
no_groups bytes [] none = refl
no_groups bytes (place ∷ places) none = absurd (omega (arith, none))

pub returns-clause-ok : goal.returns-clause-ok
returns-clause-ok c =
    let l = c.loop-place in
    let bytes = c.args.bytes.now in
    let all : groups_at bytes c.args.closed.now ≡ l.groups.items =
    l.invariant.done ∙ ap (λ xs. l.groups.items ++ xs) (no_groups bytes l.places.now c.in_default.ensures.cases) ∙ append-nil l.groups.items in
    elim c.if-latest.branch [
      | then-latest w ↦ rw (w.groups-is, w.push_reserved-then-latest.ensures.items, w.of-then-latest.ensures, with_place (groups_at bytes c.args.closed.now) bytes c.args.latest (length bytes) (omega arith) c.requires.latest w.if-latest.true, all) refl
      | else-latest w ↦ rw w.groups-is (sym (with_nothing (groups_at bytes c.args.closed.now) bytes c.args.latest w.if-latest.false ∙ all))
    ]
