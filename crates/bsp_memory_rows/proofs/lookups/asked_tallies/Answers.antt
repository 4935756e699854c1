use Rattle.std.proofs.Common.{◌≡◌, ◌<◌, ◌+◌, ◌++◌, ◌∙◌, ℕ, Bool, true, false, cond, List, [], ◌∷◌, length, drop, get_or, map, ap, refl, sym, append_assoc, append-nil, add-one, drop-cons}
use Rattle.std.specs.List.{filter}
use Rattle.std.proofs.lemmas.List.{drop_all}
use Rattle.bsp_rows.specs.Tally.{Tally}
use Rattle.bsp_rows.specs.declared.keys.TallyKey.{TallyKey}
use Rattle.bsp_rows.specs.declared.questions.Tallies.{Tallies}
use Rattle.bsp_memory_rows.specs.Lookups.{asked_tallies, is_asked}
use Rattle.bsp_memory_rows.proofs.lookups.asked_tallies.Goals as goal
use Rattle.bsp_memory_rows.proofs.lookups.asked_tallies.Goals.{then-holds+in_ok-push, else-holds}

-- the tallies of the entries from a place on, by whether the entry there is asked for
by_test : (which : Tallies) (es : List (TallyKey × Tally)) (i : ℕ) (e : TallyKey × Tally) (b : Bool) → i < length es → e ≡ get_or es i e → is_asked which e.0 e.1 ≡ b
    → asked_tallies which (drop i es) ≡ map (λ x. x.1) (cond b (e ∷ filter (λ x. is_asked which x.0 x.1) (drop (i + 1) es)) (filter (λ x. is_asked which x.0 x.1) (drop (i + 1) es)))
by_test which es i e b lt is test =
    let front : drop i es ≡ e ∷ drop (i + 1) es = rw (add-one, drop-cons es i e lt, ← is) refl in
    let rest = filter (λ (x : TallyKey × Tally). is_asked which x.0 x.1) (drop (i + 1) es) in
    ap (asked_tallies which) front ∙ ap (λ (t : Bool). map (λ (x : TallyKey × Tally). x.1) (cond t (e ∷ rest) rest)) test

one_more : (which : Tallies) (es : List (TallyKey × Tally)) (i : ℕ) (e : TallyKey × Tally) (old new : List Tally) → i < length es → e ≡ get_or es i e → is_asked which e.0 e.1 ≡ true → new ≡ old ++ e.1 ∷ []
    → old ++ asked_tallies which (drop i es) ≡ asked_tallies which es → new ++ asked_tallies which (drop (i + 1) es) ≡ asked_tallies which es
one_more which es i e old new lt is test added before =
    let later = asked_tallies which (drop (i + 1) es) in
    ap (λ (ts : List Tally). ts ++ later) added ∙ append_assoc old (e.1 ∷ []) later
    ∙ ap (λ (ts : List Tally). old ++ ts) (sym (by_test which es i e true lt is test)) ∙ before

pub loop-key-init : goal.loop-key-init
loop-key-init c = rw c.new-found.ensures.items refl

pub loop-key-preserved : goal.loop-key-preserved
loop-key-preserved c =
    let which = c.args.which.now in
    let entries = c.args.entries.now in
    let index = c.loop-key.key-index in
    let entry = c.loop-key-item.result in
    let lt = c.loop-key-test.true in
    let is = c.loop-key-item.is in
    elim c.if-holds.branch [
      | then-holds+in_ok-push w ↦ rw w.found-is (one_more which entries index entry _ _ lt is (sym c.holds.ensures ∙ w.if-holds.true) w.in_ok-push.ensures.items c.loop-key.invariant)
      | else-holds w ↦ rw w.found-is (ap (λ (ts : List Tally). c.loop-key.found.items ++ ts) (sym (by_test which entries index entry false lt is (sym c.holds.ensures ∙ w.if-holds.false))) ∙ c.loop-key.invariant)
    ]

pub returns : goal.returns
returns c =
    let which = c.args.which.now in
    let found = c.loop-key.found.items in
    sym (append-nil found)
    ∙ ap (λ (es : List (TallyKey × Tally)). found ++ asked_tallies which es) (sym (drop_all c.loop-key.key-index c.args.entries.now c.loop-key-test.false))
    ∙ c.loop-key.invariant
