use Rattle.std.proofs.Common.{◌≡◌, Bool, true, false, ◌&&◌, refl, sym, ◌∙◌, not}
use Rattle.std.proofs.lemmas.Bool.{false≢true}
use Rattle.bsp_hot_explain.proofs.hot_reasons.named_reason.Goals as goal

other : (b r : Bool) → r ≡ not b → r ≡ true → b ≡ false
other true r is test = absurd (false≢true (sym is ∙ test))
other false r is test = refl

same : (b r : Bool) → r ≡ not b → r ≡ false → b ≡ true
same true r is test = refl
same false r is test = absurd (false≢true (sym test ∙ is))

and_false : (a b : Bool) → b ≡ false → (a && b) ≡ false
and_false true b is = is
and_false false b is = refl

pub returns-then-ne-clause-some : goal.returns-then-ne-clause-some
returns-then-ne-clause-some c =
    let differ = other _ c.ne.result (rw (c.as_slice.ensures, c.letters.ensures) at c.ne.ensures) c.if-ne.true in
    (differ, rw differ refl)

pub returns-in-Some-clause-some : goal.returns-in-Some-clause-some
returns-in-Some-clause-some c =
    ((c.in-Some.ensures.some.0, sym c.in-Some.ensures.first), and_false _ _ c.in-Some.ensures.some.1)

pub returns-in-None-clause-none : goal.returns-in-None-clause-none
returns-in-None-clause-none c =
    let letters = same _ c.ne.result (rw (c.as_slice.ensures, c.letters.ensures) at c.ne.ensures) c.if-ne.false in
    rw letters c.in-None.ensures.none
