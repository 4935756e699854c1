use Rattle.bsp_store_base.proofs.Std.{FinMap, from_entries, nat_cmp, refl, subst, take, take_all}
use Rattle.bsp_store_load.specs.AirlineEntry.{AirlineEntry}
use Rattle.bsp_store_base.proofs.Base.{form, HasContents, IsInside}
use Rattle.bsp_store_save.proofs.AirlineSteps.{with_airlines}
use Rattle.bsp_store_save.proofs.StepLemmas.{stops}
use Rattle.bsp_store_save.proofs.airlines.publish_from.Goals as goal

pub loop-at-init : goal.loop-at-init
loop-at-init g c = λ now last a b met stands inside.
    (subst (λ (m : FinMap nat_cmp AirlineEntry). HasContents form g.S.Store c.args.conn.now (record now { airlines = m }) last a b) met stands, inside)

pub loop-at-preserved : goal.loop-at-preserved
loop-at-preserved g c = λ now last a b met stands inside.
    let i = c.loop-at in
    let so_far = i.invariant now last a b met stands inside in
    c.in_ok-publish.ensures.ok (with_airlines (take i.at c.args.published.now) (from_entries c.args.tokens.now.entries) now) last a b refl so_far.0 so_far.1

pub returns : goal.returns
returns g c = record {
  ok = λ now last a b met stands inside.
      let i = c.loop-at in
      subst (λ l. HasContents form g.S.Store i.conn (with_airlines l (from_entries c.args.tokens.now.entries) now) last a b × IsInside form g.S.Store i.conn) (take_all i.at c.args.published.now c.loop-at-test.false) (i.invariant now last a b met stands inside);
  err = tt;
}

pub returns-in_err-publish : goal.returns-in_err-publish
returns-in_err-publish g c = stops _ c.from_residual.ensures.1 (λ now last a b met stands inside.
    let i = c.loop-at in
    let so_far = i.invariant now last a b met stands inside in
    c.in_err-publish.ensures.err (with_airlines (take i.at c.args.published.now) (from_entries c.args.tokens.now.entries) now) last a b refl so_far.0 so_far.1)
