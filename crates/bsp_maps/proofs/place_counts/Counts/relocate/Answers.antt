use Rattle.std.proofs.Common.{sym, ap, subst, ◌∙◌}
use Rattle.std.specs.FinMap.{FinMap}
use Rattle.std.specs.Option.{option_cmp}
use Rattle.std.specs.Ordering.{is_eq}
use Rattle.std.proofs.Common.{ℕ, Some}
use Rattle.bsp_maps.specs.Counts.{IsRecounted, counted, with_one}
use Rattle.bsp_maps.proofs.PlaceCountLemmas.{recounted, uncounted}
use Rattle.bsp_maps.proofs.EntryLemmas.{then_ok, tied}
use Rattle.bsp_maps.proofs.place_counts.Counts.relocate.Goals as goal

pub returns-then-is_eq-clause-ok : goal.returns-then-is_eq-clause-ok
returns-then-is_eq-clause-ok g c has = uncounted g.P.Ord.cmp g.met.P.Ord.total c.requires c.args.from c.args.to (counted g.P.Ord.cmp c.args.self.now) (tied (option_cmp g.P.Ord.cmp c.args.from (Some c.args.to)) (ap is_eq (sym c.cmp.ensures) ∙ sym c.is_eq.ensures ∙ c.if-is_eq.true))

pub returns-clause-ok : goal.returns-clause-ok
returns-clause-ok g c =
    let RP = g.P.Ord.cmp in
    let old = counted RP c.args.self.now in
    then_ok c.add.result (λ e has. subst (λ (m : FinMap RP ℕ). IsRecounted RP c.args.from c.args.to old m) (sym (e ∙ ap (with_one c.args.to) c.in_ok-take.ensures.ok))
    (recounted RP g.met.P.Ord.total c.requires c.args.from c.args.to old has)) c.add.ensures.ok
