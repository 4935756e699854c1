use Rattle.std.proofs.Common.{◌≡◌, ◌∙◌, ap, get_or, subst, true}
use Rattle.std.proofs.lemmas.List.Sums.{AllPass-from_list_all}
use Rattle.toml.specs.View.{view}
use Rattle.bsp_plan_trial.specs.Texts.{IsValueOf}
use Rattle.bsp_plan_trial.proofs.TextLemmas.{items_all, items_more, items_none}
use Rattle.bsp_plan_trial.proofs.writing.values.Goals as goal

pub loop-entry-init : goal.loop-entry-init
loop-entry-init g c = λ within. items_none g.E.Entry.form c.new-values.result.items c.new-values.ensures.items

pub loop-entry-preserved : goal.loop-entry-preserved
loop-entry-preserved g c = λ within.
    let below = c.loop-entry-test.true in
    let passes : g.E.Entry.is_within (get_or c.args.entries.now c.loop-entry.entry-index c.entry-item.result) ≡ true =
    AllPass-from_list_all g.E.Entry.is_within c.args.entries.now within c.loop-entry.entry-index c.entry-item.result below in
    let own : g.E.Entry.is_within c.entry-item.result ≡ true = ap g.E.Entry.is_within c.entry-item.is ∙ passes in
    items_more g.E.Entry.form c.args.entries.now c.loop-entry.entry-index c.entry-item.result c.loop-entry.values.items c.push.new.self.items c.in_ok-value.value below
    (c.loop-entry.invariant within) c.in_ok-push.ensures.items
    (subst (λ (e : g.row.E.Denot). IsValueOf g.E.Entry.form 1 e (view c.in_ok-value.value)) c.entry-item.is (c.in_ok-value.ensures own))

pub returns : goal.returns
returns g c = λ within. items_all g.E.Entry.form c.args.entries.now c.loop-entry.entry-index _ c.loop-entry-test.false (c.loop-entry.invariant within)
