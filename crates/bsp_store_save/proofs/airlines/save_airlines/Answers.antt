use Rattle.bsp_store_base.proofs.Std.{ap, BTreeMap, from_entries, List, nat_cmp, refl, ℕ}
use Rattle.bsp_maps.specs.Undo.{before, content}
use Rattle.bsp_store_load.specs.Plans.{plan_before}
use Rattle.bsp_store_save.proofs.AirlineSteps.{others_then, tokens_first}
use Rattle.bsp_store_save.proofs.StepLemmas.{stops}
use Rattle.bsp_store_save.proofs.airlines.save_airlines.Goals as goal

pub returns-in_err-save_tokens : goal.returns-in_err-save_tokens
returns-in_err-save_tokens g c = stops _ c.from_residual.ensures.1
    (tokens_first (plan_before c.args.plan.now c.args.saved.now).airlines _ c.airlines-published.result.now c.args.plan.now.airlines c.kept_count-kept.result
    (before nat_cmp c.args.tokens.now) (content nat_cmp c.args.tokens.now) (content nat_cmp c.args.tokens.now) c.kept_count-kept.ensures.kept refl c.airlines-published.ensures refl c.in_err-save_tokens.ensures).err

pub returns : goal.returns
returns g c =
    others_then (plan_before c.args.plan.now c.args.saved.now).airlines _ c.airlines-published.result.now c.args.plan.now.airlines c.kept_count-kept.result
    (before nat_cmp c.args.tokens.now) (content nat_cmp c.args.tokens.now) (from_entries c.map.result.now.entries) c.kept_count-kept.ensures.kept refl c.airlines-published.ensures (ap (λ (m : BTreeMap ℕ (List ℕ)). from_entries {R = nat_cmp} m.entries) c.map.ensures)
    c.publish_from.result c.in_ok-save_tokens.ensures c.publish_from.ensures
