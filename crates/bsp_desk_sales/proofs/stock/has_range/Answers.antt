use Rattle.std.proofs.Common.{ap, ◌∙◌, rules}
use Rattle.std.specs.List.{list_any}
use Rattle.bsp_desk_sales.specs.Replies.{is_same_range}
use Rattle.bsp_desk_sales.proofs.RangeLemmas.{has_listed}
use Rattle.bsp_desk_sales.proofs.stock.has_range.Goals as goal

pub returns : goal.returns
returns g c =
    let listed = c.in_ok-ranges.ensures in
    record {
      found = λ t now last h. c.is_among.ensures ∙ (ap (list_any (is_same_range c.args.range)) (c.deref.ensures.value ∙ listed.found t now last h) ∙ has_listed now c.args.agent c.args.range);
      ok = listed.ok;
      fault = search rules;
    }
