use Rattle.std.proofs.Common.{ap, subst}
use Rattle.toml.specs.Data.{Members}
use Rattle.toml.specs.View.{members_view, table_view}
use Rattle.bsp_plan_trial.specs.Texts.{PutsTerms}
use Rattle.bsp_plan_trial.proofs.TextLemmas.{document_is}
use Rattle.bsp_plan_trial.proofs.writing.document.Goals as goal

pub returns : goal.returns
returns c = λ sound has.
    let first = table_view c.put_terms.new.table in
    let terms = subst (λ (ms : Members). PutsTerms c.args.terms.now ms first) (ap members_view c.new-table.ensures.empty) c.in_ok-put_terms.ensures in
    document_is c.args.terms.now c.args.plan.now first (table_view c.put_lists.new.table) sound has terms (c.in_ok-put_lists.ensures sound)
