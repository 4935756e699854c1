use Rattle.std.proofs.Common.{◌≡◌, ℕ, ap, arith, string_bytes, sym, ◌∙◌}
use Rattle.std.proofs.lemmas.Str.{IsUtf8-string_bytes}
use Rattle.std.specs.Global.{Vec}
use Rattle.toml.specs.View.{table_view}
use Rattle.bsp_calendar.specs.PlanDocument.{document_of}
use Rattle.bsp_calendar.proofs.DocumentLemmas.{document-some}
use Rattle.bsp_plan_trial.proofs.TextLemmas.{says_plan}
use Rattle.bsp_plan_trial.proofs.writing.plan_text.Goals as goal

pub returns-in-Ok : goal.returns-in-Ok
returns-in-Ok c =
    let has = sym c.terms.ensures ∙ c.in-Some.is in
    let document = c.in_ok-document.ensures c.meets_rules.ensures has in
    let bytes : c.into_bytes.result.items ≡ string_bytes c.in-Ok.text = ap (λ (v : Vec ℕ). v.items) c.into_bytes.ensures.value in
    let ms = table_view c.in_ok-document.document in
    let reads = document-some (string_bytes c.in-Ok.text) ms (IsUtf8-string_bytes c.in-Ok.text) (c.in-Ok.ensures.reads_back (omega (arith, document.flat))) in
    says_plan c.args.plan.now c.in-Some.terms ms c.into_bytes.result.items c.meets_rules.ensures has document (ap document_of bytes ∙ reads)
