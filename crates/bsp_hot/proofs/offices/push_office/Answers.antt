use Rattle.std.proofs.Common.{◌≡◌, ◌+◌, true, List, [], ◌∷◌, ◌++◌, map, length, subst, ◌∙◌, arith}
use Rattle.std.specs.List.{list_all}
use Rattle.std.proofs.lemmas.List.{length-map}
use Rattle.std.proofs.lemmas.Result.{err_from_is_err_and}
use Rattle.bsp_hot.specs.declared.fault.HotFault.TheVariants.{TooWide}
use Rattle.bsp_hot_check.specs.Records.{Record, office_header}
use Rattle.bsp_hot_check.specs.Hot.{items_records, closing_records}
use Rattle.bsp_hot_check.specs.FileForm.{FileForm}
use Rattle.bsp_hot_check.specs.Hot.{Item}
use Rattle.bsp_hot.specs.declared.rows.Row.{Row}
use Rattle.bsp_hot.specs.Lines.{record_fits}
use Rattle.bsp_hot.specs.Output.{Adds, IsFaultOf}
use Rattle.bsp_hot.specs.Sorting.{written_item}
use Rattle.bsp_hot.proofs.OutputLemmas.{adds_then}
use Rattle.bsp_hot.proofs.FaultLemmas.{fault_before, fault_behind, both_fit}
use Rattle.bsp_hot.proofs.OfficesLemmas.{items_fit, items_wide}
use Rattle.bsp_hot.proofs.offices.push_office.Goals as goal

pub returns-then-rows-saturating_sub-clause-adds : goal.returns-then-rows-saturating_sub-clause-adds
returns-then-rows-saturating_sub-clause-adds c =
    let form = c.args.out.now.form in
    let item : Row → Item = written_item form in
    let items = map item c.args.rows.now in
    let count : length items ≡ length c.args.rows.now = length-map c.args.rows.now item in
    let agent = c.args.agent in
    let airline = c.args.file.now.airline in
    let wide = items_wide form airline agent (c.args.before + 1) items (omega (arith, count, c.requires.some)) (omega (arith, count, c.if-rows-saturating_sub.true, c.saturating_sub.ensures)) in
    fault_before form (items_records airline agent (c.args.before + 1) items) (closing_records agent items) TooWide wide

pub returns-in_err-push_closing-clause-adds : goal.returns-in_err-push_closing-clause-adds
returns-in_err-push_closing-clause-adds c =
    let p = err_from_is_err_and c.from_residual-in_err-push_closing.result c.from_residual-in_err-push_closing.ensures.1 in
    let fault = c.in_err-push_closing.field-0.0 in
    let form = c.args.out.now.form in
    let items = map (written_item form) c.args.rows.now in
    let agent = c.args.agent in
    let f = c.args.file.now in
    let Wide : FileForm → Type 0 = λ other. IsFaultOf other (closing_records agent items) fault in
    let same : c.push_documents.new.out.form ≡ form = c.in_ok-push_documents.ensures.form ∙ c.in_ok-push_office_header.ensures.form in
    let front : List Record = office_header agent f.period.code f.currency ∷ items_records f.airline agent (c.args.before + 1) items in
    rw (p.1, p.2) (fault_behind form front (closing_records agent items) fault (subst Wide same (c.in_err-push_closing.ensures items c.of-balance.ensures.value)))

pub returns-clause-adds : goal.returns-clause-adds
returns-clause-adds c =
    let old = c.args.out.now in
    let headed = c.push_office_header.new.self in
    let listed = c.push_documents.new.out in
    let new = c.push_closing.new.self in
    let form = c.args.out.now.form in
    let item : Row → Item = written_item form in
    let items = map item c.args.rows.now in
    let count : length items ≡ length c.args.rows.now = length-map c.args.rows.now item in
    let agent = c.args.agent in
    let f = c.args.file.now in
    let header : List Record = office_header agent f.period.code f.currency ∷ [] in
    let documents = items_records f.airline agent (c.args.before + 1) items in
    let closing = c.in_ok-push_closing.ensures items c.of-balance.ensures.value in
    let headed_as = c.in_ok-push_office_header.ensures.form in
    let Documents : FileForm → Type 0 = λ other. Adds headed listed (items_records f.airline agent (c.args.before + 1) (map (written_item other) c.args.rows.now)) in
    let written = subst Documents headed_as c.in_ok-push_documents.ensures in
    let Fit : FileForm → Type 0 = λ other. list_all (record_fits other) (closing_records agent items) ≡ true in
    let closing_fit = subst Fit (c.in_ok-push_documents.ensures.form ∙ headed_as) closing.1 in
    let few = items_fit form f.airline agent (c.args.before + 1) items (omega (arith, count, c.if-rows-saturating_sub.false, c.saturating_sub.ensures, c.requires.some)) in (
      adds_then old headed new header (documents ++ closing_records agent items) c.in_ok-push_office_header.ensures (adds_then headed listed new documents (closing_records agent items) written closing.0),
      both_fit form documents (closing_records agent items) few closing_fit,
    )
