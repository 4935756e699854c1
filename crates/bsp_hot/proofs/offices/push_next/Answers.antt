use Rattle.std.proofs.Common.{◌≡◌, ℕ, ◌+◌, ◌-◌, ◌<◌, true, List, ◌++◌, length, map, take, drop, get_or, refl, sym, ap, ◌∙◌, subst, arith, length-take}
use Rattle.std.specs.List.{All, list_all}
use Rattle.std.proofs.lemmas.List.{take-append-drop}
use Rattle.std.proofs.lemmas.List.Elements.{All-drop}
use Rattle.std.proofs.lemmas.Result.{err_from_is_err_and}
use Rattle.bsp_hot_check.specs.Records.{Record}
use Rattle.bsp_hot_check.specs.Sums.{add}
use Rattle.bsp_hot.specs.declared.offices.Offices.{Offices}
use Rattle.bsp_hot.specs.declared.rows.Row.{Row}
use Rattle.bsp_hot_check.specs.FileForm.{FileForm}
use Rattle.bsp_hot_check.specs.Hot.{office_records, items_sums}
use Rattle.bsp_hot.specs.Lines.{record_fits}
use Rattle.bsp_hot.specs.Output.{Adds, IsFaultOf}
use Rattle.bsp_hot.specs.Sorting.{entry_of, written_item, IsRow}
use Rattle.bsp_hot.specs.Runs.{IsRun}
use Rattle.bsp_hot.specs.OfficesSoFar.{heading_of, HaveRoom, HaveOffices}
use Rattle.bsp_hot.proofs.NextOffice.{office_over, office_more, office_fault, room_more}
use Rattle.bsp_hot.proofs.offices.push_next.Goals as goal

pub push_office-requires-clause-some : goal.push_office-requires-clause-some
push_office-requires-clause-some c =
    let rows = c.args.rows.now in
    let some = c.rows_of_agent.ensures.some c.index-rows-0.result c.requires.some refl in
    omega (arith, some, ap (length {A = Row}) c.split_at.ensures.front, length-take c.rows_of_agent.result rows, c.rows_of_agent.ensures.within)

pub returns-in_err-sums : goal.returns-in_err-sums
returns-in_err-sums c = λ form start all have.
    let rows = c.args.rows.now in
    let n = c.rows_of_agent.result in
    let some = c.rows_of_agent.ensures.some c.index-rows-0.result c.requires.some refl in
    let agent = (get_or rows 0 c.index-rows-0.result).agent in
    let split : rows ≡ take n rows ++ drop n rows = sym (take-append-drop n rows) in
    let counted : 0 < length (take n rows) = omega (arith, some, length-take n rows, c.rows_of_agent.ensures.within) in
    let Wide : FileForm → List Row → Type 0 = λ f front. IsFaultOf f (office_records (heading_of f c.args.file.now) (c.args.before.transactions + 1) (office_over f agent front)) c.in_err-sums.field-0.0 in
    let wide_front = subst (λ (front : List Row). Wide c.args.out.now.form front) c.split_at.ensures.front c.in_err-sums.ensures.adds in
    let wide = subst (λ (f : FileForm). Wide f (take n rows)) have.form_is wide_front in
    let p = err_from_is_err_and c.from_residual.result c.from_residual.ensures.1 in
    rw (p.1, p.2) (office_fault (heading_of form c.args.file.now) start c.args.out.now all rows (take n rows) (drop n rows) c.args.before agent c.in_err-sums.field-0.0 have split counted c.rows_of_agent.ensures.run wide)

pub returns : goal.returns
returns c = λ form start all have.
    let rows = c.args.rows.now in
    let before = c.args.before in
    let n = c.rows_of_agent.result in
    let some = c.rows_of_agent.ensures.some c.index-rows-0.result c.requires.some refl in
    let agent = (get_or rows 0 c.index-rows-0.result).agent in
    let office = c.split_at.result.0.now in
    let front : office ≡ take n rows = c.split_at.ensures.front in
    let split : rows ≡ office ++ drop n rows = rw front (sym (take-append-drop n rows)) in
    let counted : length office ≡ n = ap (length {A = Row}) front ∙ length-take n rows ∙ omega (arith, c.rows_of_agent.ensures.within) in
    let positive : 0 < length office = omega (arith, some, counted) in
    let run : IsRun agent (map entry_of office) (map entry_of (drop n rows)) = rw front c.rows_of_agent.ensures.run in
    let are : All IsRow (drop n rows) = All-drop IsRow n rows c.requires.room.rows in
    let records : FileForm → List Record = λ f. office_records (heading_of f c.args.file.now) (before.transactions + 1) (office_over f agent office) in
    let Written : FileForm → Type 0 = λ f. Adds c.args.out.now c.push_office.new.out (records f) in
    let Fit : FileForm → Type 0 = λ f. list_all (record_fits f) (records f) ≡ true in
    let Summed : FileForm → Type 0 = λ f. c.in_ok-sums.sums ≡ items_sums (map (written_item f) office) in
    let more = office_more (heading_of form c.args.file.now) start c.args.out.now c.push_office.new.out all rows office (drop n rows) before agent c.in_ok-sums.sums have split positive run
    (subst Written have.form_is c.in_ok-sums.ensures.adds.0) (subst Fit have.form_is c.in_ok-sums.ensures.adds.1) (subst Summed have.form_is c.in_ok-sums.ensures.sums) in
    let room = room_more rows office (drop n rows) before c.in_ok-sums.sums c.requires.room split positive c.in_ok-sums.ensures.small are in
    let gone : (before.transactions + length office) - before.transactions ≡ n = omega (arith, counted) in
    let next : Offices = record { count = before.count + 1; transactions = before.transactions + length office; sums = add before.sums c.in_ok-sums.sums } in
    let Have : ℕ → Type 0 = λ k. HaveOffices (heading_of form c.args.file.now) start all c.push_office.new.out (drop k rows) next in
    let Room : ℕ → Type 0 = λ k. HaveRoom next (drop k rows) in
    (rw c.plus.ensures (subst Have (sym gone) more), rw c.plus.ensures (subst Room (sym gone) room), omega (arith, positive))
