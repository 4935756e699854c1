use Rattle.std.proofs.Common.{refl, sym, ◌∙◌}
use Rattle.std.specs.Prelude.{unwrap_or}
use Rattle.bsp_ret_records.specs.declared.codes.Profile.TheVariants.{P001}
use Rattle.bsp_ret_records.specs.Records.{profile_of}
use Rattle.bsp_ret.specs.declared.model.Record.TheVariants as said
use Rattle.bsp_ret.specs.Said.{record_in}
use Rattle.bsp_ret.specs.Table.{header_table, later_table}
use Rattle.bsp_ret.proofs.SaidLemmas.{row_ok, row_err, row_says, header_says}
use Rattle.bsp_ret.proofs.judge.judge_record.Goals as goal

pub returns-then-is_start-clause-row : goal.returns-then-is_start-clause-row
returns-then-is_start-clause-row c =
    let start = sym c.is_start.ensures ∙ c.if-is_start.true in
    row_ok c.args.at c.args.line.now (header_table c.args.line.now) (said.Header (unwrap_or (profile_of c.args.line.now) P001)) c.header_record.result c.requires.goes_on c.requires.wide (rw start refl) c.header_record.ensures

pub returns-then-is_start-clause-says : goal.returns-then-is_start-clause-says
returns-then-is_start-clause-says c =
    row_says c.args.line.now (header_table c.args.line.now) (said.Header (unwrap_or (profile_of c.args.line.now) P001)) c.header_record.result (header_says c.args.line.now) c.header_record.ensures

pub returns-then-is_start-clause-fault : goal.returns-then-is_start-clause-fault
returns-then-is_start-clause-fault c =
    let start = sym c.is_start.ensures ∙ c.if-is_start.true in
    row_err c.args.at c.args.line.now (header_table c.args.line.now) (said.Header (unwrap_or (profile_of c.args.line.now) P001)) c.header_record.result c.requires.goes_on c.requires.wide (rw start refl) c.header_record.ensures

pub returns-else-is_start-clause-row : goal.returns-else-is_start-clause-row
returns-else-is_start-clause-row c =
    let later = sym c.is_start.ensures ∙ c.if-is_start.false in
    row_ok c.args.at c.args.line.now (later_table c.args.at c.args.line.now) (record_in c.args.line.now) c.later_record.result c.requires.goes_on c.requires.wide (rw later refl) c.later_record.ensures

pub returns-else-is_start-clause-says : goal.returns-else-is_start-clause-says
returns-else-is_start-clause-says c =
    row_says c.args.line.now (later_table c.args.at c.args.line.now) (record_in c.args.line.now) c.later_record.result (λ passed. refl) c.later_record.ensures

pub returns-else-is_start-clause-fault : goal.returns-else-is_start-clause-fault
returns-else-is_start-clause-fault c =
    let later = sym c.is_start.ensures ∙ c.if-is_start.false in
    row_err c.args.at c.args.line.now (later_table c.args.at c.args.line.now) (record_in c.args.line.now) c.later_record.result c.requires.goes_on c.requires.wide (rw later refl) c.later_record.ensures
