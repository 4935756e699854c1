use Rattle.std.proofs.Common.{◌∙◌, sym}
use Rattle.bsp_rows.proofs.CountLemmas.{issued_counted}
use Rattle.bsp_memory_tables.specs.MemoTables.{memo_rows}
use Rattle.bsp_memory_rows.proofs.IssuedLemmas.{counted_parties}
use Rattle.bsp_memory_rows.specs.Tables.{rows_of}
use Rattle.bsp_memory_rows.proofs.tables.Tables.issued_count.Goals as goal

pub returns : goal.returns
returns c h =
    let agent = c.args.agent in
    let airline = c.args.airline in
    c.issued.ensures h.of_memos
    ∙ counted_parties agent airline (memo_rows c.args.self.now.memos)
    ∙ sym (issued_counted agent airline (rows_of c.args.self.now))
