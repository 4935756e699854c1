use Rattle.bsp_store_base.proofs.Std.{◌∙◌, ◌≡◌, both_ways, false, IsTrue, None, rules, sym}
use Rattle.bsp_book.specs.Listed.{Holds as ListHolds}
use Rattle.bsp_book.specs.declared.list.ListBook.{ListBook}
use Rattle.bsp_rows.specs.Rows.{Rows}
use Rattle.bsp_store_save.specs.MemoryRowsTables.{rows_of}
use Rattle.bsp_store_open.specs.Opening.{IsOrdered, IsRead}
use Rattle.bsp_store_open.proofs.OpeningLemmas.{if_err}
use Rattle.bsp_store.specs.Auditing.{HasNone, IsFound}
use Rattle.bsp_store_open.proofs.VersionLemmas.{old_not_ours}
use Rattle.bsp_store.proofs.AuditingLemmas.{answered_err, answered_ok, found_rows}
use Rattle.bsp_store.proofs.audit.found.Goals as goal

pub returns-clause-ok : goal.returns-clause-ok
returns-clause-ok g c =
    let now = c.kept_list-read.new.conn in
    answered_ok (λ list x. (rows : Rows) → ListHolds list rows None → g.X.Finding.is_of rows x) c.kept_list-read.result c.found_in.result c.found_in.ensures
    (λ (list : ListBook). IsOrdered g.S.Store c.args.conn.now → IsRead g.S.Store c.args.conn.now now list (rows_of list.tables)) c.kept_list-read.ensures.read
    (λ x. IsOrdered g.S.Store c.args.conn.now → IsFound g.X.Finding.is_of g.S.Store c.args.conn.now now x) (λ list x read is order. found_rows g.S.Store g.X.Finding.is_of c.args.conn.now now list _ x (read order) is)

pub returns-clause-refused : goal.returns-clause-refused
returns-clause-refused g c =
    let yes : IsTrue c.is_ours.result = search rules in
    let now = c.kept_list-read.new.conn in
    answered_err (λ list x. (rows : Rows) → ListHolds list rows None → g.X.Finding.is_of rows x) c.kept_list-read.result c.found_in.result c.found_in.ensures (λ fault. HasNone g.S.Store fault c.args.conn.now now)
    (if_err _ _ c.kept_list-read.result c.kept_list-read.ensures.refused (λ fault none refused. record { ours = none refused; older = λ clean version is. absurd (old_not_ours version (sym is ∙ (sym c.schema.ensures.value ∙ c.is_ours.ensures.0 yes))); others = λ clean other. absurd (other (sym c.schema.ensures.value ∙ c.is_ours.ensures.0 yes)) }))

pub other_refusal-requires : goal.other_refusal-requires
other_refusal-requires g c = λ ours.
    let no : c.is_ours.result ≡ false = search rules in
    both_ways _ no (c.is_ours.ensures.1 (c.schema.ensures.value ∙ ours))

pub returns-then-not-is_ours-clause-refused : goal.returns-then-not-is_ours-clause-refused
returns-then-not-is_ours-clause-refused g c = c.other_refusal.ensures.refused
