use Rattle.std.specs.Prelude.{codes}
use Rattle.bsp_fields.specs.Days.{day_text}
use Rattle.bsp_ret.specs.RetRecordsTexts.{code_text}
use Rattle.bsp_check.specs.RetReport.{document_text, sale_text}
use Rattle.bsp_check.proofs.RetReports.{joined_seven}
use Rattle.bsp_check.proofs.ret_judging.push_sale.Goals as goal

pub returns : goal.returns
unfolding sale_text
returns c =
    let s = c.args.sale.now in
    rw (
      c.in_ok-extend_from_slice-6.ensures.items,
      c.in_ok-extend_from_slice-5.ensures.items,
      c.in_ok-push_document.ensures,
      c.in_ok-extend_from_slice-4.ensures.items,
      c.in_ok-extend_from_slice-3.ensures.items,
      c.in_ok-extend_from_slice-2.ensures.items,
      c.in_ok-extend_from_slice.ensures.items,
      c.text.ensures,
      c.write_text.ensures.text,
    ) (joined_seven c.args.out.now.items (code_text s.code) (codes " ") s.agent (codes " ") (document_text s.document) (codes " ") (day_text s.issued))
