use Rattle.bsp_fields.proofs.CodeLemmas.{document_reading-fixed_digits}
use Rattle.bsp_fields.proofs.document_number.DocNumber.digits.Goals as goal

pub returns-clause-reads_back : goal.returns-clause-reads_back
returns-clause-reads_back c =
    rw (← c.self.view_is, c.write_digits.ensures) (document_reading-fixed_digits c.self.inside.number c.self.invariant)
