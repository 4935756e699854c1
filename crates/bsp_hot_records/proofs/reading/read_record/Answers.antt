use Rattle.std.proofs.Common.{sym, ◌∙◌}
use Rattle.bsp_hot_records.proofs.ReadingLemmas.{read_as_named}
use Rattle.bsp_hot_records.proofs.reading.read_record.Goals as goal

pub returns-clause-value : goal.returns-clause-value
returns-clause-value c =
    c.record_of.ensures.value
    ∙ read_as_named c.args.form c.args.number c.args.line.now c.in-Some.name c.requires.wide (sym c.spells.ensures ∙ c.if-not-spells.false) (sym c.of.ensures ∙ c.in-Some.is) (sym c.has_letters.ensures ∙ c.if-not-has_letters.false)
