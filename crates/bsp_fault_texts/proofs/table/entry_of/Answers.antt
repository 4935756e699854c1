use Rattle.std.proofs.Common.{None, Some, ap, map, ◌∙◌, sym}
use Rattle.std.proofs.lemmas.List.{at_drop_all}
use Rattle.std.specs.List.{find, flat_map}
use Rattle.std.specs.Str.{bytes_eq}
use Rattle.bsp_fault_texts.specs.Table.{said_by, said_in}
use Rattle.bsp_fault_texts.proofs.TableLemmas.{found_behind, found_here, known}
use Rattle.bsp_fault_texts.proofs.table.entry_of.Goals as goal

pub returns-in-Some-clause-entry : goal.returns-in-Some-clause-entry
returns-in-Some-clause-entry c =
    found_here (λ s. bytes_eq s.code c.args.code.now) said_by (λ part. map said_in part.now) c.parts.result c.loop-rows.rows-index _ c.entry_in.result c.loop-rows-test.true c.entry_in.ensures c.loop-rows.invariant
    c.in-Some.entry c.in-Some.is
    ∙ ap (find (λ s. bytes_eq s.code c.args.code.now)) c.parts.ensures

pub loop-rows-preserved : goal.loop-rows-preserved
loop-rows-preserved c =
    found_behind (λ s. bytes_eq s.code c.args.code.now) said_by (λ part. map said_in part.now) c.parts.result c.loop-rows.rows-index _ c.entry_in.result c.loop-rows-test.true c.entry_in.ensures c.loop-rows.invariant
    c.in_default.is

pub returns-in-Some-clause-known : goal.returns-in-Some-clause-known
returns-in-Some-clause-known c = known said_by (Some c.in-Some.entry) c.args.code.now (returns-in-Some-clause-entry c)

pub returns-clause-entry : goal.returns-clause-entry
returns-clause-entry c =
    sym (at_drop_all (λ l. find (λ s. bytes_eq s.code c.args.code.now) (flat_map (λ part. map said_in part.now) l)) c.parts.result c.loop-rows.rows-index c.loop-rows-test.false)
    ∙ c.loop-rows.invariant
    ∙ ap (find (λ s. bytes_eq s.code c.args.code.now)) c.parts.ensures

pub returns-clause-known : goal.returns-clause-known
returns-clause-known c = known said_by None c.args.code.now (returns-clause-entry c)
