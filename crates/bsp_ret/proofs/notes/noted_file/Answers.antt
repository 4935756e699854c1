use Rattle.std.proofs.Common.{length}
use Rattle.bsp_fields.specs.Lines.{lines}
use Rattle.bsp_ret.specs.Notes.{file_of}
use Rattle.bsp_ret.proofs.LawLemmas.{is_file}
use Rattle.bsp_ret.proofs.NoteLemmas.{places_further}
use Rattle.bsp_ret.proofs.notes.noted_file.Goals as goal

pub groups-requires-clause-closed : goal.groups-requires-clause-closed
groups-requires-clause-closed c =
    places_further c.args.bytes.now c.args.notes.judged (length c.args.bytes.now) c.args.closed.now c.requires.places.within c.requires.places.groups

pub of-requires : goal.of-requires
of-requires c =
    (lines c.args.bytes.now, rw c.in_ok-groups.ensures.ok (is_file (lines c.args.bytes.now) (file_of c.args.notes c.args.closed.now c.args.bytes.now) c.requires.read))
