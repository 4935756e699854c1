use Rattle.std.proofs.Common.{◌≡◌, ap}
use Rattle.bsp_fields.specs.Lines.{lines}
use Rattle.bsp_ret.specs.Notes.{IsFileNoted}
use Rattle.bsp_ret.specs.Pieces.{Fed}
use Rattle.bsp_ret.proofs.AnswerLemmas.{answer_found, answer_only}
use Rattle.bsp_ret.proofs.FeedLemmas.{known_ended}
use Rattle.bsp_ret.proofs.reader.RetReader.file.Goals as goal

pub noted_file-requires : goal.noted_file-requires
noted_file-requires c =
    let r = c.self.inside in
    let known : IsFileNoted r.notes r.closed.items r.bytes.items = known_ended r.progress r.notes r.closed.items r.bytes.items c.in-Ended.is c.self.invariant in
    rw (c.deref.ensures.value, c.deref-in-Ended.ensures.value) known

pub returns-in-Ended-clause-found : goal.returns-in-Ended-clause-found
returns-in-Ended-clause-found c =
    let bytes : c.self.inside.bytes.items ≡ c.args.self.now.bytes = ap (λ (f : Fed). f.bytes) c.self.view_is in
    answer_found (lines c.args.self.now.bytes) c.noted_file.result (rw (c.deref-in-Ended.ensures.value, bytes) at c.noted_file.ensures.file)

pub returns-in-Ended-clause-only : goal.returns-in-Ended-clause-only
returns-in-Ended-clause-only c = λ ended file ret.
    let bytes : c.self.inside.bytes.items ≡ c.args.self.now.bytes = ap (λ (f : Fed). f.bytes) c.self.view_is in
    answer_only (lines c.args.self.now.bytes) c.noted_file.result (rw (c.deref-in-Ended.ensures.value, bytes) at c.noted_file.ensures.file) c.noted_file.ensures.fault file ret
