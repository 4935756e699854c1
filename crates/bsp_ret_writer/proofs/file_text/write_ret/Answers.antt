use Rattle.std.proofs.Common.{◌≡◌, ◌++◌, ◌∷◌, [], List, ℕ, ap, ◌∙◌, subst}
use Rattle.std.proofs.lemmas.List.{append-nil}
use Rattle.bsp_ret_writer.specs.Writing.{IsWrittenTrailer, trailer_line}
use Rattle.bsp_ret_writer.proofs.WrittenFile.{all_written}
use Rattle.bsp_ret_writer.proofs.file_text.write_ret.Goals as goal

pub returns-clause-written : goal.returns-clause-written
returns-clause-written c =
    let last = c.in_ok-push_trailer.ensures in
    let stands = c.header_line.ensures.stands in
    let trailer = c.trailer_line.ensures.value in
    let Sum : List ℕ → Type 0 = λ line. IsWrittenTrailer line last.0 in
    let Text : List ℕ → Type 0 = λ line. c.push_trailer.new.out.items ≡ c.push_groups.new.out.items ++ trailer_line line last.0 ++ 10 ∷ [] in
    let begins : c.push_line.new.out.items ≡ c.args.file.now.header ++ 10 ∷ [] = c.in_ok-push_line.ensures ∙ rw (c.new-out.ensures.items, c.header_line.ensures.value) (ap (λ line. line ++ 10 ∷ []) (append-nil c.args.file.now.header)) in
    all_written stands.0 c.args.file.now c.push_line.new.out.items c.push_groups.new.out.items c.push_trailer.new.out.items last.0 stands.1 begins c.in_ok-push_groups.ensures (subst Sum trailer last.1.0) (subst Text trailer last.1.1)
