use Rattle.std.proofs.Common.{◌<◌, List, ℕ, length, sym, subst}
use Rattle.bsp_fields.proofs.RestLemmas.{some_bytes}
use Rattle.bsp_ret.proofs.file.Group.records.Goals as goal

pub of-requires-clause-some : goal.of-requires-clause-some
of-requires-clause-some c =
    let HasSome : List (List ℕ) → Type 0 = λ ls. 0 < length ls in
    some_bytes c.self.inside.text.now (subst HasSome (sym c.self.view_is) c.requires.some)
