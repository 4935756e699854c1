use Rattle.std.proofs.Common.{ℕ, List, refl, subst, ap}
use Rattle.bsp_ret.specs.Lines.{lines}
use Rattle.bsp_ret.specs.Pieces.{Fed}
use Rattle.bsp_ret.specs.Ret.{Ret}
use Rattle.bsp_http.proofs.FileLemmas.{some_bytes}
use Rattle.bsp_http.proofs.answers.answer_read.Goals as goal

pub returns-in-Ok-clause-answered : goal.returns-in-Ok-clause-answered
returns-in-Ok-clause-answered g c bytes has =
    let same = ap (λ (fed : Fed). fed.bytes) (c.in_default.ensures bytes has).1 in
    c.answer_file-in-Ok.ensures bytes (subst (λ (l : List ℕ). Ret (lines l) c.in-Ok.file) same c.in-Ok.ensures.found)

pub returns-in-Err-file-clause-refused : goal.returns-in-Err-file-clause-refused
returns-in-Err-file-clause-refused g c = (refl, λ bytes has. some_bytes bytes (c.in_default.ensures bytes has).0)
