use Rattle.std.proofs.Common.{◌≡◌, ◌<◌, ℕ, List, length, None, refl, subst}
use Rattle.bsp_routes.specs.Scan.{HasScanned, head_len}
use Rattle.bsp_connection.proofs.TurnLemmas.{waiting_turn}
use Rattle.bsp_connection.proofs.answering.take_head.Goals as goal

pub returns-in-Nothing : goal.returns-in-Nothing
returns-in-Nothing g c =
    let told = c.in-Nothing.ensures in
    let same = c.bytes.ensures in
    waiting_turn g.S.Service.means g.S.Service.reads c.args.c.now _ c.args.desk.now c.requires.none c.requires.ready refl refl refl refl refl c.len-c.ensures
    (subst (λ (l : List ℕ). HasScanned l c.seek.new.scan) same told.2) (subst (λ (l : List ℕ). (head_len l ≡ None) × (length l < 16384)) same (told.0, told.1)) refl refl
