use Rattle.std.proofs.Common.{◌≡◌, ◌≢◌, ◌<◌, ◌+◌, ℕ, true, false, Option, None, Some, refl, ap, sym, ◌∙◌, arith}
use Rattle.bsp_streams.specs.declared.peers.Awaited.{Awaited}
use Rattle.bsp_sockets.specs.Phases.{IsAgain, IsStill, message_of, output_of}
use Rattle.bsp_sockets.specs.declared.phase.Begun.{Begun}
use Rattle.bsp_sockets.specs.declared.phase.Unread.{Unread}
use Rattle.bsp_sockets.specs.declared.phase.Stage.TheVariants.{Filling}
use Rattle.bsp_sockets.specs.declared.phase.Phase.{Phase}
use Rattle.bsp_sockets.specs.declared.phase.Phase.TheVariants.{Busy}
use Rattle.bsp_sockets.proofs.phase.Phase.after.Goals as goal

abbrev written : Unread → ℕ → Unread
written u sent = record { taken = u.taken + sent; since = u.since; spans = u.spans; stage = u.stage }

same : (phase : Phase) (awaited : Awaited) (sent : ℕ) (m : Option Begun) (o out : Option Unread) → phase ≡ Busy None out → output_of phase ≡ out → IsStill out awaited.writes → awaited.again ≡ true → awaited.reads ≡ false → sent ≡ 0
    → (IsAgain awaited → m ≡ None) → (awaited.reads ≡ false → awaited.writes ≡ true → m ≡ None) → (awaited.writes ≡ false → o ≡ None)
    → ((u : Unread) → awaited.writes ≡ true → output_of phase ≡ Some u → u.stage ≢ Filling → u.taken + sent < 32768 → o ≡ Some (written u sent)) → Busy m o ≡ phase
same phase awaited sent m o None is at still again reads nothing a w n l =
    ap (λ (x : Option Begun). Busy x o) (a (again, reads, still)) ∙ ap (λ (y : Option Unread). Busy None y) (n still) ∙ sym is
same phase awaited sent m o (Some u) is at still again reads nothing a w n l =
    let short = still.1 in
    let no_more : u.taken + sent ≡ u.taken = omega (arith, nothing) in
    let waits : o ≡ Some u = l u still.0 at still.2 (omega (arith, short, nothing)) ∙ ap (λ (k : ℕ). Some (record { taken = k; since = u.since; spans = u.spans; stage = u.stage })) no_more in
    ap (λ (x : Option Begun). Busy x o) (w reads still.0) ∙ ap (λ (y : Option Unread). Busy None y) waits ∙ sym is

pub returns-clause-stays : goal.returns-clause-stays
returns-clause-stays c =
    let phase = c.args.self in λ s. same phase c.args.awaited c.args.traffic.sent c.message_after.result c.unread_after.result (output_of phase) s.3 refl s.4 s.0 s.1 s.2
    (λ again. c.message_after.ensures.again again (c.message.ensures ∙ ap message_of s.3)) c.message_after.ensures.output c.unread_after.ensures.none
    (λ u waits at. c.unread_after.ensures.less u waits (c.output.ensures ∙ at))
