-- What of a connection has a time.
use Rattle.std.specs.Prelude.{◌≡◌, ◌≢◌, ◌<◌, Bool, true, false, Option, None, Some}
use Rattle.bsp_streams.specs.declared.peers.Awaited.{Awaited}
use Rattle.bsp_sockets.specs.declared.phase.Begun.{Begun}
use Rattle.bsp_sockets.specs.declared.phase.Stage.TheVariants.{Filling}
use Rattle.bsp_sockets.specs.declared.phase.Traffic.{Traffic}
use Rattle.bsp_sockets.specs.declared.phase.Unread.{Unread}
use Rattle.bsp_sockets.specs.declared.phase.Phase.{Phase}
use Rattle.bsp_sockets.specs.declared.phase.Phase.TheVariants.{Resting, Busy, Leaving}

-- the message that is begun
abbrev pub message_of : Phase → Option Begun
message_of (Resting since) = None
message_of (Busy message output) = message
message_of (Leaving since) = None

-- the output that waits
abbrev pub output_of : Phase → Option Unread
output_of (Resting since) = None
output_of (Busy message output) = output
output_of (Leaving since) = None

-- no message is begun, no output waits, and no turn comes again
abbrev pub IsBetween : Awaited → Type 0
IsBetween awaited = (awaited.message ≡ None) × (awaited.writes ≡ false) × (awaited.again ≡ false)

-- its turn comes again, and nothing is waited for
abbrev pub IsAgain : Awaited → Type 0
IsAgain awaited = (awaited.again ≡ true) × (awaited.reads ≡ false) × (awaited.writes ≡ false)

-- the output that waits after a turn in which nothing was written is that before it
abbrev pub IsStill : Option Unread → Bool → Type 0
IsStill None waits = waits ≡ false
IsStill (Some unread) waits = (waits ≡ true) × (unread.taken < 32768) × (unread.stage ≢ Filling)

-- its turn comes again, nothing came or went, and no message has a time
abbrev pub Stays : Phase → Awaited → Traffic → Type 0
Stays phase awaited traffic = (awaited.again ≡ true) × (awaited.reads ≡ false) × (traffic.sent ≡ 0) × (phase ≡ Busy None (output_of phase)) × IsStill (output_of phase) awaited.writes
