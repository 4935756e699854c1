-- Which bodies are used.
use Rattle.std.specs.Prelude.{◌≡◌, ℕ, Bool, List}
use Rattle.bsp_desk.specs.RoutesCalls.{Asks, body_of}
use Rattle.bsp_desk.specs.Asking.{Asking}
use Rattle.bsp_desk.specs.Asking.TheVariants as asking
use Rattle.bsp_desk.specs.BodyKind.{BodyKind}
use Rattle.bsp_desk.specs.BodyKind.TheVariants.{NoBody}
use Rattle.bsp_desk.specs.Callers.{has_body}

-- what asks for no call has no body
abbrev pub kind_of : Asking (List ℕ) → BodyKind
kind_of (asking.Call call) = body_of call
kind_of (asking.OtherMethod methods) = NoBody
kind_of asking.NoRoute = NoBody

-- whether the body of a message with that method and that target is used
abbrev pub Uses : List ℕ → List ℕ → Bool → Type 0
Uses method target used = (asked : Asking (List ℕ)) × Asks method target asked × (used ≡ has_body (kind_of asked))
