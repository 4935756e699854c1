-- What serving all connections at an office's desk does.
use Rattle.std.specs.Prelude.{ℕ}
use Rattle.bsp_connection.specs.Exchanges.{Meaning, does}
use Rattle.bsp_desk.specs.declared.desk.Desk.{Desk}
use Rattle.bsp_connection.specs.Talks.{Rests, Talks}
use Rattle.bsp_streams.specs.Events.{Event}
use Rattle.bsp_streams.specs.Serving.{Served}
use Rattle.bsp_http.specs.Bodies.{at_routes}

-- all connections of HTTP over a service that finds and answers so
abbrev pub IsServedAll : {P B : Type 0} → (P → Event → P → Type 0) → Meaning (Desk B) → P → P → Desk B → Desk B → ℕ → ℕ → Type 0
IsServedAll did m p q d e in_all count = Served did (does m) (Talks m at_routes) (Rests m at_routes) p q d e in_all count
