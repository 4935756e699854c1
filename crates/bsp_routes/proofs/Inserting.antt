-- What an insert leaves.
use Rattle.std.proofs.Common.{◌≡◌, ℕ, List, Result, Ok, Err}
use Rattle.matchit.specs.Router.{InsertsRead}
use Rattle.matchit.specs.Route.{parse_route, Scan}
use Rattle.matchit.specs.declared.error.InsertError.{InsertError}
use Rattle.bsp_routes.specs.declared.resource.Resource.{Resource}
use Rattle.bsp_routes.specs.Rows.{ResourceRows, placed_read, add}

of_read : (p : Result Scan InsertError) (resource : Resource) (old new : ResourceRows) → InsertsRead p resource old new (Ok tt) → new ≡ placed_read p resource old
of_read (Ok s) resource old new h = h.1
of_read (Err e) resource old new h = h.0

pub inserted : (text : List ℕ) (resource : Resource) (old new : ResourceRows) → InsertsRead (parse_route text) resource old new (Ok tt) → new ≡ add text resource old
unfolding add
inserted text resource old new h = of_read (parse_route text) resource old new h
