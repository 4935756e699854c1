-- What the router finds at a path.
use Rattle.std.specs.Prelude.{◌≡◌, ℕ, List, [], ◌∷◌, map, All, Option, Some, None}
use Rattle.std.specs.Str.{IsUtf8}
use Rattle.matchit.specs.Seek.{first}
use Rattle.matchit.specs.Router.{RouteOf}
use Rattle.matchit.specs.Params.{walk}
use Rattle.bsp_routes.specs.declared.resource.Resource.{Resource}
use Rattle.bsp_routes.specs.declared.found.Found.{Found}
use Rattle.bsp_routes.specs.Resources.{IsPathOf}
use Rattle.bsp_routes.specs.Rows.{ResourceRows}

-- the first value, and the others
abbrev pub front : List (List ℕ) → List ℕ
front [] = []
front (v ∷ vs) = v

abbrev pub others : List (List ℕ) → List (List ℕ)
others [] = []
others (v ∷ vs) = vs

-- the values of a path, as a route takes them
abbrev pub values_in : List ℕ → List ℕ → List (ℕ × ℕ) → List ℕ → List (List ℕ)
values_in pattern text names path = map (λ (pair : List ℕ × List ℕ). pair.1) (walk pattern text path names 0 0)

-- the first two values, where they are texts
abbrev pub AreFirstTwo : List (List ℕ) → List ℕ → List ℕ → Type 0
AreFirstTwo values a b = All IsUtf8 values → (a ≡ front values) × (b ≡ front (others values))

-- the resource of the route that the path matches, with the path's values
abbrev pub IsMatch : ResourceRows → List ℕ → Option Found → Type 0
IsMatch rows path None = first rows path ≡ None
IsMatch rows path (Some found) =
    (route : RouteOf Resource) × (first rows path ≡ Some route) × (found.resource ≡ route.value)
    × AreFirstTwo (values_in route.pattern route.text route.names path) found.first.now found.second.now

-- the target is a path of the resource that was found, with its values
abbrev pub IsFoundAt : List ℕ → Found → Type 0
IsFoundAt target found = IsPathOf found.resource found.first.now found.second.now target
