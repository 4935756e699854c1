-- What is asked for, by places in the target.
use Rattle.std.specs.Prelude.{◌≡◌, ℕ, List, length, true, false, bytes_eq}
use Rattle.bsp_routes.specs.declared.resource.Resource.{Resource}
use Rattle.bsp_routes.specs.declared.route.Located.{Located}
use Rattle.bsp_routes.specs.declared.route.Route.{Route}
use Rattle.bsp_routes.specs.declared.route.Route.TheVariants.{Call, OtherMethod, NoRoute}
use Rattle.bsp_routes.specs.Calls.{lists, post}
use Rattle.bsp_routes.specs.Resources.{Form, Fixed, After, Between, Two, IsPathOf, methods}

-- how many bytes are before the first value
abbrev pub bytes_before : Form → ℕ
bytes_before (Fixed w) = 0
bytes_before (After w) = length w
bytes_before (Between w z) = length w
bytes_before (Two w z) = length w

-- the target is a path of the resource, with values of so many bytes
abbrev pub IsLocatedAt : List ℕ → Located → Type 0
IsLocatedAt target l = (a : List ℕ) × (b : List ℕ) × IsPathOf l.resource a b target × (l.first ≡ length a) × (l.second ≡ length b)

-- what the method and the target ask for
abbrev pub IsRouteOf : List ℕ → List ℕ → Route → Type 0
IsRouteOf method target (Call l) = IsLocatedAt target l × (lists (methods l.resource) method ≡ true) × (l.posts ≡ bytes_eq method post)
IsRouteOf method target (OtherMethod listed) = (resource : Resource) × (a : List ℕ) × (b : List ℕ) × IsPathOf resource a b target × (listed ≡ methods resource) × (lists listed method ≡ false)
IsRouteOf method target NoRoute = (resource : Resource) (a b : List ℕ) → IsPathOf resource a b target → ⊥
