-- What is found where a head is sought.
use Rattle.std.specs.Prelude.{◌≡◌, ℕ, ◌<◌, ◌≤◌, List, length, take, Some, None}
use Rattle.bsp_routes.specs.Head.{head_limit}
use Rattle.bsp_routes.specs.Scan.{HasScanned, head_len}
use Rattle.bsp_routes.specs.declared.scan.Scan.{Scan}
use Rattle.bsp_connection.specs.declared.heads.Sought.{Sought}
use Rattle.bsp_connection.specs.declared.heads.Sought.TheVariants.{Head, TooLong, Nothing}

abbrev pub IsAnswer : List ℕ → Sought → Scan → Type 0
IsAnswer received (Head len) scan = (head_len received ≡ Some len) × (len ≤ head_limit)
IsAnswer received TooLong scan = (head_limit ≤ length received) × (head_len (take head_limit received) ≡ None)
IsAnswer received Nothing scan = (head_len received ≡ None) × (length received < head_limit) × HasScanned received scan
