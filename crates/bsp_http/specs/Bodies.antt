-- What takes the body of a request.
use Rattle.std.specs.Prelude.{◌≡◌, ◌⊎◌, ℕ, List, ◌++◌, Some, Result, Ok, Err}
use Rattle.std.specs.Borrow.{Bor}
use Rattle.bsp_ret.specs.Lines.{lines}
use Rattle.bsp_ret.specs.Ret.{File, Ret}
use Rattle.bsp_ret.specs.Table.{first_fault}
use Rattle.bsp_ret.specs.declared.model.RetFault.{RetFault}
use Rattle.bsp_ret.specs.declared.model.Progress.TheVariants.{Reading, Ended, Failed}
use Rattle.bsp_ret.specs.Pieces.{Fed, IsFinal}
use Rattle.bsp_connection.specs.Exchanges.{Reading as Reads}
use Rattle.bsp_desk.specs.Asking.{Asking}
use Rattle.bsp_desk.specs.BodyKind.TheVariants.{Ret as RetFile}
use Rattle.bsp_desk.specs.Routed.{IsRouteOf}
use Rattle.bsp_desk.specs.RoutesCalls.{Asks}
use Rattle.bsp_http.specs.Uses.{kind_of}
use Rattle.bsp_http.specs.declared.bodies.Found.{Found}
use Rattle.bsp_http.specs.declared.bodies.RequestBody.{RequestBody}
use Rattle.bsp_http.specs.declared.bodies.RequestBody.TheVariants.{Kept, File as AsFile}

-- ---- a RET file

-- the reader has all bytes, and more may come
abbrev pub unended : List ℕ → Fed
unended bytes = record { bytes = bytes; progress = Reading }

-- the reader has all bytes, and the file has ended
abbrev pub ended : List ℕ → Fed
ended bytes = record { bytes = bytes; progress = Ended }

-- the bytes at the front have a fault, however they go on, and the others were dropped
pub record HasFault (fed : Fed) (bytes : List ℕ) : Type 0 where
  pub fault : RetFault
  pub front : List ℕ
  pub dropped : List ℕ
  pub bytes_are : bytes ≡ front ++ dropped
  pub fed_is : fed ≡ record { bytes = front; progress = Failed fault }
  pub final : IsFinal front fault

-- the reader has the bytes, or those up to a fault
abbrev pub HasRet : Fed → List ℕ → Type 0
HasRet fed bytes = (fed ≡ unended bytes) ⊎ HasFault fed bytes

-- the bytes are the RET file, or have that first fault
abbrev pub IsFileRead : List ℕ → Result (Bor File) RetFault → Type 0
IsFileRead bytes (Ok file) = Ret (lines bytes) file.now
IsFileRead bytes (Err fault) = first_fault (lines bytes) ≡ Some fault

-- ---- any body

-- the route of a method and a target, and the kind of body of what they ask for
abbrev pub IsFound : List ℕ → List ℕ → Found → Type 0
IsFound method target found = IsRouteOf method target found.route × ((asked : Asking (List ℕ)) × Asks method target asked × (found.kind ≡ kind_of asked))

-- it was kept, or was read as the RET file that is asked for
abbrev pub HasBody : Found → RequestBody → List ℕ → Type 0
HasBody found (Kept kept) bytes = kept.items ≡ bytes
HasBody found (AsFile reader) bytes = (found.kind ≡ RetFile) × HasRet reader bytes

-- how an office reads requests
abbrev pub at_routes : Reads Found RequestBody
at_routes = record { finds = IsFound; has = HasBody }
