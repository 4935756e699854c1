-- What the fields of a head ask for, or its first fault.
use Rattle.std.specs.Prelude.{ℕ, Bool, ◌&&◌, ◌||◌, not, List, length, if◌then◌else◌, ◌==◌, codes, Result, Ok, Err}
use Rattle.std.specs.List.{list_any}
use Rattle.std.specs.Cmp.Lexicographic.{pointwise}
use Rattle.bsp_routes.specs.Fields.{Header, values, is_close, is_expect}
use Rattle.bsp_routes.specs.Hosts.{are_hosts}
use Rattle.bsp_routes.specs.Lengths.{framed}
use Rattle.bsp_routes.specs.declared.parts.Wanted.{Wanted}
use Rattle.bsp_routes.specs.declared.fault.HeadFault.{HeadFault}
use Rattle.bsp_routes.specs.declared.fault.HeadFault.TheVariants.{Malformed, TransferCoding}

-- the method has that name; letter case counts
abbrev pub is_method : List ℕ → List ℕ → Bool
is_method name method = pointwise (λ a b. a == b) method name

-- the first fault that applies, or the body's length
abbrev pub body_of : ℕ → List ℕ → List Header → Result ℕ HeadFault
body_of minor method headers =
    if not (are_hosts minor (values (codes "host") headers)) then Err Malformed
    else if not (length (values (codes "transfer-encoding") headers) == 0) then Err TransferCoding
    else framed (is_method (codes "POST") method) (values (codes "content-length") headers)

-- what a head with a body of that length asks for
abbrev pub wanted : ℕ → List ℕ → List Header → ℕ → Wanted
wanted minor method headers len = record {
  body = len;
  closes = not (minor == 1) || list_any is_close headers;
  expects = minor == 1 && (not (len == 0) && list_any is_expect headers);
  bare = is_method (codes "HEAD") method;
}

abbrev pub wanted_or : (ℕ → Wanted) → Result ℕ HeadFault → Result Wanted HeadFault
wanted_or want (Ok len) = Ok (want len)
wanted_or want (Err fault) = Err fault

abbrev pub judge : ℕ → List ℕ → List Header → Result Wanted HeadFault
judge minor method headers = wanted_or (wanted minor method headers) (body_of minor method headers)
