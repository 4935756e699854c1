-- A body that is read is not longer than the limit.
use Rattle.std.proofs.Common.{◌≡◌, ℕ, ◌≤◌, Bool, true, false, List, [], ◌∷◌, length, if◌then◌else◌, not, ◌==◌, Result, Ok, Err, refl, subst, arith}
use Rattle.std.specs.Prelude.{codes}
use Rattle.httparse.specs.Grammar.{RequestHead}
use Rattle.std.specs.Str.Parse.{digits_value}
use Rattle.bsp_routes.specs.Fields.{Header, values}
use Rattle.bsp_routes.specs.Head.{headers_of, judgement}
use Rattle.bsp_routes.specs.Hosts.{are_hosts}
use Rattle.bsp_routes.specs.Judging.{body_of, is_method, wanted, wanted_or}
use Rattle.bsp_routes.specs.Lengths.{body_limit, framed, is_number, sized}
use Rattle.bsp_routes.specs.declared.fault.HeadFault.{HeadFault}
use Rattle.bsp_routes.specs.declared.fault.HeadFault.TheVariants.{Malformed, TransferCoding}
use Rattle.bsp_routes.specs.declared.parts.Wanted.{Wanted}

sized_small : (len n : ℕ) → sized len ≡ Ok n → n ≤ body_limit
sized_small len n e = grind arith

framed_small : (posts : Bool) (texts : List (List ℕ)) (n : ℕ) → framed posts texts ≡ Ok n → n ≤ body_limit
framed_small true [] n e = cc
framed_small false [] n e = let zero : 0 ≡ n = cc in omega (arith, zero)
framed_small posts (text ∷ []) n e = elim (is_number text) as (λ t. (if t then sized (digits_value 10 text) else Err Malformed) ≡ Ok n → n ≤ body_limit) [ true ↦ λ h. sized_small (digits_value 10 text) n h | false ↦ λ h. cc ] e
framed_small posts (text ∷ (other ∷ more)) n e = cc

body_small : (minor : ℕ) (method : List ℕ) (headers : List Header) (n : ℕ) → body_of minor method headers ≡ Ok n → n ≤ body_limit
body_small minor method headers n e =
    let lengths : Result ℕ HeadFault = framed (is_method (codes "POST") method) (values (codes "content-length") headers) in
    elim (not (are_hosts minor (values (codes "host") headers))) as (λ t. (if t then Err Malformed else if not (length (values (codes "transfer-encoding") headers) == 0) then Err TransferCoding else lengths) ≡ Ok n → n ≤ body_limit) [
      | true ↦ λ h. cc
      | false ↦ elim (not (length (values (codes "transfer-encoding") headers) == 0)) as (λ t. (if t then Err TransferCoding else lengths) ≡ Ok n → n ≤ body_limit) [
        | true ↦ λ h. cc
        | false ↦ λ h. framed_small (is_method (codes "POST") method) (values (codes "content-length") headers) n h
      ]
    ] e

wanted_small : (minor : ℕ) (method : List ℕ) (headers : List Header) (r : Result ℕ HeadFault) (w : Wanted) → ((n : ℕ) → r ≡ Ok n → n ≤ body_limit) → wanted_or (wanted minor method headers) r ≡ Ok w → w.body ≤ body_limit
wanted_small minor method headers (Ok len) w small e = let same : wanted minor method headers len ≡ w = cc in subst (λ (x : Wanted). x.body ≤ body_limit) same (small len refl)
wanted_small minor method headers (Err fault) w small e = cc

-- what a head asks for
pub body_limited : (h : RequestHead) (w : Wanted) → judgement h ≡ Ok w → w.body ≤ body_limit
body_limited h w e = wanted_small h.minor h.method (headers_of h) (body_of h.minor h.method (headers_of h)) w (body_small h.minor h.method (headers_of h)) e
