-- What is kept of the fields of a head, where they are gone over once.
use Rattle.std.specs.Prelude.{◌≡◌, ℕ, ◌≤◌, List, [], ◌∷◌, length, codes}
use Rattle.std.specs.List.{list_any}
use Rattle.httparse.specs.Spans.{IsWithin, span_bytes}
use Rattle.bsp_routes.specs.Fields.{Header, values, is_close, is_expect}
use Rattle.bsp_routes.specs.declared.named.Found.{Found}
use Rattle.bsp_routes.specs.declared.named.Found.TheVariants as found
use Rattle.bsp_routes.specs.declared.fields.Fields.{Fields}

-- the fields of one name have these values: none, the one that the span covers, or several
abbrev pub IsFound : List ℕ → List (List ℕ) → Found → Type 0
IsFound text values found.Nothing = values ≡ []
IsFound text values (found.One value) = (values ≡ span_bytes text value ∷ []) × IsWithin (length text) value
IsFound text values found.Several = 2 ≤ length values

-- what is kept of these fields
pub record AreFields (text : List ℕ) (headers : List Header) (fields : Fields) : Type 0 where
  pub hosts : IsFound text (values (codes "host") headers) fields.hosts
  pub codings : IsFound text (values (codes "transfer-encoding") headers) fields.codings
  pub lengths : IsFound text (values (codes "content-length") headers) fields.lengths
  pub tokens : IsFound text (values (codes "bsp-token") headers) fields.tokens
  pub closes : fields.closes ≡ list_any is_close headers
  pub expects : fields.expects ≡ list_any is_expect headers
