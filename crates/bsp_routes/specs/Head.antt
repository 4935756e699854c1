-- The head that a text is, its parts, and its refusal.
use Rattle.std.specs.Prelude.{◌≡◌, ℕ, ◌<◌, ◌≤◌, ◌⊎◌, false, List, [], length, map, codes, Result, Ok, Err}
use Rattle.std.specs.Option.{option_map}
use Rattle.httparse.specs.Grammar.{RequestHead, ReadsRequest}
use Rattle.httparse.specs.Spans.{name_and_value, RequestExceeds, RequestOverflows, span_bytes}
use Rattle.bsp_routes.specs.Fields.{Header, token_of}
use Rattle.bsp_routes.specs.Judging.{is_method, judge}
use Rattle.bsp_routes.specs.declared.parts.Wanted.{Wanted}
use Rattle.bsp_routes.specs.declared.parts.HeadParts.{HeadParts}
use Rattle.bsp_routes.specs.declared.fault.Refused.{Refused}
use Rattle.bsp_routes.specs.declared.fault.HeadFault.{HeadFault}
use Rattle.bsp_routes.specs.declared.fault.HeadFault.TheVariants.{Malformed, HeadTooLarge}

abbrev pub head_limit : ℕ
head_limit = 16384

abbrev pub field_limit : ℕ
field_limit = 64

-- the text, whole, is the head h, within the limits
pub record IsHead (text : List ℕ) (h : RequestHead) : Type 0 where
  pub reads : ReadsRequest text h []
  pub few : length h.fields ≤ field_limit
  pub short : length text ≤ head_limit

abbrev pub headers_of : RequestHead → List Header
headers_of h = map name_and_value h.fields

abbrev pub judgement : RequestHead → Result Wanted HeadFault
judgement h = judge h.minor h.method (headers_of h)

-- a front of the text has more fields than the limit, and so has each head that the text may become
abbrev pub HasTooManyFields : List ℕ → Type 0
HasTooManyFields text = RequestExceeds field_limit text × RequestOverflows field_limit text

-- the text is beyond a limit, or no head
abbrev pub IsNoHead : List ℕ → HeadFault → Type 0
IsNoHead text fault =
    ((fault ≡ HeadTooLarge) × ((head_limit < length text) ⊎ HasTooManyFields text))
    ⊎ ((fault ≡ Malformed) × (length text ≤ head_limit) × ((h : RequestHead) → ReadsRequest text h [] → ⊥))

-- The head is refused, for that fault: it is none, or its fields have the fault. Bare is an answer without its body.
abbrev pub Refuses : List ℕ → Refused → Type 0
Refuses text refused =
    (IsNoHead text refused.fault × (refused.bare ≡ false))
    ⊎ ((h : RequestHead) × IsHead text h × (judgement h ≡ Err refused.fault) × (refused.bare ≡ is_method (codes "HEAD") h.method))

-- the text is a head, which has these parts
abbrev pub AreParts : List ℕ → HeadParts → Type 0
AreParts text parts =
    (h : RequestHead) × IsHead text h × (judgement h ≡ Ok parts.wanted) × (span_bytes text parts.method ≡ h.method) × (span_bytes text parts.target ≡ h.target)
    × (option_map (span_bytes text) parts.token ≡ token_of (headers_of h))
