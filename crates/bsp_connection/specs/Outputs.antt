-- What is put out on a connection and not yet sent.
use Rattle.std.specs.Prelude.{◌≡◌, ◌≢◌, ◌⊎◌, ℕ, Bool, true, false, List, [], ◌++◌, length, drop, nat_lt, if◌then◌else◌, Option, Some, None}

-- the bytes that are not yet sent, and those of them that are sent next
pub record Rest : Type 0 where
  pub bytes : List ℕ
  pub front : List ℕ

-- and whether the last response has its parts apart, so that nothing more is put out before it is sent
pub record Put : Type 0 where
  pub bytes : List ℕ
  pub front : List ℕ
  pub apart : Bool

abbrev pub head_bytes : Option (List ℕ) → List ℕ
head_bytes None = []
head_bytes (Some head) = head

-- two texts, of each of which so much was sent
abbrev pub rest_of : List ℕ → ℕ → List ℕ → ℕ → Rest
rest_of first at second on = record { bytes = drop at first ++ drop on second; front = if nat_lt at (length first) then drop at first else drop on second }

abbrev pub apart_rest : Option Rest → Rest
apart_rest None = record { bytes = []; front = [] }
apart_rest (Some rest) = rest

abbrev pub has_apart : Option Rest → Bool
has_apart None = false
has_apart (Some rest) = true

-- a text, of which so much was sent, and then the rest of a response
abbrev pub put_of : List ℕ → ℕ → Option Rest → Put
put_of texts at apart = record {
  bytes = drop at texts ++ (apart_rest apart).bytes;
  front = if nat_lt at (length texts) then drop at texts else (apart_rest apart).front;
  apart = has_apart apart;
}

-- there is something to be sent
abbrev pub HasOutput : Put → Type 0
HasOutput o = (o.bytes ≢ []) ⊎ (o.apart ≡ true)
