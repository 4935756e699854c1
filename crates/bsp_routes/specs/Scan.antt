-- Where the head at the front of a text ends.
use Rattle.std.specs.Prelude.{◌≡◌, ℕ, ◌+◌, Bool, false, ◌&&◌, ◌||◌, not, List, [], ◌∷◌, ◌++◌, length, if◌then◌else◌, ◌==◌, nat_lt, Option, Some, None}
use Rattle.std.specs.Option.{option_map}
use Rattle.bsp_routes.specs.declared.scan.Scan.{Scan}

-- what a line has so far: nothing, one CR, or more
abbrev pub after_byte : ℕ → ℕ → ℕ
after_byte line b = if b == 13 && line == 0 then 1 else 2

-- what a line has so far after more bytes, none of which ends it
abbrev pub after_bytes : ℕ → List ℕ → ℕ
after_bytes line [] = line
after_bytes line (b ∷ bytes) = after_bytes (after_byte line b) bytes

-- where the first empty line ends that comes after a line that is not empty; a line ends by LF or CR LF
abbrev pub head_len_from : Bool → ℕ → List ℕ → Option ℕ
head_len_from seen line [] = None
head_len_from seen line (b ∷ bytes) =
    if b == 10 then (if seen && nat_lt line 2 then Some 1 else option_map (λ n. n + 1) (head_len_from (seen || not (nat_lt line 2)) 0 bytes))
    else option_map (λ n. n + 1) (head_len_from seen (after_byte line b) bytes)

-- how many bytes the head at the front has, its empty line and the empty lines before it counted
abbrev pub head_len : List ℕ → Option ℕ
head_len bytes = head_len_from false 0 bytes

-- what the scan answers after these bytes of a text, whatever bytes follow
abbrev pub HasScanned : List ℕ → Scan → Type 0
HasScanned bytes scan = (more : List ℕ) → head_len (bytes ++ more) ≡ option_map (λ n. length bytes + n) (head_len_from scan.seen scan.line more)
