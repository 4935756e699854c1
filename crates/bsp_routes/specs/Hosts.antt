-- The field Host of a request (RFC 9110, 7.2; RFC 9112, 3.2). Its value is a host, with a port or without (RFC 3986, 3.2.2
-- and 3.2.3).
use Rattle.std.specs.Prelude.{ℕ, Bool, true, false, ◌&&◌, ◌||◌, ◌-◌, not, List, [], ◌∷◌, length, codes, ◌==◌, slice_index, slice_range, if◌then◌else◌, is_some}
use Rattle.std.specs.List.{list_all, list_any, before_first, after_first, before_last, after_last}
use Rattle.std.specs.Net.Reader.{read_ipv6, whole_value}
use Rattle.std.specs.Char.{is_ascii_alphanumeric, is_ascii_digit, is_ascii_hexdigit}

-- an unreserved character or a sub-delimiter
abbrev pub is_name_byte : ℕ → Bool
is_name_byte b = is_ascii_alphanumeric b || list_any (λ c. c == b) (codes "-._~!$&'()*+,;=")

-- two hexadecimal digits, at the front
abbrev pub begins_with_hex : List ℕ → Bool
begins_with_hex [] = false
begins_with_hex (high ∷ []) = false
begins_with_hex (high ∷ (low ∷ text)) = is_ascii_hexdigit high && is_ascii_hexdigit low

-- A registered name, which may be empty: such characters, and encoded ones, which are a percent sign and two hexadecimal
-- digits. These digits are unreserved characters themselves. An IPv4 address is such a name.
abbrev pub is_name : List ℕ → Bool
is_name [] = true
is_name (b ∷ text) = (is_name_byte b || (b == 37 && begins_with_hex text)) && is_name text

-- one byte or more, and each passes the test
abbrev pub is_filled : (ℕ → Bool) → List ℕ → Bool
is_filled test text = not (length text == 0) && list_all test text

-- An address of version 6, as the standard library reads one. Its grammar is that of RFC 4291, 2.2, and so that of RFC 3986.
abbrev pub is_address : List ℕ → Bool
is_address text = is_some (whole_value (read_ipv6 text))

abbrev pub is_later_byte : ℕ → Bool
is_later_byte b = is_name_byte b || b == 58

abbrev pub is_dot : ℕ → Bool
is_dot b = b == 46

-- a version in hexadecimal digits, a dot, and characters of names or colons
abbrev pub is_versioned : List ℕ → Bool
is_versioned text = is_filled is_ascii_hexdigit (before_first is_dot text) && is_filled is_later_byte (after_first is_dot text)

-- an IP literal, in brackets: the letter v and an address of a later version, or else an address of version 6
abbrev pub is_literal : List ℕ → Bool
is_literal text =
    let end = length text - 1 in
    (slice_index text 0 == 91 && slice_index text end == 93)
    && (if slice_index text 1 == 118 || slice_index text 1 == 86 then is_versioned (slice_range text 2 end)
    else is_address (slice_range text 1 end))

abbrev pub is_bare_host : List ℕ → Bool
is_bare_host text = is_literal text || is_name text

abbrev pub is_colon : ℕ → Bool
is_colon b = b == 58

-- a host, or a host before the last colon and a port after it: decimal digits, also none
abbrev pub is_host : List ℕ → Bool
is_host text =
    is_bare_host text
    || (list_any is_colon text && (is_bare_host (before_last is_colon text) && list_all is_ascii_digit (after_last is_colon text)))

-- the values of the Host fields are as the version asks: one that is a host, and before HTTP/1.1 also none
abbrev pub are_hosts : ℕ → List (List ℕ) → Bool
are_hosts minor [] = not (minor == 1)
are_hosts minor (value ∷ []) = is_host value
are_hosts minor (value ∷ (other ∷ more)) = false
