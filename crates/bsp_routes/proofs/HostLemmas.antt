-- The cuts of a host at a last colon and at a first dot.
use Rattle.std.proofs.Common.{◌≡◌, ℕ, ◌+◌, ◌-◌, Bool, true, false, ◌&&◌, ◌||◌, not, List, [], ◌∷◌, length, take, drop, get_or, refl, sym, ap, ◌∙◌, subst, arith, ◌==◌, Some, None, Result, Ok, Err, is_ok, is_some, append-nil, ne_eqb, ◌↔◌}
use Rattle.std.specs.List.{list_all, list_any, before_first, after_first, before_last, after_last, suffix_len, position_or_len}
use Rattle.std.specs.Char.{is_ascii_hexdigit, is_ascii_digit}
use Rattle.std.proofs.Math.ListN.{drop_of_length-le}
use Rattle.std.proofs.lemmas.List.{get_or_default}
use Rattle.std.proofs.lemmas.List.Folds.{list_any_at, list_any_none}
use Rattle.std.proofs.lemmas.List.Sums.{suffix_len_is, position_or_len_is}
use Rattle.std.proofs.lemmas.Bool.{false≢true}
use Rattle.std.specs.declared.net.ipv6_addr.Ipv6Addr.{Ipv6Addr}
use Rattle.std.specs.Net.Addr.{ipv6_segments}
use Rattle.std.specs.Net.Grammar.{Parses, IsIpv6Text, IsColonHex}
use Rattle.std.specs.Net.Reader.{Read, read_ipv6, whole_value}
use Rattle.std.proofs.NetLemmas.Ipv6.{read_ipv6_sound, read_ipv6_complete, EndsGroups-nil}
use Rattle.memchr.specs.Find.{IsFirstByte, IsLastByte, is_byte}
use Rattle.bsp_routes.specs.Hosts.{is_address, is_filled, is_later_byte, is_versioned, is_dot, is_colon, is_bare_host, is_host}

and_false : (a : Bool) → (a && false) ≡ false
and_false true = refl
and_false false = refl

pub filled : (test : ℕ → Bool) (text : List ℕ) (r : Bool) → (length text == 0) ≡ false → r ≡ list_all test text → r ≡ is_filled test text
filled test text r some is = is ∙ sym (ap (λ (e : Bool). not e && list_all test text) some)

false_of : (b : Bool) → ¬ (b ≡ true) → b ≡ false
false_of true denied = absurd (denied refl)
false_of false denied = refl

no_colon : (text : List ℕ) → IsLastByte (is_byte 58) text None → list_any is_colon text ≡ false
no_colon text none = list_any_none is_colon text (λ k d below. ap is_colon (get_or_default text k d 0 below) ∙ false_of _ (none k (omega arith) below))

-- a value without a colon that is no host alone
pub alone : (text : List ℕ) → IsLastByte (is_byte 58) text None → is_bare_host text ≡ false → false ≡ is_host text
alone text none bare =
    sym (ap (λ (b : Bool). b || (list_any is_colon text && (is_bare_host (before_last is_colon text) && list_all is_ascii_digit (after_last is_colon text)))) bare
    ∙ ap (λ (b : Bool). b && (is_bare_host (before_last is_colon text) && list_all is_ascii_digit (after_last is_colon text))) (no_colon text none))

last_colon : (text : List ℕ) (i : ℕ) → IsLastByte (is_byte 58) text (Some i) → length text - suffix_len (λ b. not (is_colon b)) text ≡ i + 1
last_colon text i at =
    let below = at.0.high in
    let is = suffix_len_is (λ b. not (is_colon b)) text (i + 1) 0 (omega arith) (λ k low high. ap not (false_of _ (at.0.after k low high))) (λ _. let same : (i + 1) - 1 ≡ i = omega arith in ap (λ (n : ℕ). not (is_colon (get_or text n 0))) same ∙ ap not at.1) in
    omega arith

-- a value cut at its last colon
pub cut : (text : List ℕ) (i : ℕ) → IsLastByte (is_byte 58) text (Some i) → is_bare_host text ≡ false → is_host text ≡ (is_bare_host (take i text) && list_all is_ascii_digit (drop (i + 1) text))
cut text i at bare =
    let end = last_colon text i at in
    let same : length text - suffix_len (λ b. not (is_colon b)) text - 1 ≡ i = omega arith in
    ap (λ (b : Bool). b || (list_any is_colon text && (is_bare_host (before_last is_colon text) && list_all is_ascii_digit (after_last is_colon text)))) bare
    ∙ ap (λ (b : Bool). b && (is_bare_host (before_last is_colon text) && list_all is_ascii_digit (after_last is_colon text))) (list_any_at is_colon text i 0 at.0.high at.1)
    ∙ ap (λ (n : ℕ). is_bare_host (take n text) && list_all is_ascii_digit (after_last is_colon text)) same
    ∙ ap (λ (n : ℕ). is_bare_host (take i text) && list_all is_ascii_digit (drop n text)) end

first_dot : (text : List ℕ) (i : ℕ) → IsFirstByte (is_byte 46) text (Some i) → position_or_len is_dot text ≡ i
first_dot text i at =
    let below = at.0.high in
    position_or_len_is is_dot text i 0 (omega arith) (λ k low. false_of _ (at.0.before k (omega arith) low)) (λ _. at.1)

-- a version and its address, cut at the first dot
pub version_cut : (text : List ℕ) (i : ℕ) → IsFirstByte (is_byte 46) text (Some i) → is_versioned text ≡ (is_filled is_ascii_hexdigit (take i text) && is_filled is_later_byte (drop (i + 1) text))
version_cut text i at = ap (λ (n : ℕ). is_filled is_ascii_hexdigit (take n text) && is_filled is_later_byte (drop (n + 1) text)) (first_dot text i at)

-- without a dot there is no address
pub no_version : (text : List ℕ) → IsFirstByte (is_byte 46) text None → is_versioned text ≡ false
no_version text none =
    let end : position_or_len is_dot text ≡ length text = position_or_len_is is_dot text (length text) 0 (omega arith) (λ k below. false_of _ (none k (omega arith) below)) (λ below. absurd (omega arith)) in
    let empty : after_first is_dot text ≡ [] = drop_of_length-le text (omega arith) in
    ap (λ (l : List ℕ). is_filled is_ascii_hexdigit (before_first is_dot text) && is_filled is_later_byte l) empty ∙ and_false _

-- What a parser of addresses answers: whether the text is one, by its reader and by the grammar.
pub known : {E : Type 0} (text : List ℕ) (r : Result Ipv6Addr E) → Parses IsIpv6Text text r → is_ok r ≡ is_address text
known text (Ok a) spells =
    let reads : read_ipv6 text ≡ Some (ipv6_segments a, []) = rw append-nil at (read_ipv6_complete text (ipv6_segments a) [] spells EndsGroups-nil) in
    sym (ap (λ x. is_some (whole_value x)) reads)
known text (Err e) none = by (read_ipv6 text) refl
  where
    by : (x : Read (List ℕ)) → read_ipv6 text ≡ x → false ≡ is_some (whole_value x)
    by None is = refl
    by (Some (segments, [])) is =
        let found = read_ipv6_sound text segments [] is in
        absurd (none (record { segments = segments }) (subst (λ t. IsColonHex t segments) (sym (found.1 ∙ append-nil found.0)) found.2))
    by (Some (segments, (c ∷ rest))) is = rw (ne_eqb (length (c ∷ rest)) 0 (omega arith)) refl

pub by_grammar : {E : Type 0} (text : List ℕ) (r : Result Ipv6Addr E) → Parses IsIpv6Text text r → (is_ok r ≡ true) ↔ ((segments : List ℕ) × IsColonHex text segments)
by_grammar text (Ok a) spells = (λ _. (ipv6_segments a, spells), λ _. refl)
by_grammar text (Err e) none = (λ is. absurd (false≢true is), λ h. absurd (none (record { segments = h.0 }) h.1))
