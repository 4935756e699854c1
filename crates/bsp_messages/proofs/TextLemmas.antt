-- Lemmas on texts that are written piece by piece.
use Rattle.std.proofs.Common.{◌≡◌, ◌∙◌, ℕ, suc, ◌+◌, ◌%◌, ◌<◌, Bool, true, false, ◌||◌, nat_lt, zero, ◌/◌, lit<, List, [], ◌∷◌, ◌++◌, length, take, get_or, refl, sym, ap, ap₂, append_assoc, append-nil, map, codes, decimal, arith}
use Rattle.std.specs.Prelude.{Result, Ok, Err, IfOk, IsOkAnd}
use Rattle.std.specs.Global.{Vec}
use Rattle.std.specs.declared.alloc.AllocError.{AllocError}
use Rattle.std.proofs.lemmas.Bool.{lt-ltb}
use Rattle.std.proofs.lemmas.Grind.{flat_map-append}
use Rattle.std.proofs.lemmas.List.{map-append}
use Rattle.std.proofs.Math.Nat.{mod-lt}
use Rattle.std.proofs.Math.Seq.{take-suc}
use Rattle.json.specs.Print.{escape_byte, escape}
use Rattle.json.proofs.Printed.Strings.{escape_byte_plain}
use Rattle.serde_json.proofs.OnLiterals.{serde_json_on_literals}
use Rattle.serde_json.specs.Data.{Data}
use Rattle.serde_json.specs.View.{items_of}
use Rattle.serde_json.specs.Written.{comma_if, compact_text, has_float, items_text}
use Rattle.bsp_fields.specs.Decimal.{fixed_digits}
use Rattle.bsp_rules.specs.declared.verdict.Refusal.{Refusal}
use Rattle.bsp_rules.specs.declared.verdict.Refusal.TheVariants.{UnknownAirline, WrongAgent, WrongCheckDigit, NotYetIssued, NotInStock, NumberUsed, WrongAmounts, NoTicket, TicketEnded, NoPeriod, LimitReached, WrongAgainstTicket}
use Rattle.bsp_rules.specs.declared.verdict.Verdict.{Verdict}
use Rattle.bsp_rules.specs.declared.verdict.Verdict.TheVariants.{Held, Accepted, Refused}
use Rattle.bsp_messages.specs.Answers.{list_object, verdict_of, verdict_object, verdicts_from}
use Rattle.bsp_messages.specs.VerdictTexts.{outcome_text}

-- three texts behind another
pub appended : (old a b c one two three : List ℕ) → one ≡ old ++ a → two ≡ one ++ b → three ≡ two ++ c → three ≡ old ++ (a ++ (b ++ c))
appended old a b c one two three h k l =
    l ∙ ap (λ t. t ++ c) (k ∙ ap (λ t. t ++ b) h) ∙ append_assoc (old ++ a) b c ∙ append_assoc old a (b ++ c)

-- ---- strings of digits are written as they are

escape_digit : (n : ℕ) → escape_byte (48 + n % 10) ≡ (48 + n % 10) ∷ []
escape_digit n =
    let small : n % 10 < 10 = mod-lt n (lit< tt) in
    escape_byte_plain (48 + n % 10) (λ e. omega (arith, e)) (λ e. omega (arith, e, small)) (omega arith)

pub escape-fixed_digits : (width n : ℕ) → escape (fixed_digits width n) ≡ fixed_digits width n
escape-fixed_digits zero n = refl
escape-fixed_digits (suc width) n =
    flat_map-append escape_byte (fixed_digits width (n / 10)) ((48 + n % 10) ∷ [])
    ∙ ap₂ (λ (a b : List ℕ). a ++ b) (escape-fixed_digits width (n / 10)) (ap (λ (t : List ℕ). t ++ []) (escape_digit n))

-- ---- the objects of verdicts

accepted_text : (number_of : ℕ) (period : List ℕ) → escape period ≡ period →
    compact_text (verdict_of number_of period (codes "accepted")) ≡ codes "{\"n\":" ++ (decimal number_of ++ (codes ",\"period\":\"" ++ (period ++ codes "\",\"verdict\":\"accepted\"}")))
unfolding serde_json_on_literals
accepted_text number_of period h =
    rw h (ap (λ (t : List ℕ). codes "{\"n\":" ++ (decimal number_of ++ (codes ",\"period\":\"" ++ t))) (append_assoc period (34 ∷ []) (codes ",\"verdict\":\"accepted\"}")))

held_text : (number_of : ℕ) (period : List ℕ) → escape period ≡ period →
    compact_text (verdict_of number_of period (codes "held")) ≡ codes "{\"n\":" ++ (decimal number_of ++ (codes ",\"period\":\"" ++ (period ++ codes "\",\"verdict\":\"held\"}")))
unfolding serde_json_on_literals
held_text number_of period h =
    rw h (ap (λ (t : List ℕ). codes "{\"n\":" ++ (decimal number_of ++ (codes ",\"period\":\"" ++ t))) (append_assoc period (34 ∷ []) (codes ",\"verdict\":\"held\"}")))

refused_text : (number_of : ℕ) (refusal : Refusal) →
    compact_text (verdict_object number_of (Refused refusal)) ≡ codes "{\"n\":" ++ (decimal number_of ++ outcome_text (Refused refusal))
unfolding serde_json_on_literals
refused_text number_of UnknownAirline = refl
refused_text number_of WrongAgent = refl
refused_text number_of WrongCheckDigit = refl
refused_text number_of NotYetIssued = refl
refused_text number_of NotInStock = refl
refused_text number_of NumberUsed = refl
refused_text number_of WrongAmounts = refl
refused_text number_of NoTicket = refl
refused_text number_of TicketEnded = refl
refused_text number_of NoPeriod = refl
refused_text number_of LimitReached = refl
refused_text number_of WrongAgainstTicket = refl

-- the object of a verdict: its beginning, its number, and what follows it
pub verdict_text : (number_of : ℕ) (verdict : Verdict) → compact_text (verdict_object number_of verdict) ≡ codes "{\"n\":" ++ (decimal number_of ++ outcome_text verdict)
verdict_text number_of (Accepted period) = accepted_text number_of (fixed_digits 5 period) (escape-fixed_digits 5 period)
verdict_text number_of (Held period) = held_text number_of (fixed_digits 5 period) (escape-fixed_digits 5 period)
verdict_text number_of (Refused refusal) = refused_text number_of refusal

-- ---- lists that are written item by item

-- the items, with a comma before each but the first; before the first, too, where others stand before them
abbrev pub items_so_far : Bool → List Data → List ℕ
items_so_far later [] = []
items_so_far later (d ∷ ds) = comma_if later ++ (compact_text d ++ items_so_far true ds)

pub items_text-so_far : (later : Bool) (ds : List Data) → items_text later (items_of ds) ≡ items_so_far later ds ++ 93 ∷ []
items_text-so_far later [] = refl
items_text-so_far later (d ∷ ds) =
    ap (λ (t : List ℕ). comma_if later ++ (compact_text d ++ t)) (items_text-so_far true ds)
    ∙ ap (λ (t : List ℕ). comma_if later ++ t) (sym (append_assoc (compact_text d) (items_so_far true ds) (93 ∷ [])))
    ∙ sym (append_assoc (comma_if later) (compact_text d ++ items_so_far true ds) (93 ∷ []))

pub one_item_more : (later : Bool) (ds : List Data) (d : Data) →
    items_so_far later (ds ++ d ∷ []) ≡ items_so_far later ds ++ (comma_if (later || nat_lt 0 (length ds)) ++ compact_text d)
one_item_more false [] d = ap (λ (t : List ℕ). t) (append-nil (compact_text d))
one_item_more true [] d = ap (λ (t : List ℕ). 44 ∷ t) (append-nil (compact_text d))
one_item_more false (e ∷ ds) d =
    ap (λ (t : List ℕ). compact_text e ++ t) (one_item_more true ds d)
    ∙ sym (append_assoc (compact_text e) (items_so_far true ds) (44 ∷ compact_text d))
    ∙ ap (λ (b : Bool). (compact_text e ++ items_so_far true ds) ++ (comma_if b ++ compact_text d)) (sym (lt-ltb 0 (suc (length ds)) (omega arith)))
one_item_more true (e ∷ ds) d =
    ap (λ (t : List ℕ). 44 ∷ (compact_text e ++ t)) (one_item_more true ds d)
    ∙ ap (λ (t : List ℕ). 44 ∷ t) (sym (append_assoc (compact_text e) (items_so_far true ds) (44 ∷ compact_text d)))

-- a comma where items stand before, and one more item
pub list_more : (front : List ℕ) (ds : List Data) (d : Data) (index : ℕ) (text comma item : List ℕ) → length ds ≡ index →
    text ≡ front ++ items_so_far false ds → comma ≡ text ++ comma_if (nat_lt 0 index) → item ≡ comma ++ compact_text d →
    item ≡ front ++ items_so_far false (ds ++ d ∷ [])
list_more front ds d index text comma item long h k l =
    l ∙ ap (λ (t : List ℕ). t ++ compact_text d) (k ∙ ap₂ (λ (t : List ℕ) (n : ℕ). t ++ comma_if (nat_lt 0 n)) h (sym long))
    ∙ append_assoc (front ++ items_so_far false ds) (comma_if (nat_lt 0 (length ds))) (compact_text d)
    ∙ append_assoc front (items_so_far false ds) (comma_if (nat_lt 0 (length ds)) ++ compact_text d)
    ∙ ap (λ (t : List ℕ). front ++ t) (sym (one_item_more false ds d))

-- an object of one list, whose key is written as it is
whole_from : (front : List ℕ) (ds : List Data) → front ++ (items_text false (items_of ds) ++ codes "}") ≡ (front ++ items_so_far false ds) ++ codes "]}"
whole_from front ds =
    ap (λ (t : List ℕ). front ++ (t ++ codes "}")) (items_text-so_far false ds)
    ∙ ap (λ (t : List ℕ). front ++ t) (append_assoc (items_so_far false ds) (93 ∷ []) (codes "}"))
    ∙ sym (append_assoc front (items_so_far false ds) (codes "]}"))

pub results_whole : (ds : List Data) → compact_text (list_object (codes "results") ds) ≡ (codes "{\"results\":[" ++ items_so_far false ds) ++ codes "]}"
unfolding serde_json_on_literals
results_whole ds = whole_from (codes "{\"results\":[") ds

pub ranges_whole : (ds : List Data) → compact_text (list_object (codes "ranges") ds) ≡ (codes "{\"ranges\":[" ++ items_so_far false ds) ++ codes "]}"
unfolding serde_json_on_literals
ranges_whole ds = whole_from (codes "{\"ranges\":[") ds

pub memos_whole : (ds : List Data) → compact_text (list_object (codes "memos") ds) ≡ (codes "{\"memos\":[" ++ items_so_far false ds) ++ codes "]}"
unfolding serde_json_on_literals
memos_whole ds = whole_from (codes "{\"memos\":[") ds

verdicts_from-more : (n : ℕ) (vs : List Verdict) (i : ℕ) (v : Verdict) → i < length vs → verdicts_from n (take (suc i) vs) ≡ verdicts_from n (take i vs) ++ verdict_object (n + i) (get_or vs i v) ∷ []
verdicts_from-more n [] i v h = absurd (omega (arith, h))
verdicts_from-more n (x ∷ vs) zero v h =
    let same : n ≡ n + 0 = omega arith in
    ap (λ (k : ℕ). verdict_object k x ∷ []) same
verdicts_from-more n (x ∷ vs) (suc i) v h =
    let rest = verdicts_from-more (n + 1) vs i v (omega (arith, h)) in
    let same : (n + 1) + i ≡ n + suc i = omega arith in
    ap (λ (r : List Data). verdict_object n x ∷ r) (rest ∙ ap (λ (k : ℕ). verdicts_from (n + 1) (take i vs) ++ verdict_object k (get_or vs i v) ∷ []) same)

pub one_verdict_more : (vs : List Verdict) (i : ℕ) (v : Verdict) → i < length vs → verdicts_from 1 (take (i + 1) vs) ≡ verdicts_from 1 (take i vs) ++ verdict_object (i + 1) (get_or vs i v) ∷ []
one_verdict_more vs i v h =
    let same : 1 + i ≡ i + 1 = omega arith in
    let next : i + 1 ≡ suc i = omega arith in
    ap (λ (k : ℕ). verdicts_from 1 (take k vs)) next ∙ verdicts_from-more 1 vs i v h ∙ ap (λ (k : ℕ). verdicts_from 1 (take i vs) ++ verdict_object k (get_or vs i v) ∷ []) same

pub length-verdicts_from : (n : ℕ) (vs : List Verdict) → length (verdicts_from n vs) ≡ length vs
length-verdicts_from n [] = refl
length-verdicts_from n (v ∷ vs) = ap suc (length-verdicts_from (n + 1) vs)

pub one_object_more : {A : Type 0} (f : A → Data) (xs : List A) (i : ℕ) (x : A) → i < length xs → map f (take (i + 1) xs) ≡ map f (take i xs) ++ f (get_or xs i x) ∷ []
one_object_more f xs i x h =
    let next : i + 1 ≡ suc i = omega arith in
    ap (λ (k : ℕ). map f (take k xs)) next ∙ ap (map f) (take-suc xs i x h) ∙ map-append f (take i xs) (get_or xs i x ∷ [])

-- ---- a text that was written, or for which there was no room

pub written_text : (written : Result (Vec ℕ) AllocError) (text front wanted : List ℕ) → IfOk written (λ item. item.items ≡ wanted) → IsOkAnd written (λ item. text ≡ front ++ item.items) → text ≡ front ++ wanted
written_text (Ok item) text front wanted is pushed = pushed ∙ ap (λ (t : List ℕ). front ++ t) is
written_text (Err e) text front wanted is pushed = absurd pushed

-- the text of data without a float
pub plain_text : {E : Type 0} (r : Result (Vec ℕ) E) (d shown : Data) → d ≡ shown → has_float shown ≡ false → IfOk r (λ b. has_float d ≡ false → b.items ≡ compact_text d) → IfOk r (λ b. b.items ≡ compact_text shown)
plain_text (Ok b) d shown is plain text = text (ap has_float is ∙ plain) ∙ ap compact_text is
plain_text (Err e) d shown is plain text = tt
