-- Lemmas on what is printed of a RET file that a desk judges.
use Rattle.std.proofs.Common.{◌≡◌, ℕ, zero, suc, ◌+◌, ◌<◌, ◌≤◌, List, [], ◌∷◌, ◌++◌, length, get_or, take, map, ap, ◌∙◌, sym, append_assoc, append-nil, arith}
use Rattle.std.specs.Prelude.{ℤ, pos, ◌+ℤ◌, Option, Result, Ok, Err, IfOk}
use Rattle.std.proofs.lemmas.List.{map_push, take_all, take_more}
use Rattle.std.proofs.lemmas.List.Sums.{fold-append}
use Rattle.bsp_rules.specs.Amounts.{sum_of}
use Rattle.bsp_rules.specs.declared.verdict.Verdict.{Verdict}
use Rattle.bsp_statement.proofs.NetLemmas.{net_is_sum, net_of_posting}
use Rattle.bsp_statement.specs.Nets.{net_of_postings}
use Rattle.bsp_statement.specs.Tallies.{tally_posting}
use Rattle.bsp_statement.specs.declared.posting.Posting.{Posting}
use Rattle.bsp_statement.specs.declared.tally.Tally.{Tally}
use Rattle.bsp_rows.specs.Rows.{Rows}
use Rattle.bsp_rows.specs.Tallies.{tallies_of}
use Rattle.bsp_rows.specs.declared.questions.Tallies.TheVariants.{OfAgent}
use Rattle.bsp_book.specs.Listed.{meaning}
use Rattle.bsp_book.specs.declared.list.ListBook.{ListBook}
use Rattle.bsp_judge.specs.Judged.{owed, verdict_line, verdict_lines}

-- ---- verdicts

verdict_next : (n : ℕ) (vs : List Verdict) (i : ℕ) (v : Verdict) → i < length vs → verdict_lines n (take (suc i) vs) ≡ verdict_lines n (take i vs) ++ verdict_line (n + i) (get_or vs i v)
verdict_next n [] i v below = absurd (omega (arith, below))
verdict_next n (x ∷ vs) zero v below =
    let same : n + 0 ≡ n = omega arith in
    append-nil (verdict_line n x) ∙ ap (λ (k : ℕ). verdict_line k x) (sym same)
verdict_next n (x ∷ vs) (suc i) v below =
    let place : (n + 1) + i ≡ n + suc i = omega arith in
    ap (λ (l : List ℕ). verdict_line n x ++ l) (verdict_next (n + 1) vs i v (omega arith) ∙ ap (λ (k : ℕ). verdict_lines (n + 1) (take i vs) ++ verdict_line k (get_or vs i v)) place)
    ∙ sym (append_assoc (verdict_line n x) (verdict_lines (n + 1) (take i vs)) (verdict_line (n + suc i) (get_or vs i v)))

-- one more line
pub verdict_more : (vs : List Verdict) (i number : ℕ) (v : Verdict) (start before after : List ℕ) → i < length vs → v ≡ get_or vs i v → number ≡ i + 1 → before ≡ start ++ verdict_lines 1 (take i vs) → after ≡ before ++ verdict_line number v
    → after ≡ start ++ verdict_lines 1 (take (i + 1) vs)
verdict_more vs i number v start before after below is count so_far more =
    let place : number ≡ 1 + i = omega arith in
    let next : i + 1 ≡ suc i = omega arith in
    let line : verdict_line number v ≡ verdict_line (1 + i) (get_or vs i v) = ap (λ (k : ℕ). verdict_line k v) place ∙ ap (λ (x : Verdict). verdict_line (1 + i) x) is in
    more
    ∙ ap (λ (l : List ℕ). l ++ verdict_line number v) so_far
    ∙ append_assoc start (verdict_lines 1 (take i vs)) (verdict_line number v)
    ∙ ap (λ (l : List ℕ). start ++ l) (ap (λ (l : List ℕ). verdict_lines 1 (take i vs) ++ l) line ∙ sym (verdict_next 1 vs i v below) ∙ ap (λ (k : ℕ). verdict_lines 1 (take k vs)) (sym next))

pub verdict_all : (vs : List Verdict) (i : ℕ) (start now : List ℕ) → length vs ≤ i → now ≡ start ++ verdict_lines 1 (take i vs) → now ≡ start ++ verdict_lines 1 vs
verdict_all vs i start now past so_far = so_far ∙ ap (λ (l : List Verdict). start ++ verdict_lines 1 l) (take_all i vs past)

-- ---- nets

net_push : (ps : List Posting) (p : Posting) → net_of_postings (ps ++ p ∷ []) ≡ net_of_postings ps +ℤ net_of_posting p
net_push ps p =
    net_is_sum (ps ++ p ∷ [])
    ∙ ap sum_of (map_push net_of_posting ps p)
    ∙ fold-append ◌+ℤ◌ (pos 0) (map net_of_posting ps) (net_of_posting p ∷ [])
    ∙ ap (λ (z : ℤ). z +ℤ net_of_posting p) (sym (net_is_sum ps))

-- with one more tally
pub net_next : (ts : List Tally) (i : ℕ) (t : Tally) (before after net : ℤ) → i < length ts → t ≡ get_or ts i t → before ≡ net_of_postings (map tally_posting (take i ts)) → net ≡ net_of_posting (tally_posting t) → after ≡ before +ℤ net
    → after ≡ net_of_postings (map tally_posting (take (i + 1) ts))
net_next ts i t before after net below is so_far posted sum =
    let list : map tally_posting (take (i + 1) ts) ≡ map tally_posting (take i ts) ++ tally_posting t ∷ [] =
    ap (map tally_posting) (take_more ts i t below ∙ ap (λ (y : Tally). take i ts ++ y ∷ []) (sym is)) ∙ map_push tally_posting (take i ts) t in
    sum
    ∙ ap (λ (z : ℤ). z +ℤ net) so_far
    ∙ ap (λ (z : ℤ). net_of_postings (map tally_posting (take i ts)) +ℤ z) posted
    ∙ sym (net_push (map tally_posting (take i ts)) (tally_posting t))
    ∙ ap net_of_postings (sym list)

-- what an agent owes is the net of its tallies
pub owed_is : (net : ℤ) (agent : ℕ) (book : ListBook) (ts : List Tally) → net ≡ net_of_postings (map tally_posting ts)
    → ((rows : Rows) (begun : Option Rows) → meaning.holds book rows begun → ts ≡ tallies_of (OfAgent agent) rows)
    → (rows : Rows) (begun : Option Rows) → meaning.holds book rows begun → net ≡ owed agent rows
unfolding owed
owed_is net agent book ts is are = λ rows begun holds. is ∙ ap (λ (l : List Tally). net_of_postings (map tally_posting l)) (are rows begun holds)

-- ---- what is said of a file

pub if_said : {X E : Type 0} {P Q : X → Type 0} (r : Result X E) → ((x : X) → P x → Q x) → IfOk r P → IfOk r Q
if_said (Ok x) gives is = gives x is
if_said (Err e) gives is = tt
