-- What the tallies of a period post, added up tally by tally.
use Rattle.std.proofs.Common.{◌≡◌, ℕ, ◌+◌, ◌<◌, Bool, true, false, cond, List, [], ◌∷◌, ◌++◌, map, length, take, get_or, refl, sym, ap, ◌∙◌, arith}
use Rattle.std.specs.Prelude.{ℤ, ◌+ℤ◌}
use Rattle.std.specs.List.{filter, sum_by}
use Rattle.std.proofs.lemmas.List.{map-append}
use Rattle.std.proofs.lemmas.List.Elements.{filter_more}
use Rattle.std.proofs.lemmas.List.Sums.{sum_by-append}
use Rattle.bsp_statement.proofs.NetLemmas.{net_is_sum, net_of_posting}
use Rattle.bsp_statement.proofs.SumLemmas.{add_zero, sums, sums-append, sums-cons}
use Rattle.bsp_statement.specs.Nets.{net_of_postings}
use Rattle.bsp_statement.specs.Tallies.{is_used, tally_posting, tally_postings}
use Rattle.bsp_statement.specs.declared.posting.Posting.{Posting}
use Rattle.bsp_statement.specs.declared.tally.Tally.{Tally}

append_none : {X : Type 0} (xs : List X) → xs ++ [] ≡ xs
append_none [] = refl
append_none {X} (x ∷ xs) = ap (λ (ys : List X). x ∷ ys) (append_none xs)

documents_pushed : (rows : List Posting) (p : Posting) → sum_by (λ q. q.documents) (rows ++ p ∷ []) ≡ sum_by (λ q. q.documents) rows + p.documents
documents_pushed rows p = let e = sum_by-append (λ (q : Posting). q.documents) rows (p ∷ []) in omega (arith, e)

net_pushed : (rows : List Posting) (p : Posting) → net_of_postings (rows ++ p ∷ []) ≡ net_of_postings rows +ℤ net_of_posting p
net_pushed rows p =
    net_is_sum (rows ++ p ∷ [])
    ∙ (sums-append net_of_posting rows (p ∷ [])
    ∙ (ap (λ (n : ℤ). n +ℤ sums net_of_posting (p ∷ [])) (sym (net_is_sum rows))
    ∙ ap (λ (n : ℤ). net_of_postings rows +ℤ n) (sums-cons net_of_posting p [] ∙ add_zero (net_of_posting p))))

module _ (period : ℕ) (tallies : List Tally) (i : ℕ) (t : Tally) (within : i < length tallies) (is : t ≡ get_or tallies i t) where
  postings_by : (b : Bool) → is_used period t ≡ b → tally_postings period (take (i + 1) tallies) ≡ tally_postings period (take i tallies) ++ map tally_posting (cond b (t ∷ []) [])
  postings_by b used =
      ap (map tally_posting) (filter_more (is_used period) tallies i t within)
      ∙ (map-append tally_posting (filter (is_used period) (take i tallies)) _
      ∙ ap (λ (ts : List Tally). tally_postings period (take i tallies) ++ map tally_posting ts) (ap (λ (s : Tally). cond (is_used period s) (s ∷ []) []) (sym is) ∙ ap (λ c. cond c (t ∷ []) []) used))

  used_postings : is_used period t ≡ true → tally_postings period (take (i + 1) tallies) ≡ tally_postings period (take i tallies) ++ tally_posting t ∷ []
  used_postings used = postings_by true used

  unused_postings : is_used period t ≡ false → tally_postings period (take (i + 1) tallies) ≡ tally_postings period (take i tallies)
  unused_postings unused = postings_by false unused ∙ append_none (tally_postings period (take i tallies))

  -- a tally that is used adds its documents and its net

  pub documents_more : (before after : ℕ) → is_used period t ≡ true → before ≡ sum_by (λ p. p.documents) (tally_postings period (take i tallies)) → after ≡ before + t.living → after ≡ sum_by (λ p. p.documents) (tally_postings period (take (i + 1) tallies))
  documents_more before after used was then =
      then
      ∙ (ap (λ (n : ℕ). n + t.living) was
      ∙ (sym (documents_pushed (tally_postings period (take i tallies)) (tally_posting t))
      ∙ ap (λ (ps : List Posting). sum_by (λ p. p.documents) ps) (sym (used_postings used))))

  pub net_more : (before after : ℤ) → is_used period t ≡ true → before ≡ net_of_postings (tally_postings period (take i tallies)) → after ≡ before +ℤ net_of_posting (tally_posting t) → after ≡ net_of_postings (tally_postings period (take (i + 1) tallies))
  net_more before after used was then =
      then
      ∙ (ap (λ (n : ℤ). n +ℤ net_of_posting (tally_posting t)) was
      ∙ (sym (net_pushed (tally_postings period (take i tallies)) (tally_posting t))
      ∙ ap net_of_postings (sym (used_postings used))))

  -- another adds nothing

  pub documents_kept : (before after : ℕ) → is_used period t ≡ false → before ≡ sum_by (λ p. p.documents) (tally_postings period (take i tallies)) → after ≡ before → after ≡ sum_by (λ p. p.documents) (tally_postings period (take (i + 1) tallies))
  documents_kept before after unused was then = then ∙ (was ∙ ap (λ (ps : List Posting). sum_by (λ p. p.documents) ps) (sym (unused_postings unused)))

  pub net_kept : (before after : ℤ) → is_used period t ≡ false → before ≡ net_of_postings (tally_postings period (take i tallies)) → after ≡ before → after ≡ net_of_postings (tally_postings period (take (i + 1) tallies))
  net_kept before after unused was then = then ∙ (was ∙ ap net_of_postings (sym (unused_postings unused)))
