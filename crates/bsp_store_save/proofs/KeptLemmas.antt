-- How many of a plan's airlines were published at the last commit.
use Rattle.bsp_store_base.proofs.Std.{◌∙◌, ◌≡◌, ◌≤◌, ap, arith, length, length-take, List, sym, take, take_all, ℕ}

module _ (n : ℕ) (front was ps : List ℕ) (count : n ≡ length front) (same : front ≡ was) where
  its_length : n ≡ length was
  its_length = count ∙ ap length same

  -- all of them
  module _ (alike : was ≡ ps) where
    pub all_kept : ps ≡ take n ps
    all_kept = let long = its_length ∙ ap length alike in sym (take_all n ps (omega (arith, long)))

    pub all_within : n ≤ length ps
    all_within = let long = its_length ∙ ap length alike in omega (arith, long)

  -- a front of them
  module _ (is : was ≡ take (length was) ps) where
    pub front_kept : was ≡ take n ps
    front_kept = is ∙ ap (λ k. take k ps) (sym its_length)

    pub front_count : n ≤ length ps
    front_count = let long = its_length in let within = ap length is ∙ length-take (length was) ps in omega (arith, long, within)
