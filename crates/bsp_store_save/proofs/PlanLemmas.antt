-- The plan's tables after what is new in it is written.
use Rattle.bsp_store_base.proofs.Std.{◌∙◌, ◌≡◌, ◌≤◌, ap, ap₂, length, List, Result, Some, sym, take, ℕ}
use Rattle.bsp_store_base.proofs.Sqlite.{Ghosts, Held}
use Rattle.bsp_store_base.proofs.Entries.{CivilDay, dated_count, Published}
use Rattle.bsp_rows.specs.Standing.{dated}
use Rattle.bsp_store_load.specs.Content.{Content}
use Rattle.bsp_store_save.specs.Saving.{HasPlan, Saves, meta_of, meta_with, with_plan}
use Rattle.bsp_store_save.proofs.StepLemmas.{restated, under}

-- what a plan's rows are
module _ (p : Published) (now : Content) (has : HasPlan p now) where
  its_meta : now.meta ≡ Some (meta_of p)
  its_meta = sym (ap (λ (c : Content). c.meta) has)

  pub its_terms : now.terms ≡ p.terms
  its_terms = sym (ap (λ (c : Content). c.terms) has)

  pub its_rates : now.rates ≡ p.rates
  its_rates = sym (ap (λ (c : Content). c.rates) has)

  pub its_periods : now.periods ≡ p.periods
  its_periods = sym (ap (λ (c : Content). c.periods) has)

  pub its_commission_taxes : now.commission_taxes ≡ p.commission_taxes
  its_commission_taxes = sym (ap (λ (c : Content). c.commission_taxes) has)

-- a plan of which the business day and the closed periods are new
module _ (p : Published) (day : CivilDay) (closed : ℕ) (within : closed ≤ length p.periods) (now : Content) (has : HasPlan (dated p day closed) now) where
  pub dated_meta : now.meta ≡ Some (meta_with day closed)
  dated_meta = its_meta (dated p day closed) now has ∙ ap (λ n. Some (meta_with day n)) (dated_count p day closed within)

  pub dated_plan : record now { meta = Some (meta_of p) } ≡ with_plan p now
  dated_plan =
      let terms = its_terms (dated p day closed) now has in
      let rates = its_rates (dated p day closed) now has in
      let periods = its_periods (dated p day closed) now has in
      let taxes = its_commission_taxes (dated p day closed) now has in
      λ i. record now { meta = Some (meta_of p); terms = terms i; rates = rates i; periods = periods i; commission_taxes = taxes i }

-- the rows of a plan start with those of `meta`
pub meta_first : {S X E : Type 0} {g : Ghosts S} {first second : Held S} {r : Result X E} {f : Content → Content} (p : Published) {day : CivilDay} {closed : ℕ} → day ≡ p.day → closed ≡ length p.closed
    → Saves g first second r (λ c. c.meta ≡ Some (meta_with day closed)) f → Saves g first second r (HasPlan p) f
meta_first p {day = day} {closed = closed} d n it = under (HasPlan p) it (λ now has. its_meta p now has ∙ sym (ap₂ (λ (x : CivilDay) (k : ℕ). Some (meta_with x k)) d n))

-- a list of the plan, of which a front is there
pub more_saves : {S X E A : Type 0} {g : Ghosts S} {first second : Held S} (field : Content → List A) (put : List A → Content → Content) {kept all was next : List A} → kept ≡ was → all ≡ next → was ≡ take (length was) next
    → (r : Result X E) → Saves g first second r (λ c. field c ≡ take (length kept) all) (put all) → Saves g first second r (λ c. field c ≡ was) (put next)
more_saves field put same alike front r it = restated r it (λ now met. met ∙ (front ∙ ap₂ take (ap length (sym same)) (sym alike))) (λ now met i. put (alike i) now)
