-- The closed periods of a plan, closed one after another.
use Rattle.std.proofs.Common.{◌≡◌, ℕ, true, List, [], ◌∷◌, map, refl, sym, ap, subst, ◌∙◌, nat_cmp}
use Rattle.bsp_store_base.specs.Std.{AllByRecursion, empty, entries, FinMap, get, IsAntisymmetric, IsOk, IsTotalOrder, Ordering, Some}
use Rattle.bsp_store_base.proofs.Entries.{Close, entry_get, for_all, IsReached, Period, Published, request_answer, Rows}
use Rattle.bsp_memory_rows.specs.Tables.{rows_of}
use Rattle.bsp_memory_rows.specs.declared.tables.Tables.{Tables}
use Rattle.bsp_store_load.specs.Loading.{MayAll, after_all}
use Rattle.bsp_store_load.specs.Formed.{IsRegisteredAirline, OnEach}
use Rattle.bsp_store_load.specs.Stored.{ChangesPlan, ChangesTokens, MayClose, PutsPlan, closing}

pub record Closes (P : Period → Type 0) (es : List (ℕ × Period)) (rows : Rows) (p : Published) : Type 0 where
  pub may : MayAll closing (MayClose P) es rows
  pub after : after_all closing es rows ≡ record rows { published = p }

pub closes_all : (P : Period → Type 0) (es : List (ℕ × Period)) (rows : Rows) (p : Published) → AllByRecursion (λ e. P e.1) es → IsReached rows.published (map (λ e. Close e.1.code) es) p → Closes P es rows p
closes_all P [] rows p all reached = record { may = tt; after = ap (λ q. record rows { published = q }) (sym reached) }
closes_all P (e ∷ es) rows p all (next, accepted, reached) =
    let same : closing e rows ≡ record rows { published = next } = rw accepted refl in
    let ok : IsOk (request_answer (Close e.1.code) rows) = rw accepted refl in
    let rest = closes_all P es (record rows { published = next }) p all.1 reached in
    record {
      may = ((all.0, ok), subst (MayAll closing (MayClose P) es) (sym same) rest.may);
      after = ap (after_all closing es) same ∙ rest.after;
    }

-- what holds of each entry that is found holds of all
module _ {K X : Type 0} {R : K → K → Ordering} (o : IsTotalOrder R) (exact : IsAntisymmetric R) where
  pub of_entries : (P : K × X → Type 0) (m : FinMap R X) → ((k : K) (v : X) → get m k ≡ Some v → P (k, v)) → AllByRecursion P (entries m)
  of_entries P m each = for_all P (entries m) (λ e has. each e.0 e.1 (entry_get o exact m e.0 e.1 has))

-- one after the other changes the plan alone
pub plan_alone : (old mid new : Tables) → ChangesPlan old mid → ChangesPlan mid new → ChangesPlan old new
plan_alone old mid new first second = record {
  derived = λ is. second.derived (first.derived is);
  others = second.others ∙ ap (λ (r : Rows). record r { published = (rows_of new).published }) first.others;
}

-- the plan, and then the tokens of airlines
pub both_alone : (old mid new : Tables) → ChangesPlan old mid → ChangesTokens mid new → PutsPlan old new
both_alone old mid new first second =
    let with_plan : Published → Rows = λ q. record (rows_of old) { published = q; airlines = (rows_of new).airlines } in
    record {
      derived = λ is. second.derived (first.derived is);
      registered = λ each. second.registered (subst (OnEach IsRegisteredAirline) (sym (ap (λ (r : Rows). r.airlines) first.others)) each);
      others = second.others ∙ ap (λ (r : Rows). record r { airlines = (rows_of new).airlines }) first.others ∙ ap with_plan (sym (ap (λ (r : Rows). r.published) second.others));
    }

-- and where no airline gets a token
pub plan_and_none : (old new : Tables) → ChangesPlan old new → PutsPlan old new
plan_and_none old new first = both_alone old new new first (record { derived = λ is. is; registered = λ each. each; others = refl })

pub tokens_put : (p : Published) (tokens : FinMap nat_cmp (List ℕ)) (old mid new : Rows) → mid ≡ record old { published = p } → new ≡ record mid { airlines = new.airlines } → old.airlines ≡ empty
    → (mid.airlines ≡ empty → new.airlines ≡ tokens) → (true ≡ true) × (new ≡ record old { published = p; airlines = tokens })
tokens_put p tokens old mid new first second none put =
    let with_airlines : Rows → Rows = λ r. record r { airlines = new.airlines } in
    let with_tokens : FinMap nat_cmp (List ℕ) → Rows = λ m. record old { published = p; airlines = m } in
    (refl, second ∙ ap with_airlines first ∙ ap with_tokens (put (ap (λ (r : Rows). r.airlines) first ∙ none)))
