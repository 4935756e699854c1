-- What a commit writes, part by part, is what is in memory.
use Rattle.bsp_store_base.proofs.Std.{◌∙◌, ◌≡◌, ap, FinMap, List, nat_cmp, refl, Result, subst, sym, ℕ}
use Rattle.bsp_store_base.proofs.Sqlite.{Ghosts, Held}
use Rattle.bsp_memory_tables.specs.ItemTables.{item_rows_before}
use Rattle.bsp_memory_tables.specs.TallyTables.{tally_rows_before}
use Rattle.bsp_rows.specs.Published.{Published}
use Rattle.bsp_store_base.proofs.Base.{airline_entries, Content}
use Rattle.bsp_store_load.specs.MemoryRowsTables.{committed_rows}
use Rattle.bsp_store_load.specs.Plans.{plan_before}
use Rattle.bsp_store_load.specs.SavedPlan.{SavedPlan}
use Rattle.bsp_store_load.specs.Tables.{Tables}
use Rattle.bsp_store_load.specs.Contents.{content_before}
use Rattle.bsp_store_save.proofs.AirlineSteps.{has_airlines, with_airlines}
use Rattle.bsp_store_save.specs.Saving.{HasCallers, HasDocuments, HasItems, HasPlan, HasTallies, Saves, with_callers, with_plan}
use Rattle.bsp_store_save.proofs.StepLemmas.{restated}

-- what the content at the last commit has
pub has_plan : (t : Tables) (now : Content) → now ≡ content_before t → HasPlan (committed_rows t).published now
has_plan t now is = subst (HasPlan (committed_rows t).published) (sym is) refl

pub has_callers : (t : Tables) (p : Published) (now : Content) → now ≡ content_before t → HasCallers t (with_plan p now)
has_callers t p now is = record { agents = ap (λ (c : Content). c.agents) is; airlines = ap (λ (c : Content). c.airlines) is; ranges = ap (λ (c : Content). c.ranges) is }

its_items : (t : Tables) (now : Content) → now ≡ content_before t → HasItems (item_rows_before t.items) now
its_items t now is = subst (HasItems (item_rows_before t.items)) (sym is) refl

its_tallies : (t : Tables) (now : Content) → now ≡ content_before t → HasTallies (tally_rows_before t.tallies) now
its_tallies t now is = subst (HasTallies (tally_rows_before t.tallies)) (sym is) refl

pub has_documents : (t : Tables) (p : Published) (now : Content) → now ≡ content_before t → HasDocuments t (with_callers t (with_plan p now))
has_documents t p now is = record {
  items = ap (λ (c : Content). with_callers t (with_plan p c)) (its_items t now is);
  memos = ap (λ (c : Content). c.memos) is;
  tallies = ap (λ (c : Content). with_callers t (with_plan p c)) (its_tallies t now is);
}

-- what writing the plan does, said of the plan and of what it was
pub plan_saves : {S X E : Type 0} {g : Ghosts S} {first second : Held S} {r : Result X E} {p q before : Published} (s : SavedPlan) → p ≡ q → before ≡ plan_before q s → Saves g first second r (HasPlan (plan_before p s)) (with_plan p) → Saves g first second r (HasPlan before) (with_plan q)
plan_saves {g = g} {first = first} {second = second} {r = r} {q = q} s same was it =
    subst (λ (x : Published). Saves g first second r (HasPlan x) (with_plan q)) (sym was)
    (subst (λ (x : Published). Saves g first second r (HasPlan (plan_before x s)) (with_plan x)) same it)

-- what writing the airlines does, said of the plan and of what it was
pub airlines_save : {S X E : Type 0} {g : Ghosts S} {first second : Held S} {p q was : Published} (s : SavedPlan) (old_tokens tokens : FinMap nat_cmp (List ℕ)) (r : Result X E) → p ≡ q → was ≡ plan_before q s
    → Saves g first second r (has_airlines (plan_before p s).airlines old_tokens) (with_airlines p.airlines tokens) → Saves g first second r (has_airlines was.airlines old_tokens) (with_airlines q.airlines tokens)
airlines_save s old_tokens tokens r same is it =
    restated r it
    (λ now met. met ∙ ap (λ (x : Published). airline_entries x.airlines old_tokens) (is ∙ ap (λ (x : Published). plan_before x s) (sym same)))
    (λ now met. ap (λ (x : Published). with_airlines x.airlines tokens now) same)
