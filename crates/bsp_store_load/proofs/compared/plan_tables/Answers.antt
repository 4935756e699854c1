use Rattle.bsp_store_base.proofs.Std.{◌∙◌, ◌≡◌, ap, both_ways, nat_cmp-IsAntisymmetric, nat_cmp_total, subst, sym}
use Rattle.bsp_rows.specs.Rows.{Rows, no_rows}
use Rattle.bsp_memory_rows.specs.Tables.{IsDerived, rows_of}
use Rattle.bsp_memory_rows.specs.declared.tables.Tables.{Tables}
use Rattle.bsp_store_load.specs.Formed.{AreWhole, IsFormedPublished, IsRegisteredAirline, OnEach}
use Rattle.bsp_store_load.specs.Stored.{PutsPlan}
use Rattle.bsp_store_load.proofs.FormedContent.{each_empty, planned_formed}
use Rattle.bsp_store_load.proofs.compared.plan_tables.Goals as goal

-- tables in which a plan and the tokens of airlines were put, and nothing else
whole : (old new : Tables) → IsDerived old → rows_of old ≡ no_rows → IsFormedPublished (rows_of new).published
    → PutsPlan old new → AreWhole new
whole old new was none plan put =
    let rows = rows_of new in
    record {
      derived = put.derived was;
      formed = planned_formed rows (put.others ∙ ap (λ (r : Rows). record r { published = rows.published; airlines = rows.airlines }) none) plan
          (put.registered (subst (OnEach IsRegisteredAirline) (sym (ap (λ (r : Rows). r.airlines) none)) (each_empty nat_cmp_total nat_cmp-IsAntisymmetric IsRegisteredAirline)));
    }

pub returns-clause-whole : goal.returns-clause-whole
returns-clause-whole c =
    whole c.new-tables.result c.put_whole_plan.new.tables c.new-tables.ensures.derived c.new-tables.ensures.rows (subst IsFormedPublished c.plan.ensures c.formed_plan.ensures) c.in_ok-put_whole_plan.ensures.puts

pub returns-clause-alone : goal.returns-clause-alone
returns-clause-alone c =
    let rows = rows_of c.put_whole_plan.new.tables in
    c.in_ok-put_whole_plan.ensures.puts.others ∙ ap (λ (r : Rows). record r { published = rows.published; airlines = rows.airlines }) c.new-tables.ensures.rows

pub returns-then-not-branch-clause-plan : goal.returns-then-not-branch-clause-plan
returns-then-not-branch-clause-plan c = λ p tokens s formed are.
    let none = c.new-tables.ensures.rows in
    let it = c.in_ok-put_whole_plan.ensures.plan p tokens s formed are (ap (λ (r : Rows). r.published) none) (ap (λ (r : Rows). r.airlines) none) in
    absurd (both_ways _ c.if-not-branch.true it.0)

pub returns-clause-plan : goal.returns-clause-plan
returns-clause-plan c = λ p tokens s formed are.
    let none = c.new-tables.ensures.rows in
    let it = c.in_ok-put_whole_plan.ensures.plan p tokens s formed are (ap (λ (r : Rows). r.published) none) (ap (λ (r : Rows). r.airlines) none) in
    it.1 ∙ ap (λ (r : Rows). record r { published = p; airlines = tokens }) none
