use Rattle.bsp_store_base.proofs.Std.{[], ◌+◌, ◌<◌, ◌∙◌, ◌∷◌, ◌≡◌, ◌≤◌, AllByRecursion, ap, arith, Bool, both_ways, false, FinMap, is_err, length, length-map, List, map, nat_cmp, none-some, Option, refl, Result, rules, Some, subst, suc, sym, take, take-map, true, zero, ℕ}
use Rattle.bsp_store_base.proofs.Entries.{after_request, change_or_fault, CivilDay, Close, closed_within, if_ok, is_held, IsReached, Period, plan_left, PlanFault, Published, request_answer, Rows, same_Some, SetDay}
use Rattle.bsp_rows.specs.SoundPlan.{IsSoundPlan}
use Rattle.bsp_store_load.specs.Stored.{AreRowsOfPlan, IsFormedPlan, MayClose, closing}
use Rattle.bsp_memory_rows.specs.Tables.{rows_of}
use Rattle.bsp_store_load.proofs.CloseLemmas.{closes_all}
use Rattle.sqlite_value.specs.Order.{Row}
use Rattle.bsp_rows.specs.Change.{Change}
use Rattle.bsp_rows.specs.Standing.{first_codes}
use Rattle.bsp_store_base.proofs.Base.{IsMeta, IsPeriod, Meta, meta_rows, period_row, placed}
use Rattle.bsp_store_load.specs.Loading.{MayAll, after_all}
use Rattle.bsp_store_load.specs.declared.plan_rows.PlanRows.{PlanRows}
use Rattle.bsp_store_load.proofs.PlanReads.{length-placed}
use Rattle.bsp_store_load.proofs.published.move_on.Goals as goal

first_closes : (n before : ℕ) (qs : List Period) → map (λ (e : ℕ × Period). Close e.1.code) (take n (placed before qs)) ≡ map (λ code. Close code) (first_codes qs n)
first_closes zero before qs = refl
first_closes (suc n) before [] = refl
first_closes (suc n) before (q ∷ qs) = ap (λ l. Close q.code ∷ l) (first_closes n (before + 1) qs)

first_all : (P : Period → Type 0) (n before : ℕ) (qs : List Period) → AllByRecursion P qs → AllByRecursion (λ (e : ℕ × Period). P e.1) (take n (placed before qs))
first_all P zero before qs all = tt
first_all P (suc n) before [] all = tt
first_all P (suc n) before (q ∷ qs) all = (all.0, first_all P n (before + 1) qs all.1)

module _ (p : Published) (tokens : FinMap nat_cmp (List ℕ)) (s : IsSoundPlan p) (formed : IsFormedPlan p tokens) (stored : PlanRows) (are : AreRowsOfPlan p tokens stored) where
  meta_read : (rows : List Row) (o : Option Meta) → rows ≡ stored.meta.items → ((meta : Meta) → IsMeta meta → rows ≡ meta_rows (Some meta) → o ≡ Some meta) → o ≡ Some (record { day = p.day; closed = length p.closed })
  meta_read rows o same reads = reads (record { day = p.day; closed = length p.closed }) (formed.day, formed.closed) (same ∙ are.meta)

  meta_is : (rows : List Row) (o : Option Meta) (day : CivilDay) (closed : ℕ) → rows ≡ stored.meta.items → ((meta : Meta) → IsMeta meta → rows ≡ meta_rows (Some meta) → o ≡ Some meta) → o ≡ Some (record { day = day; closed = closed })
      → (day ≡ p.day) × (closed ≡ length p.closed)
  meta_is rows o day closed same reads is =
      let given : Meta = record { day = day; closed = closed } in
      let both : given ≡ record { day = p.day; closed = length p.closed } = same_Some given _ (sym is ∙ meta_read rows o same reads) in
      (ap (λ (m : Meta). m.day) both, ap (λ (m : Meta). m.closed) both)

  few_closed : length p.closed ≤ length stored.periods.items
  few_closed =
      let within = closed_within p s in
      let long : length stored.periods.items ≡ length p.periods = ap length are.periods ∙ length-map (placed 0 p.periods) period_row ∙ length-placed 0 p.periods in
      omega arith

  module _ (old : Rows) (reached : IsReached old.published (SetDay p.day ∷ map (λ code. Close code) p.closed) p) where
    day_set : (day : CivilDay) (answer : Result Change PlanFault) → day ≡ p.day → answer ≡ request_answer (SetDay day) old → is_err answer ≡ false
    day_set day answer same told =
        ap is_err told ∙ ap (λ d. is_err (request_answer (SetDay d) old)) same ∙ ap (λ r. is_err (change_or_fault (is_held old.published (SetDay p.day)) r)) reached.1

    all_closed : (day : CivilDay) (n : ℕ) (mid new : Rows) (list : List Row) (done : Bool) → day ≡ p.day → mid ≡ after_request (SetDay day) old → list ≡ stored.periods.items
        → ((es : List (ℕ × Period)) → MayAll closing (MayClose IsPeriod) es mid → take n list ≡ map period_row es → (done ≡ true) × (new ≡ after_all closing es mid)) → n ≡ length p.closed → (done ≡ true) × (new ≡ record old { published = p })
    all_closed day n mid new list done same after all put count =
        let es : List (ℕ × Period) = take (length p.closed) (placed 0 p.periods) in
        let left_by : Result Published PlanFault → Rows = λ r. record old { published = plan_left old.published r } in
        let with_plan : Rows → Rows = λ r. record r { published = p } in
        let at_day : mid ≡ after_request (SetDay p.day) old = after ∙ ap (λ d. after_request (SetDay d) old) same in
        let mid_is : mid ≡ record old { published = reached.0 } = at_day ∙ ap left_by reached.1 in
        let requests : map (λ (e : ℕ × Period). Close e.1.code) es ≡ map (λ code. Close code) p.closed = first_closes (length p.closed) 0 p.periods ∙ ap (map (λ code. Close code)) (sym s.closed_first) in
        let left : IsReached mid.published (map (λ (e : ℕ × Period). Close e.1.code) es) p =
        subst (λ q. IsReached q (map (λ (e : ℕ × Period). Close e.1.code) es) p) (ap (λ (r : Rows). r.published) (sym mid_is)) (subst (λ rs. IsReached reached.0 rs p) (sym requests) reached.2) in
        let closes = closes_all IsPeriod es mid p (first_all IsPeriod (length p.closed) 0 p.periods formed.periods) left in
        let list_is : take n list ≡ map period_row es = ap (take n) all ∙ ap (λ k. take k stored.periods.items) count ∙ ap (take (length p.closed)) are.periods ∙ take-map period_row (length p.closed) (placed 0 p.periods) in
        let it = put es closes.may list_is in
        (it.0, it.1 ∙ closes.after ∙ ap with_plan mid_is)

pub returns-in_default-clause-plan : goal.returns-in_default-clause-plan
returns-in_default-clause-plan c = λ p tokens s formed are reached.
    let some = meta_read p tokens s formed c.args.rows.now are c.deref.result.now c.meta_in.result c.deref.ensures.value c.meta_in.ensures in
    absurd (none-some _ (sym c.in_default.is ∙ some))

pub returns-then-meta-periods-clause-plan : goal.returns-then-meta-periods-clause-plan
returns-then-meta-periods-clause-plan c = λ p tokens s formed are reached.
    let meta = meta_is p tokens s formed c.args.rows.now are c.deref.result.now c.meta_in.result c.in-Some.meta.day c.in-Some.meta.closed c.deref.ensures.value c.meta_in.ensures c.in-Some.is in
    let past : length c.as_slice-periods.result.now < c.in-Some.meta.closed = search rules in
    let few = few_closed p tokens s formed c.args.rows.now are in
    let long : length c.as_slice-periods.result.now ≡ length c.args.rows.now.periods.items = ap length c.as_slice-periods.ensures.value in
    absurd (omega (arith, meta.1))

pub returns-then-is_err-clause-plan : goal.returns-then-is_err-clause-plan
returns-then-is_err-clause-plan c = λ p tokens s formed are reached.
    let meta = meta_is p tokens s formed c.args.rows.now are c.deref.result.now c.meta_in.result c.in-Some.meta.day c.in-Some.meta.closed c.deref.ensures.value c.meta_in.ensures c.in-Some.is in
    let told : c.in_ok-set_day.field-0 ≡ request_answer (SetDay c.in-Some.meta.day) (rows_of c.args.tables.now) = search rules in
    let set : is_err c.in_ok-set_day.field-0 ≡ false = day_set p tokens s formed c.args.rows.now are (rows_of c.args.tables.now) reached c.in-Some.meta.day c.in_ok-set_day.field-0 meta.0 told in
    absurd (both_ways _ (c.is_err.ensures.value ∙ set) c.if-is_err.true)

pub returns-clause-plan : goal.returns-clause-plan
returns-clause-plan c =
    let set : rows_of c.set_day.new.self ≡ after_request (SetDay c.in-Some.meta.day) (rows_of c.args.tables.now) = search rules in
    if_ok c.close_periods.result
    (λ done put p tokens s formed are reached.
    let meta = meta_is p tokens s formed c.args.rows.now are c.deref.result.now c.meta_in.result c.in-Some.meta.day c.in-Some.meta.closed c.deref.ensures.value c.meta_in.ensures c.in-Some.is in
    all_closed p tokens s formed c.args.rows.now are (rows_of c.args.tables.now) reached c.in-Some.meta.day _ (rows_of c.set_day.new.self) (rows_of c.close_periods.new.tables) c.as_slice-periods.result.now done
    meta.0 set c.as_slice-periods.ensures.value put (search (rules, meta.1)))
    c.close_periods.ensures.entries
