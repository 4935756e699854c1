-- Lemmas on why a RET file is not judged.
use Rattle.std.proofs.Common.{◌≡◌, ℕ, ◌+◌, ◌<◌, inl, inr, List, ◌++◌, get_or, length, take, map, ap, sym, subst, ◌∙◌, arith}
use Rattle.std.specs.Prelude.{Some, Result, Ok, Err, IfErr, IsErrAnd, IsOkUnless, OnOk}
use Rattle.std.specs.Global.{Vec}
use Rattle.std.specs.List.{FoldsTo}
use Rattle.std.proofs.lemmas.List.{length-map}
use Rattle.bsp_rules.specs.declared.rows.Range.{Range}
use Rattle.bsp_messages.specs.declared.refusal.RequestRefusal.{RequestRefusal}
use Rattle.bsp_rows.specs.Rows.{Rows, no_rows}
use Rattle.bsp_judge.specs.Asked.{HasFault, IsRefused, Takes, Task, caller_tasks, earlier_tasks, place_of, plan_tasks, stock_tasks, tasks}
use Rattle.bsp_judge.specs.Asked.Task.{Allot, Publish}
use Rattle.bsp_plan_trial.specs.Turns.{StopsAt}
use Rattle.bsp_judge.specs.Unjudged.{IsLeft, IsRefusedAs, IsStopIn, IsStopOf, IsUnjudged, IsUnready, IsUnstatedOver}
use Rattle.bsp_judge.specs.declared.setup.JudgeFault.{JudgeFault}
use Rattle.bsp_judge.specs.declared.setup.JudgeFault.TheVariants.{Refused, Earlier, File, UnknownPeriod, Memory}
use Rattle.bsp_judge.specs.declared.setup.Setup.{Setup}
use Rattle.bsp_judge.specs.declared.setup.Step.{Step}
use Rattle.bsp_judge.specs.declared.setup.Step.TheVariants.{Closed}
use Rattle.bsp_plan_trial.proofs.TurnLemmas.{stops_at, stops_before}
use Rattle.bsp_judge.proofs.TurnLemmas.{stops_after}

-- a fault is passed on
pub passed_on : {X E : Type 0} (P : E → Type 0) (r : Result X E) (e : E) → IsErrAnd r (λ f. f ≡ e) → P e → IfErr r P
passed_on P (Ok x) e is p = tt
passed_on P (Err f) e is p = subst P (sym is) p

-- what follows from a fault
pub if_fault : {X E : Type 0} {P Q : E → Type 0} (r : Result X E) → ((e : E) → P e → Q e) → IfErr r P → IfErr r Q
if_fault (Ok x) gives is = tt
if_fault (Err e) gives is = gives e is

-- what holds in any case, and what follows where there is no fault
pub whatever : {X E : Type 0} {P : Type 0} (r : Result X E) → P → OnOk r P
whatever (Ok x) p = p
whatever (Err e) p = tt

pub if_ok : {X E : Type 0} {P Q : Type 0} (r : Result X E) → (P → Q) → OnOk r P → OnOk r Q
if_ok (Ok x) gives is = gives is
if_ok (Err e) gives is = tt

-- a result has no fault but this one
pub unless : {X E : Type 0} (P : E → Type 0) (r : Result X E) (fault : E) → P fault → IsOkUnless r fault → IfErr r P
unless P (Ok x) fault p is = tt
unless P (Err e) fault p is = subst P (sym is) p

-- ---- a task of a trial

module _ (s : Setup) where
  -- a refusal stops it
  pub refused_stops : (step : Step) (refusal : RequestRefusal) (rows : Rows) (task : Task) (fault : JudgeFault) → IsRefusedAs step refusal fault → IsRefused refusal rows task → IsStopOf s (place_of s step) rows task fault
  refused_stops step refusal rows task (Refused r) is refused = (ap (place_of s) is.0, subst (λ (x : RequestRefusal). IsRefused x rows task) (sym is.1) refused)
  refused_stops step refusal rows task Memory is refused = tt
  refused_stops step refusal rows task (Earlier i f) is refused = absurd is
  refused_stops step refusal rows task (File f) is refused = absurd is
  refused_stops step refusal rows task UnknownPeriod is refused = absurd is

  -- one of a list stops, after those before it passed
  pub stops_one : {A : Type 0} (f : A → Task) (xs : List A) (begin : ℕ) (start state : Rows) (i : ℕ) (d v : A) → i < length xs → v ≡ get_or xs i d → FoldsTo Takes start (map f (take i xs)) state → (place : ℕ) → place ≡ begin + i
      → (fault : JudgeFault) → IsStopOf s place state (f v) fault → IsStopIn s begin start (map f xs) fault
  stops_one f xs begin start state i d v below is so_far place at (Refused r) stop = (i, stop.0 ∙ at, stops_at f Takes start xs (IsRefused r.refusal) i d v state below is so_far stop.1)
  stops_one f xs begin start state i d v below is so_far place at (Earlier j fault) stop = (i, stop.0 ∙ at, stops_at f Takes start xs (HasFault fault) i d v state below is so_far stop.1)
  stops_one f xs begin start state i d v below is so_far place at (File fault) stop = stop
  stops_one f xs begin start state i d v below is so_far place at UnknownPeriod stop = stop
  stops_one f xs begin start state i d v below is so_far place at Memory stop = tt

  -- so it is with more tasks after them
  pub more_after : (begin : ℕ) (rows : Rows) (xs ys : List Task) (fault : JudgeFault) → IsStopIn s begin rows xs fault → IsStopIn s begin rows (xs ++ ys) fault
  more_after begin rows xs ys (Refused r) is = (is.0, is.1, stops_before xs ys is.0 is.2)
  more_after begin rows xs ys (Earlier i fault) is = (is.0, is.1, stops_before xs ys is.0 is.2)
  more_after begin rows xs ys (File fault) is = is
  more_after begin rows xs ys UnknownPeriod is = is
  more_after begin rows xs ys Memory is = tt

  further : (place begin before i : ℕ) → place ≡ (begin + before) + i → place ≡ begin + (before + i)
  further place begin before i is = omega (arith, is)

  -- and with more before them, which pass
  pub more_before : (begin : ℕ) (rows mid : Rows) (xs ys : List Task) → FoldsTo Takes rows xs mid → (fault : JudgeFault) → IsStopIn s (begin + length xs) mid ys fault → IsStopIn s begin rows (xs ++ ys) fault
  more_before begin rows mid xs ys taken (Refused r) is = (length xs + is.0, further (place_of s r.step) begin (length xs) is.0 is.1, stops_after xs ys is.0 taken is.2)
  more_before begin rows mid xs ys taken (Earlier i fault) is = (length xs + is.0, further (place_of s (Closed i)) begin (length xs) is.0 is.1, stops_after xs ys is.0 taken is.2)
  more_before begin rows mid xs ys taken (File fault) is = is
  more_before begin rows mid xs ys taken UnknownPeriod is = is
  more_before begin rows mid xs ys taken Memory is = tt

  -- ---- the four parts of what comes before the file

  zero_plus : (n : ℕ) → n ≡ 0 + n
  zero_plus n = omega arith

  pub stop_in_plans : (r0 : Rows) (fault : JudgeFault) → IsStopIn s 0 r0 (plan_tasks s) fault → IsStopIn s 0 r0 (tasks s) fault
  stop_in_plans r0 fault is = more_after 0 r0 (plan_tasks s) (caller_tasks s ++ (stock_tasks s ++ earlier_tasks s)) fault is

  module _ (r0 r1 : Rows) (planned : FoldsTo Takes r0 (plan_tasks s) r1) where
    -- what begins after the plans
    later : (ys : List Task) (fault : JudgeFault) → IsStopIn s (length s.plans.now) r1 ys fault → IsStopIn s 0 r0 (plan_tasks s ++ ys) fault
    later ys fault is =
        let begin : length s.plans.now ≡ 0 + length (plan_tasks s) = sym (length-map s.plans.now (λ (text : Vec ℕ). Publish text.items)) ∙ zero_plus (length (plan_tasks s)) in
        more_before 0 r0 r1 (plan_tasks s) ys planned fault (subst (λ (n : ℕ). IsStopIn s n r1 ys fault) begin is)

    pub stop_after_plans : (fault : JudgeFault) → IsStopIn s (length s.plans.now) r1 (caller_tasks s) fault → IsStopIn s 0 r0 (tasks s) fault
    stop_after_plans fault is = later (caller_tasks s ++ (stock_tasks s ++ earlier_tasks s)) fault (more_after (length s.plans.now) r1 (caller_tasks s) (stock_tasks s ++ earlier_tasks s) fault is)

    module _ (r2 : Rows) (called : FoldsTo Takes r1 (caller_tasks s) r2) where
      pub stop_after_callers : (fault : JudgeFault) → IsStopIn s (length s.plans.now + 2) r2 (stock_tasks s) fault → IsStopIn s 0 r0 (tasks s) fault
      stop_after_callers fault is =
          later (caller_tasks s ++ (stock_tasks s ++ earlier_tasks s)) fault
          (more_before (length s.plans.now) r1 r2 (caller_tasks s) (stock_tasks s ++ earlier_tasks s) called fault (more_after (length s.plans.now + 2) r2 (stock_tasks s) (earlier_tasks s) fault is))

      module _ (r3 : Rows) (stocked : FoldsTo Takes r2 (stock_tasks s) r3) where
        pub stop_after_stock : (fault : JudgeFault) → IsStopIn s (length s.plans.now + 2 + length s.stock.now) r3 (earlier_tasks s) fault → IsStopIn s 0 r0 (tasks s) fault
        stop_after_stock fault is =
            let begin : length s.plans.now + 2 + length s.stock.now ≡ length s.plans.now + 2 + length (stock_tasks s) = ap (λ (n : ℕ). length s.plans.now + 2 + n) (sym (length-map s.stock.now (λ (range : Range). Allot s.agent range.first range.last))) in
            later (caller_tasks s ++ (stock_tasks s ++ earlier_tasks s)) fault
            (more_before (length s.plans.now) r1 r2 (caller_tasks s) (stock_tasks s ++ earlier_tasks s) called fault
            (more_before (length s.plans.now + 2) r2 r3 (stock_tasks s) (earlier_tasks s) stocked fault (subst (λ (n : ℕ). IsStopIn s n r3 (earlier_tasks s) fault) begin is)))

  -- ---- the trial

  at_place : {Stops : Rows → Task → Type 0} (place i : ℕ) → place ≡ 0 + i → StopsAt Takes Stops no_rows (tasks s) i → StopsAt Takes Stops no_rows (tasks s) place
  at_place {Stops = Stops} place i is stops = let same : i ≡ place = omega (arith, is) in subst (λ (n : ℕ). StopsAt Takes Stops no_rows (tasks s) n) same stops

  pub stop_unready : (rows : Rows) → rows ≡ no_rows → (fault : JudgeFault) → IsStopIn s 0 rows (tasks s) fault → IsUnready s fault
  stop_unready rows none fault is = from_none fault (subst (λ (r : Rows). IsStopIn s 0 r (tasks s) fault) none is) where
    from_none : (fault : JudgeFault) → IsStopIn s 0 no_rows (tasks s) fault → IsUnready s fault
    from_none (Refused r) is = at_place (place_of s r.step) is.0 is.1 is.2
    from_none (Earlier i fault) is = at_place (place_of s (Closed i)) is.0 is.1 is.2
    from_none (File fault) is = is
    from_none UnknownPeriod is = is
    from_none Memory is = tt

  pub unready_unjudged : (text : List ℕ) (fault : JudgeFault) → IsUnready s fault → IsUnjudged s text fault
  unready_unjudged text (Refused r) is = inl is
  unready_unjudged text (Earlier i fault) is = is
  unready_unjudged text UnknownPeriod is = absurd is
  unready_unjudged text Memory is = tt
  unready_unjudged text (File fault) is = absurd is

  pub unstated_unjudged : (text : List ℕ) (left : Rows) → IsLeft s text left → (period : ℕ) → s.statement ≡ Some period → (fault : JudgeFault) → IsUnstatedOver s left period fault → IsUnjudged s text fault
  unstated_unjudged text left is_left period asked (Refused r) is = inr (record { left = left; is_left = is_left; period = period; asked = asked; stops = is })
  unstated_unjudged text left is_left period asked UnknownPeriod is = record { left = left; is_left = is_left; period = period; asked = asked; stops = is }
  unstated_unjudged text left is_left period asked Memory is = tt
  unstated_unjudged text left is_left period asked (Earlier i fault) is = absurd is
  unstated_unjudged text left is_left period asked (File fault) is = absurd is
