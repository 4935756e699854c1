use Rattle.bsp_store_base.proofs.Std.{[], ◌==◌, ◌∙◌, ◌∷◌, ◌≡◌, ap, arith, Bool, entries, false, FinMap, is_ok, IsSomeAnd, length, List, map, nat_cmp, nil_from_length, None, Ok, Option, refl, Result, Some, subst, sym, true, ℕ}
use Rattle.bsp_memory_rows.specs.Tables.{rows_of}
use Rattle.sqlite_value.specs.Order.{Row}
use Rattle.bsp_rows.specs.Change.{Change}
use Rattle.bsp_store_base.proofs.Entries.{after_request, change_or_fault, Close, closed_within, is_held, IsReached, IsSoundPlan, IsTextOf, made_again, opening, outcome, Period, plan_left, PlanFault, Publish, Published, request_answer, Rows, SetDay, Terms}
use Rattle.bsp_rows.specs.PlanText.{PlanText}
use Rattle.bsp_store_base.proofs.Base.{airline_entries, terms_rows}
use Rattle.bsp_store_columns.specs.declared.airlines.AirlineEntry.{AirlineEntry}
use Rattle.bsp_store_load.specs.Stored.{AreRowsOfPlan, IsFormedPlan}
use Rattle.bsp_store_load.specs.declared.plan_rows.PlanRows.{PlanRows}
use Rattle.bsp_store_load.proofs.PlanReads.{found_is, not_none}
use Rattle.bsp_store_load.proofs.published.publish_rows.Goals as goal

-- what is left is the business day and the closes
abbrev Follows : Bool → Rows → Rows → Published → Type 0
Follows done old new p = (done ≡ true) × (next : Published) × (new ≡ record old { published = next }) × IsReached next (SetDay p.day ∷ map (λ code. Close code) p.closed) p

no_terms : (o : Option Terms) (rows : List Row) → rows ≡ terms_rows o → (length rows == 0) ≡ true → o ≡ None
no_terms None rows is none = refl
no_terms (Some terms) rows is none = let some : (length rows == 0) ≡ false = ap (λ l. length l == 0) is in absurd (cc (some, none))

record HasTerms (o : Option Terms) : Type 0 where
  terms : Terms
  is : o ≡ Some terms

has_terms : (o : Option Terms) (rows : List Row) → rows ≡ terms_rows o → (length rows == 0) ≡ false → HasTerms o
has_terms None rows is some = let none : (length rows == 0) ≡ true = ap (λ l. length l == 0) is in absurd (cc (some, none))
has_terms (Some terms) rows is some = record { terms = terms; is = refl }

module _ (p : Published) (s : IsSoundPlan p) where
  none_closed : p.terms ≡ None → p.closed ≡ []
  none_closed none =
      let within = closed_within p s in
      let short : length p.periods ≡ 0 = ap (length {A = Period}) (s.without_terms none).periods in
      nil_from_length p.closed (omega arith)

  module _ (old : Rows) (start : old.published ≡ opening) where
    day_alone : p.terms ≡ None → Follows true old old p
    day_alone none =
        (refl, opening, (λ i. record old { published = start i }), subst (λ codes. IsReached opening (SetDay p.day ∷ map (λ code. Close code) codes) p) (sym (none_closed none)) ((made_again p s).without_terms none))

    -- its text is accepted
    is_published : (text : PlanText) → IsTextOf p text → (answer : Result Change PlanFault) (new : Rows) → answer ≡ request_answer (Publish text) old → new ≡ after_request (Publish text) old → Follows (is_ok answer) old new p
    is_published text t answer new told after =
        let made = (made_again p s).with_terms text t in
        let out : outcome old.published (Publish text) ≡ Ok made.0 = ap (λ q. outcome q (Publish text)) start ∙ made.1 in
        (ap is_ok told ∙ ap (λ r. is_ok (change_or_fault (is_held old.published (Publish text)) r)) out, made.0, after ∙ ap (λ r. record old { published = plan_left old.published r }) out, made.2)

    module _ (tokens : FinMap nat_cmp (List ℕ)) (formed : IsFormedPlan p tokens) (stored : PlanRows) (are : AreRowsOfPlan p tokens stored) where
      without_terms : (length stored.terms.items == 0) ≡ true → Follows true old old p
      without_terms none = day_alone (no_terms p.terms stored.terms.items are.terms none)

      module _ (some : (length stored.terms.items == 0) ≡ false) (airlines : List (ℕ × AirlineEntry)) (listed : airlines ≡ entries (airline_entries p.airlines tokens)) (found : Option PlanText)
          (says : (q : Published) (ts : FinMap nat_cmp (List ℕ)) (terms : Terms) → q.terms ≡ Some terms → IsSoundPlan q → IsFormedPlan q ts → AreRowsOfPlan q ts stored → airlines ≡ entries (airline_entries q.airlines ts) → IsSomeAnd found (IsTextOf q)) where
        text_found : IsSomeAnd found (IsTextOf p)
        text_found = let has = has_terms p.terms stored.terms.items are.terms some in says p tokens has.terms has.is s formed are listed

pub returns-then-is_empty-clause-plan : goal.returns-then-is_empty-clause-plan
returns-then-is_empty-clause-plan c = λ p tokens s formed are listed start. without_terms p s (rows_of c.args.tables.now) start tokens formed c.args.rows.now are (ap (λ l. length l == 0) (sym c.as_slice-terms.ensures.value) ∙ sym c.is_empty.ensures ∙ c.if-is_empty.true)

pub returns-in_ok-publish-in-Some-clause-plan : goal.returns-in_ok-publish-in-Some-clause-plan
returns-in_ok-publish-in-Some-clause-plan c = λ p tokens s formed are listed start.
    let text = found_is _ c.in_ok-text.field-0 (text_found p s (rows_of c.args.tables.now) start tokens formed c.args.rows.now are (ap (λ l. length l == 0) (sym c.as_slice-terms.ensures.value) ∙ sym c.is_empty.ensures ∙ c.if-is_empty.false) c.args.airlines.now listed c.in_ok-text.field-0 c.in_ok-text.ensures) c.in-Some.text c.in-Some.is in
    subst (λ b. Follows b (rows_of c.args.tables.now) (rows_of c.publish.new.self) p) (sym c.is_ok.ensures.value)
    (is_published p s (rows_of c.args.tables.now) start c.in-Some.text text c.in_ok-publish-in-Some.field-0 (rows_of c.publish.new.self) c.in_ok-publish-in-Some.ensures.told c.in_ok-publish-in-Some.ensures.ok)

pub returns-in-None-clause-plan : goal.returns-in-None-clause-plan
returns-in-None-clause-plan c = λ p tokens s formed are listed start.
    absurd (not_none _ c.in_ok-text.field-0 (text_found p s (rows_of c.args.tables.now) start tokens formed c.args.rows.now are (ap (λ l. length l == 0) (sym c.as_slice-terms.ensures.value) ∙ sym c.is_empty.ensures ∙ c.if-is_empty.false) c.args.airlines.now listed c.in_ok-text.field-0 c.in_ok-text.ensures) c.in-None.is)
