-- A done issue and a done close keep what each change keeps.
use Rattle.std.proofs.Common.{◌≡◌, ℕ, ◌<◌, ◌==◌, not, nat_le, Bool, true, false, cond, map, count_by, Option, Some, None, IsSome, is_some, option_map, Result, Ok, Err, refl, sym, ap, subst, ◌∙◌}
use Rattle.std.specs.FinMap.{get, nat_cmp-IsAntisymmetric}
use Rattle.std.specs.Cmp.{nat_cmp_total}
use Rattle.std.proofs.lemmas.Bool.{leb-false}
use Rattle.bsp_rows.specs.Change.TheVariants.{Done}
use Rattle.bsp_rows.specs.Published.{Published, is_closed}
use Rattle.bsp_rows.specs.Requests.{closing}
use Rattle.bsp_rows.specs.Terms.{Terms}
use Rattle.bsp_rows.specs.PlanFault.{PlanFault}
use Rattle.bsp_rows.specs.Verdicts.{limit_of}
use Rattle.bsp_rows.specs.Memos.{is_amount}
use Rattle.bsp_rows.specs.MemoFault.TheVariants.{AmountOutOfRange, AgentNotRegistered, LimitReached}
use Rattle.bsp_rows.specs.MemoFields.{MemoFields}
use Rattle.bsp_messages.specs.declared.airline_bodies.MemoIssue.{MemoIssue}
use Rattle.bsp_messages.specs.declared.refusal.RequestRefusal.TheVariants as refusal
use Rattle.bsp_rows.specs.Changes.{after_close, each}
use Rattle.bsp_rows.specs.Laws.{issued_count}
use Rattle.bsp_rows.specs.Rows.{Rows}
use Rattle.bsp_rows.specs.Writes.{plan_left, change_or_fault}
use Rattle.bsp_rows.proofs.KeptLemmas.{close_terms}
use Rattle.bsp_rows.proofs.KeyOrders.{memo_total, memo_exact}
use Rattle.bsp_rows.proofs.PartLemmas.{each_get, kept_entries}
use Rattle.bsp_office_spec.specs.AirlineLedger.{AirlineLedger, airline_ledger_of, count_to, is_known, issue_beside, no_token, issue_key, issuing}
use Rattle.bsp_office_spec.specs.Answers.{is_done}
use Rattle.bsp_office_spec.specs.Answers.Answer.{Changed, Refused}
use Rattle.bsp_office_spec.specs.Ledger.{review_of}
use Rattle.bsp_office_spec.specs.Step.{issued_to, outcome_answer, with_close}
use Rattle.bsp_office_spec.proofs.Seen.{free_key, issue_free, of_its_airline}
use Rattle.bsp_office_spec.proofs.Invariant.{IsKept}

-- ---- an issue

mapped_some : {A B : Type 0} (f : A → B) (found : Option A) → is_some found ≡ is_some (option_map f found)
mapped_some f None = refl
mapped_some f (Some x) = refl

known_too : (rows : Rows) (b : ℕ) → is_some (get rows.agents b) ≡ is_some (get (each no_token rows.agents) b)
known_too rows b = mapped_some no_token (get rows.agents b) ∙ ap is_some (sym (each_get nat_cmp_total nat_cmp-IsAntisymmetric no_token rows.agents b))

counted_to : (c b : ℕ) (rows : Rows) → count_to b (airline_ledger_of c rows) ≡ issued_count b c rows
counted_to c b rows = ap (λ es. count_by (λ m. m.agent == b) (map (λ x. x.1) es)) (kept_entries memo_total memo_exact (of_its_airline c) rows.memos)

below : (limit count : ℕ) (full : Bool) → nat_le limit count ≡ full → is_done (cond full (Refused (refusal.Memo LimitReached)) (Changed Done)) ≡ true → count < limit
below limit count true is h = absurd (cc h)
below limit count false is h = leb-false limit count is

module _ (P : Rows → Type 0) (kept : IsKept P) where
  issued_at : (c b : ℕ) (issue : MemoIssue) (rows : Rows) → P rows → get rows.memos (issue_key c issue.document) ≡ None → (known right : Bool) → is_known b (airline_ledger_of c rows) ≡ known → is_amount issue.amount ≡ right → is_done (cond (not known) (Refused (refusal.Memo AgentNotRegistered)) (cond (not right) (Refused (refusal.Memo AmountOutOfRange)) (issue_beside c b issue (airline_ledger_of c rows) None))) ≡ true → P (issued_to c issue (Some b) rows)
  issued_at c b issue rows s free true true k r h =
      let l : AirlineLedger = airline_ledger_of c rows in
      let few : count_to b l < limit_of rows.published.terms = below (limit_of rows.published.terms) (count_to b l) _ refl h in
      kept.issued rows c issue.document b issue.kind issue.amount issue.reason s r free (known_too rows b ∙ k)
      (subst (λ (n : ℕ). n < limit_of rows.published.terms) (counted_to c b rows) few)
  issued_at c b issue rows s free true false k r h = absurd (cc h)
  issued_at c b issue rows s free false right k r h = absurd (cc h)

  pub issued_keeps : (c : ℕ) (issue : MemoIssue) (rows : Rows) → P rows → (r : Option ℕ) → is_done (issuing c issue (airline_ledger_of c rows) r) ≡ true → P (issued_to c issue r rows)
  issued_keeps c issue rows s None h = s
  issued_keeps c issue rows s (Some b) h =
      let l : AirlineLedger = airline_ledger_of c rows in
      let none : get l.own.memos (issue_key c issue.document) ≡ None = issue_free c b issue l (get l.own.memos (issue_key c issue.document)) (not (is_known b l)) (not (is_amount issue.amount)) h in
      let done = subst (λ (found : Option MemoFields). is_done (cond (not (is_known b l)) (Refused (refusal.Memo AgentNotRegistered)) (cond (not (is_amount issue.amount)) (Refused (refusal.Memo AmountOutOfRange)) (issue_beside c b issue l found))) ≡ true) none h in
      issued_at c b issue rows s (free_key c issue.document rows none) (is_known b l) (is_amount issue.amount) refl refl done

  -- ---- a close

  closed_by : (rows : Rows) (code : ℕ) (m : Published) → P rows → is_closed rows.published code ≡ false → closing rows.published code ≡ Ok m → (found : Option Terms) → rows.published.terms ≡ found → IsSome found → P (after_close code m (review_of found) rows)
  closed_by rows code m s unclosed h None is known = absurd (cc known)
  closed_by rows code m s unclosed h (Some terms) is known = kept.closed rows code m terms s unclosed h is

  close_done : (rows : Rows) (code : ℕ) → P rows → (held : Bool) (o : Result Published PlanFault) → is_closed rows.published code ≡ held → closing rows.published code ≡ o → is_done (outcome_answer (change_or_fault held o)) ≡ true → P (after_close code (plan_left rows.published o) (review_of rows.published.terms) rows)
  close_done rows code s true (Ok m) c h done = absurd (cc done)
  close_done rows code s false (Ok m) c h done = closed_by rows code m s c h rows.published.terms refl (close_terms rows code m (kept.sound rows s) c h)
  close_done rows code s held (Err fault) c h done = absurd (cc done)

  pub closed_keeps : (rows : Rows) (code : ℕ) → P rows → is_done (outcome_answer (change_or_fault (is_closed rows.published code) (closing rows.published code))) ≡ true → P (with_close code rows)
  closed_keeps rows code s done = close_done rows code s (is_closed rows.published code) (closing rows.published code) refl refl done
