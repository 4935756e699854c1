-- Over any run a closed period stays as it is, and so do the reports on it.
use Rattle.std.proofs.Common.{◌≡◌, ℕ, ◌==◌, Bool, true, false, cond, List, [], Option, Some, None, Result, Ok, Err, refl, sym, ap, subst, ◌∙◌}
use Rattle.std.specs.FinMap.{insert}
use Rattle.std.specs.List.{find}
use Rattle.bsp_rows.specs.History.{Request as PlanRequest, outcome}
use Rattle.bsp_rows.specs.History.Request.{Close}
use Rattle.bsp_rows.specs.Published.{Published, closed_period, is_closed, period_of}
use Rattle.bsp_rows.specs.SoundPlan.{Grows, IsSoundPlan}
use Rattle.bsp_rows.specs.Period.{Period}
use Rattle.bsp_rows.specs.Terms.{Terms}
use Rattle.bsp_rows.specs.PlanFault.{PlanFault}
use Rattle.bsp_rows.proofs.GrowsLemmas.{grows_further, grows_itself, request_grows}
use Rattle.bsp_rows.specs.Lives.{after_action, after_event}
use Rattle.bsp_rows.specs.Lives.Event.{Closed}
use Rattle.bsp_rows.specs.Memos.{issued_memo}
use Rattle.bsp_rows.specs.Owed.{is_billed_in}
use Rattle.bsp_rows.specs.MemoFields.{MemoFields}
use Rattle.bsp_rows.specs.declared.keys.MemoKey.{MemoKey}
use Rattle.bsp_rows.specs.Part.{kept}
use Rattle.bsp_rows.specs.Rows.{Rows, memo_key}
use Rattle.bsp_rows.specs.Sound.{Sound}
use Rattle.bsp_rows.specs.Writes.{plan_left}
use Rattle.bsp_rows.proofs.KeyOrders.{memo_exact, memo_total}
use Rattle.bsp_rows.proofs.PartLemmas.{passing}
use Rattle.bsp_office_spec.specs.Laws.{ClosedPeriodsStay, items_in, memos_in}
use Rattle.bsp_office_spec.specs.Ledger.{review_of}
use Rattle.bsp_office_spec.proofs.Closed.{accepted_beside, action_beside, action_key, close_beside, kept_each_same, kept_same, other_period}
use Rattle.bsp_office_spec.proofs.Invariant.{IsKept, sound_is_kept}
use Rattle.bsp_office_spec.proofs.Runs.{run_keeps}
use Rattle.bsp_office_spec.proofs.SeenLemmas.{taken_is}

pub closed_of : (shut : Bool) (found : Option Period) (q : Period) → cond shut found None ≡ Some q → (shut ≡ true) × (found ≡ Some q)
closed_of true found q h = (refl, h)
closed_of false found q h = absurd (cc h)

none_found : (test : Period → Bool) (qs : List Period) (q : Period) → qs ≡ [] → find test qs ≡ Some q → ⊥
none_found test qs q none h = absurd (cc (sym (ap (find test) none) ∙ h))

-- sound rows that have what others have of a closed period
record Stays (code : ℕ) (old rows : Rows) : Type 0 where
  sound : Sound rows
  grows : Grows old.published rows.published
  items : items_in code rows ≡ items_in code old
  memos : memos_in code rows ≡ memos_in code old

module _ (old : Rows) (code : ℕ) (q : Period) (is : closed_period old.published code ≡ Some q) where
  shut_at : (rows : Rows) → Stays code old rows → is_closed rows.published code ≡ true
  shut_at rows h = h.grows.closed code (closed_of (is_closed old.published code) (period_of old.published code) q is).0

  there_at : (rows : Rows) → Stays code old rows → period_of rows.published code ≡ Some q
  there_at rows h = h.grows.periods code q (closed_of (is_closed old.published code) (period_of old.published code) q is).1

  grown : (rows : Rows) (r : PlanRequest) (o : Result Published PlanFault) → Stays code old rows → outcome rows.published r ≡ o → Grows old.published (plan_left rows.published o)
  grown rows r (Ok plan) h e = grows_further old.published rows.published plan h.grows (request_grows rows.published r plan h.sound.plan e)
  grown rows r (Err fault) h e = h.grows

  stays_is_kept : IsKept (Stays code old)
  stays_is_kept = record {
    sound = λ rows h. h.sound;
    accepted = λ who rows item h a.
        let sound = sound_is_kept.accepted who rows item h.sound a in
        subst (Stays code old) (sym (taken_is item rows)) (record {
          sound = subst Sound (taken_is item rows) sound;
          grows = h.grows;
          items = accepted_beside who rows item h.sound a code q (shut_at rows h) (there_at rows h) ∙ h.items;
          memos = h.memos;
        });
    planned = λ rows r h. record { sound = sound_is_kept.planned rows r h.sound; grows = grown rows r (outcome rows.published r) h refl; items = h.items; memos = h.memos };
    closed = λ rows other plan terms h unshut made known.
        record {
          sound = sound_is_kept.closed rows other plan terms h.sound unshut made known;
          grows = grown rows (Close other) (Ok plan) h made;
          items = h.items;
          memos = kept_each_same memo_total memo_exact (λ e. is_billed_in code e.1) (after_event terms.review_days (Closed other rows.published.day)) rows.memos
              (λ k m. close_beside code other terms.review_days rows.published.day (other_period rows.published other code unshut (shut_at rows h) (other == code) refl) k m)
              ∙ h.memos;
        };
    issued = λ rows c d b kind amount reason h right free known below.
        let memo : MemoFields = issued_memo c d b kind amount reason rows.published.day in
        record {
          sound = sound_is_kept.issued rows c d b kind amount reason h.sound right free known below;
          grows = h.grows;
          items = h.items;
          memos = kept_same memo_total memo_exact (λ e. is_billed_in code e.1) rows.memos (memo_key memo) memo (sym (ap (passing (λ e. is_billed_in code e.1) (memo_key memo)) free)) ∙ h.memos;
        };
    acted = λ rows memo action h there.
        let f = after_action (review_of rows.published.terms) action rows.published.day in
        record {
          sound = sound_is_kept.acted rows memo action h.sound there;
          grows = h.grows;
          items = h.items;
          memos = ap (λ (k : MemoKey). kept (λ e. is_billed_in code e.1) (insert rows.memos k (f memo))) (action_key (review_of rows.published.terms) action rows.published.day memo)
              ∙ (kept_same memo_total memo_exact (λ e. is_billed_in code e.1) rows.memos (memo_key memo) (f memo)
              (action_beside rows memo action code h.sound there ∙ sym (ap (passing (λ e. is_billed_in code e.1) (memo_key memo)) there))
              ∙ h.memos);
        };
    allotted = λ rows b range h k o m. record { sound = sound_is_kept.allotted rows b range h.sound k o m; grows = h.grows; items = h.items; memos = h.memos };
    withdrawn = λ rows b range h k u. record { sound = sound_is_kept.withdrawn rows b range h.sound k u; grows = h.grows; items = h.items; memos = h.memos };
    agent = λ rows b token h. record { sound = sound_is_kept.agent rows b token h.sound; grows = h.grows; items = h.items; memos = h.memos };
    airline = λ rows c token h. record { sound = sound_is_kept.airline rows c token h.sound; grows = h.grows; items = h.items; memos = h.memos };
  }

  terms_by : (found : Option Terms) (new : Published) → old.published.terms ≡ found → IsSoundPlan old.published → Grows old.published new → new.terms ≡ old.published.terms
  terms_by None new e s g =
      absurd (none_found (λ r. r.code == code) old.published.periods q (s.without_terms e).periods (closed_of (is_closed old.published code) (period_of old.published code) q is).1)
  terms_by (Some terms) new e s g = g.terms terms e ∙ sym e

pub closed_stays : ClosedPeriodsStay
closed_stays office rows exchanges new code q run fits s is =
    let start : Stays code rows rows = record { sound = s; grows = grows_itself rows.published; items = refl; memos = refl } in
    let at_end = run_keeps (Stays code rows) (stays_is_kept rows code q is) office rows exchanges new run fits start in
    record {
      period = at_end.grows.closed_periods code q is ∙ sym is;
      form = at_end.grows.forms code;
      terms = terms_by rows code q is rows.published.terms new.published refl s.plan at_end.grows;
      items = at_end.items;
      memos = at_end.memos;
    }
