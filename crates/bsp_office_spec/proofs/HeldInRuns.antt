-- What a reply of a run has accepted is held by each later reply, and at each later place of the same file.
use Rattle.std.proofs.Common.{◌≡◌, ℕ, Bool, true, false, cond, List, [], ◌∷◌, ◌++◌, Option, Some, None, Ok, Err, refl, sym, ap, subst, ◌∙◌, inl, inr}
use Rattle.bsp_rows.specs.Decimal.{fixed_digits}
use Rattle.bsp_messages.specs.declared.refusal.RequestRefusal.TheVariants.{Forbidden}
use Rattle.bsp_rows.specs.Transaction.{Transaction}
use Rattle.bsp_rows.specs.Reporter.TheVariants.{Agent}
use Rattle.bsp_rows.specs.Verdict.{Verdict}
use Rattle.bsp_rows.specs.Verdict.TheVariants as verdict
use Rattle.bsp_rows.specs.Rows.{Rows, agent_token}
use Rattle.bsp_rows.specs.Sound.{Sound}
use Rattle.bsp_office_spec.specs.Answers.{Answer, is_done, verdicts_in}
use Rattle.bsp_office_spec.specs.Answers.Answer.{Verdicts, FileFault, Refused}
use Rattle.bsp_office_spec.specs.Laws.{Accepts, HasAccepted, Holds, IsAcceptedIn, IsFileFor, IsHeldBehind, IsHeldIn, RunsHoldRepeats, file_of, verdicts_of}
use Rattle.bsp_office_spec.specs.Ledger.{Ledger, agent_of, ledger_judged, ledger_of, own_verdict, own_verdicts}
use Rattle.bsp_office_spec.specs.Requests.{Asked, Request}
use Rattle.bsp_office_spec.specs.Requests.AgentRequest.{AgentFile}
use Rattle.bsp_office_spec.specs.Requests.Asked.{ByAgent, ByOffice}
use Rattle.bsp_office_spec.specs.Requests.OfficeRequest.{OfficeFile}
use Rattle.bsp_office_spec.specs.Step.{AreGroups, Fits, asked_after, asked_answer, bearer, filed_by_agent, filed_by_office, is_token, office_verdict, office_verdict_for, office_verdicts, reporter, rows_after, rows_judged, to_agent}
use Rattle.bsp_office_spec.specs.View.{AllFit, Exchange, IsAnswered, Run, rows_replied}
use Rattle.bsp_office_spec.proofs.ChangeLemmas.{accepted_own, office_judged_keeps, own_judged_keeps}
use Rattle.bsp_office_spec.proofs.Held.{Has, bears, files_are_taken, has_is_kept, office_held, office_joins, own_held, own_joins}
use Rattle.bsp_office_spec.proofs.Invariant.{sound_is_kept}
use Rattle.bsp_office_spec.proofs.RunParts.{Parts, fit_parts, run_parts}
use Rattle.bsp_office_spec.proofs.Runs.{run_keeps, run_sound}
use Rattle.bsp_office_spec.proofs.SeenLemmas.{judged_own}
use Rattle.bsp_office_spec.proofs.StepLemmas.{reads_back}

-- ---- whose transaction is accepted

-- of the office's file an agent's
bearer_of : (r : Option ℕ) (rows : Rows) (t : Transaction) (period : ℕ) → office_verdict_for r rows t ≡ verdict.Accepted period → (agent : ℕ) × (r ≡ Some agent)
bearer_of None rows t period h = absurd (cc h)
bearer_of (Some agent) rows t period h = (agent, refl)

module _ (t : Transaction) (period : ℕ) where
  none_accepted : (ts : List Transaction) → IsAcceptedIn t period ts [] → ⊥
  none_accepted [] h = h
  none_accepted (u ∷ us) h = h

  office_bears : (ts : List Transaction) (rows : Rows) → IsAcceptedIn t period ts (office_verdicts rows ts) → (agent : ℕ) × (agent_of t.agent ≡ Some agent)
  office_bears [] rows h = elim h [ ]
  office_bears (u ∷ us) rows (inl (same, accepted)) =
      let k = bearer_of (agent_of u.agent) rows u period accepted in
      (k.0, ap (λ (x : Transaction). agent_of x.agent) (sym same) ∙ k.1)
  office_bears (u ∷ us) rows (inr later) = office_bears us (rows_judged bearer u (office_verdict rows u) rows) later

  own_bears : (agent : ℕ) → agent_of (fixed_digits 8 agent) ≡ Some agent → (ts : List Transaction) (l : Ledger) → IsAcceptedIn t period ts (own_verdicts agent l ts) → agent_of t.agent ≡ Some agent
  own_bears agent reads [] l h = elim h [ ]
  own_bears agent reads (u ∷ us) l (inl (same, accepted)) = ap (λ (x : Transaction). agent_of x.agent) (sym same) ∙ accepted_own agent u l period accepted reads
  own_bears agent reads (u ∷ us) l (inr later) = own_bears agent reads us (ledger_judged agent u (own_verdict (Agent agent) l u) l) later

  -- ---- in the file where it is accepted

  module _ (agent : ℕ) (own : agent_of t.agent ≡ Some agent) where
    office_behind : (ts : List Transaction) (rows : Rows) → Sound rows → AreGroups ts → IsHeldBehind t period ts (office_verdicts rows ts)
    office_behind [] rows s groups = tt
    office_behind (u ∷ us) rows s groups =
        let v : Verdict = office_verdict rows u in
        let next : Rows = rows_judged bearer u v rows in (
          (λ same accepted. office_held agent t period us next (office_joins agent t period u rows s groups.0 own same accepted) groups.1),
          office_behind us next (office_judged_keeps Sound sound_is_kept u rows s groups.0 v refl) groups.1,
        )

    own_behind : (ts : List Transaction) (rows : Rows) → Sound rows → AreGroups ts → IsHeldBehind t period ts (own_verdicts agent (ledger_of agent rows) ts)
    own_behind [] rows s groups = tt
    own_behind (u ∷ us) rows s groups =
        let v : Verdict = own_verdict (Agent agent) (ledger_of agent rows) u in
        let next : Rows = rows_judged (reporter (Some agent)) u v rows in
        let move : ledger_of agent next ≡ _ = judged_own agent u v rows in (
          (λ same accepted. subst (λ (l : Ledger). IsHeldIn t period us (own_verdicts agent l us)) move
              (own_held agent t period us next (own_joins agent t period u rows s groups.0 own same accepted) groups.1)),
          subst (λ (l : Ledger). IsHeldBehind t period us (own_verdicts agent l us)) move
              (own_behind us next (own_judged_keeps Sound sound_is_kept agent u rows (reads_back t.agent agent own) s groups.0 v refl) groups.1),
        )

  -- ---- a reply that accepts

  -- its agent has it then, and it is held at each later place
  record Taken (ts : List Transaction) (vs : List Verdict) (rows : Rows) : Type 0 where
    agent : ℕ
    own : agent_of t.agent ≡ Some agent
    has : HasAccepted rows agent t period
    behind : IsHeldBehind t period ts vs

  office_by : (ts : List Transaction) (rows : Rows) → Sound rows → AreGroups ts → (b : Bool) → let answer = cond b (Verdicts (office_verdicts rows ts)) (Refused Forbidden) in
      IsAcceptedIn t period ts (verdicts_in answer) → Taken ts (verdicts_in answer) (cond (is_done answer) rows (filed_by_office (OfficeFile (Ok ts)) (verdicts_in answer) rows))
  office_by ts rows s groups true h =
      let k = office_bears ts rows h in
      record { agent = k.0; own = k.1; has = (files_are_taken rows k.0 t period ts s groups k.1).0 h; behind = office_behind k.0 k.1 ts rows s groups }
  office_by ts rows s groups false h = absurd (none_accepted ts h)

  own_by : (ts : List Transaction) (rows : Rows) → Sound rows → AreGroups ts → (agent : ℕ) → agent_of (fixed_digits 8 agent) ≡ Some agent → (b : Bool) →
      let answer = cond b (Verdicts (own_verdicts agent (ledger_of agent rows) ts)) (Refused Forbidden) in
      IsAcceptedIn t period ts (verdicts_in answer) → Taken ts (verdicts_in answer) (cond (is_done answer) rows (filed_by_agent (Some agent) (AgentFile (Ok ts)) (verdicts_in answer) rows))
  own_by ts rows s groups agent reads true h =
      let own = own_bears agent reads ts (ledger_of agent rows) h in
      record { agent = agent; own = own; has = (files_are_taken rows agent t period ts s groups own).1 h; behind = own_behind agent own ts rows s groups }
  own_by ts rows s groups agent reads false h = absurd (none_accepted ts h)

  named_by : (ts : List Transaction) (rows : Rows) (code : List ℕ) (token : Option (List ℕ)) → Sound rows → AreGroups ts → (r : Option ℕ) → agent_of code ≡ r →
      let answer = to_agent r token (AgentFile (Ok ts)) rows in
      IsAcceptedIn t period ts (verdicts_in answer) → Taken ts (verdicts_in answer) (cond (is_done answer) rows (filed_by_agent r (AgentFile (Ok ts)) (verdicts_in answer) rows))
  named_by ts rows code token s groups None is h = absurd (none_accepted ts h)
  named_by ts rows code token s groups (Some agent) is h = own_by ts rows s groups agent (reads_back code agent is) (is_token (agent_token agent rows) token) h

  asked_taken : (office : List ℕ) (rows : Rows) (token : Option (List ℕ)) (asked : Asked) → Sound rows → Fits asked →
      let answer = asked_answer office token asked rows in
      IsAcceptedIn t period (file_of asked) (verdicts_in answer) → Taken (file_of asked) (verdicts_in answer) (asked_after asked answer rows)
  asked_taken office rows token (ByOffice (OfficeFile (Ok ts))) s fits h = office_by ts rows s fits (is_token (Some office) token) h
  asked_taken office rows token (ByAgent code (AgentFile (Ok ts))) s fits h = named_by ts rows code token s fits (agent_of code) refl h
  asked_taken office rows token asked s fits h = elim h [ ]

  replied_taken : (office : List ℕ) (rows : Rows) (request : Request) (reply : Option Answer) → Sound rows → Fits request.asked → IsAnswered office rows request reply →
      Accepts (record { request = request; reply = reply }) t period → Taken (file_of request.asked) (verdicts_of (record { request = request; reply = reply })) (rows_replied rows (record { request = request; reply = reply }))
  replied_taken office rows request None s fits is h = absurd (none_accepted (file_of request.asked) h)
  replied_taken office rows request (Some answer) s fits is h =
      subst (λ (x : Answer). Taken (file_of request.asked) (verdicts_in x) (rows_after rows request x)) (sym is)
      (asked_taken office rows request.token request.asked s fits (subst (λ (x : Answer). IsAcceptedIn t period (file_of request.asked) (verdicts_in x)) is h))

  -- ---- a reply that holds

  module _ (agent : ℕ) where
    office_holds : (ts : List Transaction) (rows : Rows) → Has agent t period rows → AreGroups ts → (vs : List Verdict) (b : Bool) → Verdicts vs ≡ cond b (Verdicts (office_verdicts rows ts)) (Refused Forbidden) → IsHeldIn t period ts vs
    office_holds ts rows h groups vs true e = subst (IsHeldIn t period ts) (sym (ap verdicts_in e)) (office_held agent t period ts rows h groups)
    office_holds ts rows h groups vs false e = absurd (cc e)

    own_holds : (ts : List Transaction) (rows : Rows) → Has agent t period rows → AreGroups ts → (vs : List Verdict) (b : Bool) → Verdicts vs ≡ cond b (Verdicts (own_verdicts agent (ledger_of agent rows) ts)) (Refused Forbidden) → IsHeldIn t period ts vs
    own_holds ts rows h groups vs true e = subst (IsHeldIn t period ts) (sym (ap verdicts_in e)) (own_held agent t period ts rows h groups)
    own_holds ts rows h groups vs false e = absurd (cc e)

    -- a fault of the file is no list of verdicts
    fault_holds : (answer : Answer) (vs : List Verdict) (b : Bool) → verdicts_in answer ≡ [] → Verdicts vs ≡ cond b answer (Refused Forbidden) → vs ≡ []
    fault_holds answer vs true none e = ap verdicts_in e ∙ none
    fault_holds answer vs false none e = absurd (cc e)

    no_place : (vs : List Verdict) → vs ≡ [] → IsHeldIn t period [] vs
    no_place vs e = subst (IsHeldIn t period []) (sym e) tt

    asked_holds : (office : List ℕ) (rows : Rows) (token : Option (List ℕ)) (asked : Asked) → Has agent t period rows → Fits asked → IsFileFor t asked → (vs : List Verdict) →
        Verdicts vs ≡ asked_answer office token asked rows → IsHeldIn t period (file_of asked) vs
    asked_holds office rows token (ByOffice (OfficeFile (Ok ts))) h fits file vs e = office_holds ts rows h fits vs (is_token (Some office) token) e
    asked_holds office rows token (ByOffice (OfficeFile (Err fault))) h fits file vs e = no_place vs (fault_holds (FileFault fault) vs (is_token (Some office) token) refl e)
    asked_holds office rows token (ByAgent code (AgentFile (Ok ts))) h fits file vs e =
        let reads = file ∙ bears rows agent t period h.sound h.has in
        own_holds ts rows h fits vs (is_token (agent_token agent rows) token) (e ∙ ap (λ (r : Option ℕ). to_agent r token (AgentFile (Ok ts)) rows) reads)
    asked_holds office rows token (ByAgent code (AgentFile (Err fault))) h fits file vs e =
        let reads = file ∙ bears rows agent t period h.sound h.has in
        no_place vs (fault_holds (FileFault fault) vs (is_token (agent_token agent rows) token) refl (e ∙ ap (λ (r : Option ℕ). to_agent r token (AgentFile (Err fault)) rows) reads))
    asked_holds office rows token asked h fits file vs e = elim file [ ]

    replied_holds : (office : List ℕ) (rows : Rows) (q : Exchange) → Has agent t period rows → Fits q.request.asked → IsAnswered office rows q.request q.reply → Holds q t period
    replied_holds office rows q h fits is vs file replied =
        asked_holds office rows q.request.token q.request.asked h fits file vs (subst (IsAnswered office rows q.request) replied is)

    -- after a run over which its agent has it
    run_holds : (office : List ℕ) (rows : Rows) (between after : List Exchange) (q : Exchange) (new : Rows) → Run office rows (between ++ q ∷ after) new → AllFit (between ++ q ∷ after) → Has agent t period rows → Holds q t period
    run_holds office rows between after q new run fits h =
        let parts = run_parts office rows between (q ∷ after) new run in
        let fit = fit_parts between (q ∷ after) fits in
        let at_end = run_keeps (Has agent t period) (has_is_kept agent t period) office rows between parts.mid parts.first fit.0 h in
        replied_holds office parts.mid q at_end fit.1.0 parts.second.0

-- ---- a whole run

module _ (office : List ℕ) (rows : Rows) (new : Rows) (sound : Sound rows) where
  -- what the reply at a place of the run has accepted
  taken_at : (before after : List Exchange) (p : Exchange) (t : Transaction) (period : ℕ) → AllFit (before ++ p ∷ after) → (parts : Parts office rows before (p ∷ after) new) → Accepts p t period →
      Taken t period (file_of p.request.asked) (verdicts_of p) (rows_replied parts.mid p)
  taken_at before after p t period fits parts h =
      let fit = fit_parts before (p ∷ after) fits in
      replied_taken t period office parts.mid p.request p.reply (run_sound office rows before parts.mid parts.first fit.0 sound) fit.1.0 parts.second.0 h

  later_held : (before between after : List Exchange) (p q : Exchange) (t : Transaction) (period : ℕ) → Run office rows (before ++ (p ∷ between ++ q ∷ after)) new → AllFit (before ++ (p ∷ between ++ q ∷ after)) → Accepts p t period → Holds q t period
  later_held before between after p q t period run fits h =
      let parts = run_parts office rows before (p ∷ between ++ q ∷ after) new run in
      let fit = fit_parts before (p ∷ between ++ q ∷ after) fits in
      let taken = taken_at before (between ++ q ∷ after) p t period fits parts h in
      let s = run_sound office rows before parts.mid parts.first fit.0 sound in
      let next = run_sound office parts.mid (p ∷ []) (rows_replied parts.mid p) (parts.second.0, refl) (fit.1.0, tt) s in
      run_holds t period taken.agent office (rows_replied parts.mid p) between after q new parts.second.1 fit.1.1 (record { sound = next; has = taken.has })

pub runs_hold : RunsHoldRepeats
runs_hold office rows exchanges new run fits sound = record {
  known = λ before after q agent t period split has.
      run_holds t period agent office rows before after q new (subst (λ (es : List Exchange). Run office rows es new) split run) (subst AllFit split fits) (record { sound = sound; has = has });
  later = λ before between after p q t period split h.
      later_held office rows new sound before between after p q t period (subst (λ (es : List Exchange). Run office rows es new) split run) (subst AllFit split fits) h;
  behind = λ before after p t period split h.
      (taken_at office rows new sound before after p t period (subst AllFit split fits) (run_parts office rows before (p ∷ after) new (subst (λ (es : List Exchange). Run office rows es new) split run)) h).behind;
}
