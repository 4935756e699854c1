-- The verdict on one transaction, and the rows after it.
use Rattle.std.proofs.Common.{◌≡◌, ℕ, true, Some, IfSome, Ok, refl, sym, ap, subst, ◌∙◌}
use Rattle.bsp_rows.specs.Published.{Published}
use Rattle.bsp_rows.specs.Codes.{document_reading}
use Rattle.bsp_rows.specs.Decimal.{fixed_digits, number_of}
use Rattle.bsp_rows.specs.Transaction.{Transaction}
use Rattle.bsp_rows.specs.GroupValues.{is_group_values}
use Rattle.bsp_rules.specs.Tax.{accepted_item}
use Rattle.bsp_rules.specs.Verdicts.{verdict_on}
use Rattle.bsp_rules.specs.declared.facts.Facts.{Facts}
use Rattle.bsp_rules.specs.declared.rows.Item.{Item}
use Rattle.bsp_rules.specs.declared.verdict.Reporter.{Reporter}
use Rattle.bsp_rules.specs.declared.verdict.Reporter.TheVariants.{Office, Agent}
use Rattle.bsp_rules.specs.declared.verdict.Verdict.{Verdict}
use Rattle.bsp_rules.specs.declared.verdict.Verdict.TheVariants as verdict
use Rattle.bsp_rules.proofs.MeaningLemmas.{accepted_is_passed}
use Rattle.bsp_rows.specs.Changes.{after_accepted, ended_by, facts_at}
use Rattle.bsp_rows.specs.Rows.{HasNumberKey, Rows, item_at, key_of}
use Rattle.bsp_rows.specs.Sound.{Sound}
use Rattle.bsp_rows.specs.Writes.{IsFree}
use Rattle.bsp_rows.proofs.GroupLemmas.{own_reads}
use Rattle.bsp_rows.proofs.KeptLemmas.{accepted_free}
use Rattle.bsp_rows.proofs.MapLemmas.{same_Some}
use Rattle.bsp_office_spec.specs.Ledger.{agent_of, ledger_of, new_item, own_verdict}
use Rattle.bsp_office_spec.specs.Step.{Owner, joined, office_verdict, office_verdict_for, reporter, rows_judged}
use Rattle.bsp_office_spec.proofs.ChangeLemmas.{accepts, office_judged_keeps, own_judged_keeps, part_item, part_verdict, reported_own}
use Rattle.bsp_office_spec.proofs.Invariant.{sound_is_kept}
use Rattle.bsp_desk_sales.specs.Judged.{HasFreeKey, IsJudged, item_of, owner_of, rows_next, rows_with, verdict_of}

-- what is accepted has a number with its check digit
accepted_number : (who : Reporter) (t : Transaction) (f : Facts) (p : Published) (period : ℕ) → verdict_on who t f p ≡ verdict.Accepted period →
    document_reading t.document.number t.document.check_digit ≡ Ok (number_of t.document.number)
accepted_number who t f p period h = own_reads t ((accepted_is_passed who t f p period).0 h).check_digits

pub item_numbered : (who : Reporter) (agent : ℕ) (t : Transaction) (f : Facts) (p q : Published) (v : Verdict) → v ≡ verdict_on who t f p → IfSome (item_of agent t f q v) HasNumberKey
item_numbered who agent t f p q (verdict.Held period) is = tt
item_numbered who agent t f p q (verdict.Accepted period) is = accepted_number who t f p period (sym is)
item_numbered who agent t f p q (verdict.Refused refusal) is = tt

-- what is judged by the facts and the plan that were read
pub verdict_read : (who : Reporter) (agent : ℕ) (rows : Rows) (t : Transaction) (f : Facts) (p : Published) (v : Verdict) → f ≡ facts_at agent t rows → p ≡ rows.published → v ≡ verdict_on who t f p →
    v ≡ own_verdict who (ledger_of agent rows) t
verdict_read who agent rows t f p v facts plan is = is ∙ ((λ i. verdict_on who t (facts i) (plan i)) ∙ sym (part_verdict who agent rows t))

-- what is made of it by them
module _ (agent : ℕ) (rows : Rows) (t : Transaction) (f : Facts) (p : Published) (facts : f ≡ facts_at agent t rows) (plan : p ≡ rows.published) where
  item_read : (period : ℕ) → accepted_item agent period t f.related p ≡ new_item agent (ledger_of agent rows) t period
  item_read period = (λ i. accepted_item agent period t (facts i).related (plan i)) ∙ sym (part_item agent rows t period)

  pub rows_kept : (v : Verdict) → rows_with (item_of agent t f p v) rows ≡ rows_judged (reporter (Some agent)) t v rows
  rows_kept (verdict.Held period) = refl
  rows_kept (verdict.Accepted period) = ap (λ (i : Item). after_accepted i rows) (item_read period)
  rows_kept (verdict.Refused refusal) = refl

module _ (who : Reporter) (rows : Rows) (t : Transaction) where
  -- ---- over the rows of an agent

  module _ (agent : ℕ) where
    by_owner : (o : Owner) (v : Verdict) → o t ≡ Some agent → rows_judged (reporter (Some agent)) t v rows ≡ rows_judged o t v rows
    by_owner o (verdict.Held period) own = refl
    by_owner o (verdict.Accepted period) own = ap (λ r. joined r t period rows) (sym own)
    by_owner o (verdict.Refused refusal) own = refl

    is_verdict : (w : Reporter) → owner_of w t ≡ Some agent → own_verdict w (ledger_of agent rows) t ≡ verdict_of w rows t
    is_verdict Office own = sym (ap (λ r. office_verdict_for r rows t) own)
    is_verdict (Agent b) own = ap (λ (n : ℕ). own_verdict (Agent b) (ledger_of n rows) t) (sym (same_Some b agent own))

    bears : (w : Reporter) → owner_of w t ≡ Some agent → agent_of (fixed_digits 8 agent) ≡ Some agent → (period : ℕ) → own_verdict w (ledger_of agent rows) t ≡ verdict.Accepted period → agent_of t.agent ≡ Some agent
    bears Office own reads period h = own
    bears (Agent b) own reads period h =
        reported_own agent t rows period (ap (λ (n : ℕ). own_verdict (Agent n) (ledger_of agent rows) t) (sym (same_Some b agent own)) ∙ h) reads

    sound_next : (w : Reporter) → owner_of w t ≡ Some agent → agent_of (fixed_digits 8 agent) ≡ Some agent → Sound rows → is_group_values t ≡ true → Sound (rows_next w t rows)
    sound_next Office own reads s group = office_judged_keeps Sound sound_is_kept t rows s group (office_verdict rows t) refl
    sound_next (Agent b) own reads s group =
        let same = same_Some b agent own in
        own_judged_keeps Sound sound_is_kept b t rows (subst (λ (n : ℕ). agent_of (fixed_digits 8 n) ≡ Some n) (sym same) reads) s group (own_verdict (Agent b) (ledger_of b rows) t) refl

    module _ (own : owner_of who t ≡ Some agent) (v : Verdict) (is : v ≡ own_verdict who (ledger_of agent rows) t) where
      pub next_rows : rows_judged (reporter (Some agent)) t v rows ≡ rows_next who t rows
      next_rows = by_owner (owner_of who) v own ∙ ap (λ w. rows_judged (owner_of who) t w rows) (is ∙ is_verdict who own)

      module _ (reads : agent_of (fixed_digits 8 agent) ≡ Some agent) (s : Sound rows) (group : is_group_values t ≡ true) where
        pub judged : IsJudged who t rows v
        judged = record { is = is ∙ is_verdict who own; sound = sound_next who own reads s group }

        module _ (f : Facts) (p : Published) (facts : f ≡ facts_at agent t rows) (plan : p ≡ rows.published) where
          free_by : (w : Verdict) → v ≡ w → HasFreeKey (item_of agent t f p w) rows
          free_by (verdict.Held period) e = tt
          free_by (verdict.Accepted period) e =
              let h = sym is ∙ e in
              subst (λ (i : Item). IsFree (item_at (key_of i) (ended_by i rows))) (sym (item_read agent rows t f p facts plan period))
              (accepted_free who rows (new_item agent (ledger_of agent rows) t period) s (accepts who agent t period rows group (bears who own reads period h) h))
          free_by (verdict.Refused refusal) e = tt

          pub key_free : HasFreeKey (item_of agent t f p v) rows
          key_free = free_by v refl
