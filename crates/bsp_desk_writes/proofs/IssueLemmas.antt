-- What an issue is answered, by what is known of the agent and of the amount.
use Rattle.std.proofs.Common.{◌≡◌, ℕ, ◌==◌, not, nat_le, Bool, true, false, cond, map, count_by, Option, Some, None, is_some, option_map, Result, Ok, Err, refl, ap, ◌∙◌}
use Rattle.std.specs.FinMap.{get, nat_cmp-IsAntisymmetric}
use Rattle.std.specs.Cmp.{nat_cmp_total}
use Rattle.bsp_rows.specs.Change.TheVariants.{Done}
use Rattle.bsp_rows.specs.Verdicts.{limit_of}
use Rattle.bsp_memos.specs.Memos.{is_amount}
use Rattle.bsp_memos.specs.declared.fault.MemoFault.{MemoFault}
use Rattle.bsp_memos.specs.declared.fault.MemoFault.TheVariants.{AmountOutOfRange, AgentNotRegistered, LimitReached}
use Rattle.bsp_memos.specs.declared.fields.MemoFields.{MemoFields}
use Rattle.bsp_messages.specs.declared.airline_bodies.MemoIssue.{MemoIssue}
use Rattle.bsp_messages.specs.declared.refusal.RequestRefusal.TheVariants as refusal
use Rattle.bsp_rows.specs.Laws.{issued_count}
use Rattle.bsp_rows.specs.Rows.{Rows, agent_token, memo_at}
use Rattle.bsp_rows.proofs.KeyOrders.{memo_exact, memo_total}
use Rattle.bsp_rows.proofs.PartLemmas.{each_get, kept_entries}
use Rattle.bsp_office_spec.specs.AirlineLedger.{airline_ledger_of, count_to, is_known, issue_beside, issue_key, issuing, new_memo, no_token}
use Rattle.bsp_office_spec.specs.Answers.{Answer}
use Rattle.bsp_office_spec.specs.Answers.Answer.{Changed, Refused}
use Rattle.bsp_office_spec.proofs.Seen.{of_its_airline}
use Rattle.bsp_desk_writes.specs.Issues.{beside, placing}
use Rattle.bsp_desk_writes.proofs.MemoLemmas.{by_airline}

mapped_some : {A B : Type 0} (f : A → B) (found : Option A) → is_some (option_map f found) ≡ is_some found
mapped_some f None = refl
mapped_some f (Some x) = refl

known_too : (airline agent : ℕ) (rows : Rows) → is_known agent (airline_ledger_of airline rows) ≡ is_some (agent_token agent rows)
known_too airline agent rows = ap is_some (each_get nat_cmp_total nat_cmp-IsAntisymmetric no_token rows.agents agent) ∙ mapped_some no_token (get rows.agents agent)

counted_to : (airline agent : ℕ) (rows : Rows) → count_to agent (airline_ledger_of airline rows) ≡ issued_count agent airline rows
counted_to airline agent rows = ap (λ es. count_by (λ m. m.agent == agent) (map (λ e. e.1) es)) (kept_entries memo_total memo_exact (of_its_airline airline) rows.memos)

-- what is answered where the agent is registered or not, and the amount in range or not
abbrev by_tests : ℕ → ℕ → MemoIssue → Rows → Bool → Bool → Answer
by_tests airline agent issue rows known right =
    cond (not known) (Refused (refusal.Memo AgentNotRegistered)) (cond (not right) (Refused (refusal.Memo AmountOutOfRange))
    (issue_beside airline agent issue (airline_ledger_of airline rows) (get (airline_ledger_of airline rows).own.memos (issue_key airline issue.document))))

pub not_registered : (airline agent : ℕ) (issue : MemoIssue) (rows : Rows) → is_some (agent_token agent rows) ≡ false → issuing airline issue (airline_ledger_of airline rows) (Some agent) ≡ Refused (refusal.Memo AgentNotRegistered)
not_registered airline agent issue rows h = ap (λ b. by_tests airline agent issue rows b (is_amount issue.amount)) (known_too airline agent rows ∙ h)

pub out_of_range : (airline agent : ℕ) (issue : MemoIssue) (rows : Rows) → is_some (agent_token agent rows) ≡ true → is_amount issue.amount ≡ false → issuing airline issue (airline_ledger_of airline rows) (Some agent) ≡ Refused (refusal.Memo AmountOutOfRange)
out_of_range airline agent issue rows h right =
    ap (λ b. by_tests airline agent issue rows b (is_amount issue.amount)) (known_too airline agent rows ∙ h) ∙ ap (λ b. by_tests airline agent issue rows true b) right

beside_found : (airline agent : ℕ) (issue : MemoIssue) (rows : Rows) (found : Option MemoFields) → issue_beside airline agent issue (airline_ledger_of airline rows) found ≡ beside (new_memo airline agent issue rows.published.day) rows found
beside_found airline agent issue rows (Some other) = refl
beside_found airline agent issue rows None =
    ap (λ (n : ℕ). cond (nat_le (limit_of rows.published.terms) n) (Refused (refusal.Memo LimitReached)) (Changed Done)) (counted_to airline agent rows)

pub placing_is : (airline agent : ℕ) (issue : MemoIssue) (rows : Rows) → is_some (agent_token agent rows) ≡ true → is_amount issue.amount ≡ true → issuing airline issue (airline_ledger_of airline rows) (Some agent) ≡ placing (new_memo airline agent issue rows.published.day) rows
placing_is airline agent issue rows h right =
    ap (λ b. by_tests airline agent issue rows b (is_amount issue.amount)) (known_too airline agent rows ∙ h)
    ∙ (ap (λ b. by_tests airline agent issue rows true b) right
    ∙ (ap (issue_beside airline agent issue (airline_ledger_of airline rows)) (by_airline airline issue.document rows)
    ∙ beside_found airline agent issue rows (memo_at (issue_key airline issue.document) rows)))

-- ---- what the amount is, by what is made of it

pub made_of : (right : Bool) (made memo : MemoFields) → ◌≡◌ {A = Result MemoFields MemoFault} (Ok memo) (cond (not right) (Err AmountOutOfRange) (Ok made)) → (right ≡ true) × (memo ≡ made)
made_of true made memo e = (refl, cc)
made_of false made memo e = absurd (cc e)

pub refused_of : (right : Bool) (made : MemoFields) (fault : MemoFault) → ◌≡◌ {A = Result MemoFields MemoFault} (Err fault) (cond (not right) (Err AmountOutOfRange) (Ok made)) → (right ≡ false) × (fault ≡ AmountOutOfRange)
refused_of true made fault e = absurd (cc e)
refused_of false made fault e = (refl, cc)
