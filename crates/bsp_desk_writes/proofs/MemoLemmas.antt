-- Whose memo is at a key, and which memos are whose.
use Rattle.std.proofs.Common.{◌≡◌, ℕ, ◌==◌, Bool, true, false, cond, map, Option, Some, None, refl, sym, ap, ◌∙◌}
use Rattle.std.specs.FinMap.{entries, values}
use Rattle.std.proofs.lemmas.Bool.{eq-eqb}
use Rattle.bsp_memos.specs.declared.fields.MemoFields.{MemoFields}
use Rattle.bsp_rows.specs.Part.{agent_part, airline_part}
use Rattle.bsp_rows.specs.Rows.{Rows, memo_at, memos_of}
use Rattle.bsp_rows.specs.declared.keys.MemoKey.{MemoKey}
use Rattle.bsp_rows.specs.declared.questions.Memos.TheVariants.{OfAgent, OfAirline}
use Rattle.bsp_rows.proofs.KeyOrders.{memo_exact, memo_total}
use Rattle.bsp_rows.proofs.PartLaws.{filter-map}
use Rattle.bsp_rows.proofs.PartLemmas.{kept_entries, kept_get, passing}
use Rattle.bsp_office_spec.specs.AirlineLedger.{issue_key}
use Rattle.bsp_office_spec.proofs.Seen.{of_its_airline}
use Rattle.bsp_office_spec.proofs.SeenLemmas.{own_memo}
use Rattle.bsp_desk_writes.specs.Actions.{IsFound, memo_by, memo_to}

-- ---- the memo at a key

pub to_agent : (agent : ℕ) (key : MemoKey) (rows : Rows) (found : Option MemoFields) → found ≡ memo_at key rows → memo_to agent key rows ≡ passing (own_memo agent) key found
to_agent agent key rows found is = kept_get memo_total memo_exact (own_memo agent) rows.memos key ∙ ap (passing (own_memo agent) key) (sym is)

-- of a memo that is found, to this agent or to another
pub is_own : (agent : ℕ) (key : MemoKey) (rows : Rows) (m : MemoFields) → Some m ≡ memo_at key rows → (m.agent == agent) ≡ true → Some m ≡ memo_to agent key rows
is_own agent key rows m is own = sym (to_agent agent key rows (Some m) is ∙ ap (λ b. cond b (Some m) None) own)

pub is_other : (agent : ℕ) (key : MemoKey) (rows : Rows) (m : MemoFields) → Some m ≡ memo_at key rows → (m.agent == agent) ≡ false → None ≡ memo_to agent key rows
is_other agent key rows m is own = sym (to_agent agent key rows (Some m) is ∙ ap (λ b. cond b (Some m) None) own)

pub is_none : (agent : ℕ) (key : MemoKey) (rows : Rows) → None ≡ memo_at key rows → None ≡ memo_to agent key rows
is_none agent key rows is = sym (to_agent agent key rows None is)

own_by : (m n : MemoFields) (own : Bool) → ◌≡◌ {A = Option MemoFields} (Some m) (cond own (Some n) None) → ◌≡◌ {A = Option MemoFields} (Some n) (Some m)
own_by m n true e = sym e
own_by m n false e = absurd (cc e)

found_by : (agent : ℕ) (key : MemoKey) (rows : Rows) (m : MemoFields) (there : Option MemoFields) → memo_at key rows ≡ there → Some m ≡ passing (own_memo agent) key there → memo_at key rows ≡ Some m
found_by agent key rows m None at e = absurd (cc e)
found_by agent key rows m (Some n) at e = at ∙ own_by m n (n.agent == agent) e

-- it is that of the rows
pub found_to : (agent : ℕ) (key : MemoKey) (rows : Rows) (found : Option MemoFields) → found ≡ memo_to agent key rows → IsFound key found rows
found_to agent key rows None is = tt
found_to agent key rows (Some m) is = found_by agent key rows m (memo_at key rows) refl (is ∙ to_agent agent key rows (memo_at key rows) refl)

all_pass : (airline document : ℕ) (found : Option MemoFields) → passing (of_its_airline airline) (issue_key airline document) found ≡ found
all_pass airline document None = refl
all_pass airline document (Some m) = ap (λ b. cond b (Some m) None) (eq-eqb airline airline refl)

pub by_airline : (airline document : ℕ) (rows : Rows) → memo_by airline (issue_key airline document) rows ≡ memo_at (issue_key airline document) rows
by_airline airline document rows = kept_get memo_total memo_exact (of_its_airline airline) rows.memos (issue_key airline document) ∙ all_pass airline document (memo_at (issue_key airline document) rows)

pub found_at : (key : MemoKey) (rows : Rows) (found : Option MemoFields) → found ≡ memo_at key rows → IsFound key found rows
found_at key rows None is = tt
found_at key rows (Some m) is = sym is

-- ---- lists

pub shown_to : (agent : ℕ) (rows : Rows) → memos_of (OfAgent agent) rows ≡ values (agent_part agent rows).memos
shown_to agent rows =
    filter-map (λ (m : MemoFields). m.agent == agent) (λ (e : MemoKey × MemoFields). e.1) (entries rows.memos)
    ∙ ap (map (λ (e : MemoKey × MemoFields). e.1)) (sym (kept_entries memo_total memo_exact (own_memo agent) rows.memos))

pub shown_by : (airline : ℕ) (rows : Rows) → memos_of (OfAirline airline) rows ≡ values (airline_part airline rows).memos
shown_by airline rows = ap (map (λ (e : MemoKey × MemoFields). e.1)) (sym (kept_entries memo_total memo_exact (of_its_airline airline) rows.memos))
