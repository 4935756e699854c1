-- What each verdict says of the rows of the table.
use Rattle.std.proofs.Common.{◌≡◌, ℕ, Bool, true, false, ◌&&◌, ◌||◌, not, List, [], ◌∷◌, Option, Some, None, is_some, is_none, Result, Ok, Err, refl, sym, ap, ◌∙◌, nat_le}
use Rattle.std.specs.Option.{unwrap_or}
use Rattle.std.specs.List.{list_any}
use Rattle.std.proofs.lemmas.Bool.{false≢true, not-false, leb-false, or_parts, lt-leb}
use Rattle.std.specs.Str.{bytes_eq}
use Rattle.std.proofs.lemmas.Slice.Eq.{bytes_eq-Decides}
use Rattle.bsp_fields.specs.Decimal.{fixed_digits}
use Rattle.bsp_fields.specs.FirstFault.{first_fault_or}
use Rattle.bsp_calendar.specs.DayOrder.{is_before}
use Rattle.bsp_calendar.specs.Published.{Published, has_airline, rate_on, target_of}
use Rattle.bsp_ret_records.specs.declared.codes.TransactionCode.{TransactionCode}
use Rattle.bsp_ret_records.specs.declared.codes.TransactionCode.TheVariants.{Tktt, Rfnd, Canx}
use Rattle.bsp_ret_records.specs.declared.transactions.Transaction.{Transaction}
use Rattle.bsp_rules.specs.declared.facts.Facts.{Facts}
use Rattle.bsp_rules.specs.declared.verdict.Refusal.{Refusal}
use Rattle.bsp_rules.specs.declared.verdict.Refusal.TheVariants.{WrongAgent, UnknownAirline, WrongCheckDigit, NotYetIssued, NotInStock, NumberUsed, WrongAmounts, NoTicket, TicketEnded, WrongAgainstTicket, NoPeriod, LimitReached}
use Rattle.bsp_rules.specs.declared.verdict.Reporter.{Reporter}
use Rattle.bsp_rules.specs.declared.verdict.Reporter.TheVariants.{Office, Agent}
use Rattle.bsp_rules.specs.declared.verdict.Verdict.{Verdict}
use Rattle.bsp_rules.specs.declared.verdict.Verdict.TheVariants.{Held, Accepted, Refused}
use Rattle.bsp_rules.specs.Amounts.{has_wrong_amounts}
use Rattle.bsp_rules.specs.Tickets.{disagrees_with_tickets}
use Rattle.bsp_rules.specs.Verdicts.{are_missing, has_ended, has_wrong_agent, has_wrong_check_digit, is_ended, is_missing, is_number_used, is_other_agent, lacks_ticket, limit_of, rows, told, verdict_on}
use Rattle.bsp_rules.specs.Meanings.{AcceptedCanxIsFree, AcceptedIsPassed, AcceptedTicketsLive, AgentIsReporters, HeldIsFound, IsFirstRow, IsPassed, IsReporterOf, RefusedIsFirst, WrongAgentIsFirst, ends_tickets}

-- ---- the first row of a table

in_front : (row : Bool × Verdict) (table : List (Bool × Verdict)) (v : Verdict) → row.0 ≡ false → IsFirstRow table v → IsFirstRow (row ∷ table) v
in_front row table v h first = record {
  before = row ∷ first.before;
  later = first.later;
  split = ap (λ rest. row ∷ rest) first.split;
  none_before = ap (λ b. b || list_any (λ (r : Bool × Verdict). r.0) first.before) h ∙ first.none_before;
}

first_row : (table : List (Bool × Verdict)) (x : ℕ) (v : Verdict) → first_fault_or table x ≡ Err v → IsFirstRow table v
first_row [] x v e = absurd (cc e)
first_row ((true, w) ∷ table) x v e =
    let same : w ≡ v = cc e in
    record { before = []; later = table; split = ap (λ u. (true, u) ∷ table) same; none_before = refl }
first_row ((false, w) ∷ table) x v e = in_front (false, w) table v refl (first_row table x v e)

told_refused : (answer : Result ℕ Verdict) (refusal : Refusal) → told answer ≡ Refused refusal → answer ≡ Err (Refused refusal)
told_refused (Ok period) refusal e = absurd (cc e)
told_refused (Err verdict) refusal e = ap (λ (v : Verdict). Err v) e

pub refused_first : RefusedIsFirst
unfolding verdict_on
refused_first reporter t f p refusal h =
    let x = unwrap_or (target_of p t.issued) 0 in
    first_row (rows reporter t f p) x (Refused refusal) (told_refused (first_fault_or (rows reporter t f p) x) refusal h)

-- ---- accepted

not_accepted : (refusal : Refusal) (period : ℕ) → Refused refusal ≡ Accepted period → ⊥
not_accepted refusal period e = absurd (cc e)

held_not_accepted : (x period : ℕ) → Held x ≡ Accepted period → ⊥
held_not_accepted x period e = absurd (cc e)

-- a row whose verdict is another does not apply
passed : (w : Verdict) (test : Bool) (v : Verdict) (more : List (Bool × Verdict)) (x : ℕ) → (v ≡ w → ⊥) → told (first_fault_or ((test, v) ∷ more) x) ≡ w → (test ≡ false) × (told (first_fault_or more x) ≡ w)
passed w true v more x never h = absurd (never h)
passed w false v more x never h = (refl, h)

none_held : (held : Option ℕ) → is_some held ≡ false → held ≡ None
none_held None h = refl
none_held (Some period) h = absurd (cc h)

target_is : (target : Option ℕ) (period : ℕ) → is_none target ≡ false → told (first_fault_or [] (unwrap_or target 0)) ≡ Accepted period → target ≡ Some period
target_is None period some h = absurd (cc some)
target_is (Some x) period some h = let same : x ≡ period = cc h in ap (λ (y : ℕ). Some y) same

accepted_passed : (reporter : Reporter) (t : Transaction) (f : Facts) (p : Published) (period : ℕ) → verdict_on reporter t f p ≡ Accepted period → IsPassed reporter t f p period
unfolding verdict_on
accepted_passed reporter t f p period h =
    let x = unwrap_or (target_of p t.issued) 0 in
    let w = Accepted period in
    let r11 : List (Bool × Verdict) = (nat_le (limit_of p.terms) f.count, Refused LimitReached) ∷ [] in
    let r10 : List (Bool × Verdict) = (is_none (target_of p t.issued), Refused NoPeriod) ∷ r11 in
    let r9 : List (Bool × Verdict) = (disagrees_with_tickets t f.related, Refused WrongAgainstTicket) ∷ r10 in
    let r8 : List (Bool × Verdict) = (has_ended t f, Refused TicketEnded) ∷ r9 in
    let r7 : List (Bool × Verdict) = (lacks_ticket t f, Refused NoTicket) ∷ r8 in
    let r6 : List (Bool × Verdict) = (has_wrong_amounts t (rate_on p t.document.airline t.issued), Refused WrongAmounts) ∷ r7 in
    let r5 : List (Bool × Verdict) = (is_number_used t.code f.own, Refused NumberUsed) ∷ r6 in
    let r4 : List (Bool × Verdict) = (not f.in_range, Refused NotInStock) ∷ r5 in
    let r3 : List (Bool × Verdict) = (is_before p.day t.issued, Refused NotYetIssued) ∷ r4 in
    let r2 : List (Bool × Verdict) = (has_wrong_check_digit t, Refused WrongCheckDigit) ∷ r3 in
    let r1 : List (Bool × Verdict) = (not (has_airline p t.document.airline), Refused UnknownAirline) ∷ r2 in
    let r0 : List (Bool × Verdict) = (is_some f.held, Held (unwrap_or f.held 0)) ∷ r1 in
    let a = passed w (has_wrong_agent reporter t f) (Refused WrongAgent) r0 x (not_accepted WrongAgent period) h in
    let b = passed w (is_some f.held) (Held (unwrap_or f.held 0)) r1 x (held_not_accepted (unwrap_or f.held 0) period) a.1 in
    let c = passed w (not (has_airline p t.document.airline)) (Refused UnknownAirline) r2 x (not_accepted UnknownAirline period) b.1 in
    let d = passed w (has_wrong_check_digit t) (Refused WrongCheckDigit) r3 x (not_accepted WrongCheckDigit period) c.1 in
    let e = passed w (is_before p.day t.issued) (Refused NotYetIssued) r4 x (not_accepted NotYetIssued period) d.1 in
    let g = passed w (not f.in_range) (Refused NotInStock) r5 x (not_accepted NotInStock period) e.1 in
    let i = passed w (is_number_used t.code f.own) (Refused NumberUsed) r6 x (not_accepted NumberUsed period) g.1 in
    let j = passed w (has_wrong_amounts t (rate_on p t.document.airline t.issued)) (Refused WrongAmounts) r7 x (not_accepted WrongAmounts period) i.1 in
    let k = passed w (lacks_ticket t f) (Refused NoTicket) r8 x (not_accepted NoTicket period) j.1 in
    let l = passed w (has_ended t f) (Refused TicketEnded) r9 x (not_accepted TicketEnded period) k.1 in
    let m = passed w (disagrees_with_tickets t f.related) (Refused WrongAgainstTicket) r10 x (not_accepted WrongAgainstTicket period) l.1 in
    let n = passed w (is_none (target_of p t.issued)) (Refused NoPeriod) r11 x (not_accepted NoPeriod period) m.1 in
    let o = passed w (nat_le (limit_of p.terms) f.count) (Refused LimitReached) [] x (not_accepted LimitReached period) n.1 in
    record {
      agent = a.0;
      held = none_held f.held b.0;
      airline = not-false _ c.0;
      check_digits = d.0;
      issued = e.0;
      in_stock = not-false _ g.0;
      number = i.0;
      amounts = j.0;
      tickets = k.0;
      ended = l.0;
      agreed = m.0;
      target = target_is (target_of p t.issued) period n.0 o.1;
      limit = leb-false (limit_of p.terms) f.count o.0;
    }

passed_accepted : (reporter : Reporter) (t : Transaction) (f : Facts) (p : Published) (period : ℕ) → IsPassed reporter t f p period → verdict_on reporter t f p ≡ Accepted period
unfolding verdict_on lacks_ticket has_ended
passed_accepted reporter t f p period h =
    let below : nat_le (limit_of p.terms) f.count ≡ false = lt-leb (limit_of p.terms) f.count h.limit in
    rw (h.agent, h.held, h.airline, h.check_digits, h.issued, h.in_stock, h.number, h.amounts, h.tickets, h.ended, h.agreed, h.target, below) refl

pub accepted_is_passed : AcceptedIsPassed
accepted_is_passed reporter t f p period = (accepted_passed reporter t f p period, passed_accepted reporter t f p period)

-- ---- held

-- no row of the table has this verdict
abbrev AreOthers : Verdict → List (Bool × Verdict) → Type 0
AreOthers w [] = Unit {0}
AreOthers w (row ∷ table) = (row.1 ≡ w → ⊥) × AreOthers w table

never : (w : Verdict) (table : List (Bool × Verdict)) (x : ℕ) → (Accepted x ≡ w → ⊥) → AreOthers w table → told (first_fault_or table x) ≡ w → ⊥
never w [] x accepted h e = accepted e
never w ((true, v) ∷ table) x accepted h e = h.0 e
never w ((false, v) ∷ table) x accepted h e = never w table x accepted h.1 e

refusal_not_held : (refusal : Refusal) (period : ℕ) → Refused refusal ≡ Held period → ⊥
refusal_not_held refusal period e = absurd (cc e)

accepted_not_held : (x period : ℕ) → Accepted x ≡ Held period → ⊥
accepted_not_held x period e = absurd (cc e)

held_row : (held : Option ℕ) (more : List (Bool × Verdict)) (x period : ℕ) → AreOthers (Held period) more → told (first_fault_or ((is_some held, Held (unwrap_or held 0)) ∷ more) x) ≡ Held period → held ≡ Some period
held_row None more x period h e = absurd (never (Held period) more x (accepted_not_held x period) h e)
held_row (Some y) more x period h e = let same : y ≡ period = cc e in ap (λ (z : ℕ). Some z) same

-- the rows below the first two
abbrev behind_two : {X : Type 0} → List X → List X
behind_two (x ∷ y ∷ rest) = rest
behind_two _ = []

abbrev later_rows : Reporter → Transaction → Facts → Published → List (Bool × Verdict)
later_rows reporter t f p = behind_two (rows reporter t f p)

held_found : (reporter : Reporter) (t : Transaction) (f : Facts) (p : Published) (period : ℕ) → verdict_on reporter t f p ≡ Held period → (has_wrong_agent reporter t f ≡ false) × (f.held ≡ Some period)
unfolding verdict_on
held_found reporter t f p period h =
    let x = unwrap_or (target_of p t.issued) 0 in
    let not_held = λ (r : Refusal). refusal_not_held r period in
    let others : AreOthers (Held period) (later_rows reporter t f p) =
    (not_held UnknownAirline, (not_held WrongCheckDigit, (not_held NotYetIssued, (not_held NotInStock, (not_held NumberUsed, (not_held WrongAmounts, (not_held NoTicket, (not_held TicketEnded, (not_held WrongAgainstTicket, (not_held NoPeriod, (not_held LimitReached, tt))))))))))) in
    let a = passed (Held period) (has_wrong_agent reporter t f) (Refused WrongAgent) ((is_some f.held, Held (unwrap_or f.held 0)) ∷ later_rows reporter t f p) x (not_held WrongAgent) h in
    (a.0, held_row f.held (later_rows reporter t f p) x period others a.1)

found_held : (reporter : Reporter) (t : Transaction) (f : Facts) (p : Published) (period : ℕ) → (has_wrong_agent reporter t f ≡ false) × (f.held ≡ Some period) → verdict_on reporter t f p ≡ Held period
unfolding verdict_on
found_held reporter t f p period h = rw (h.0, h.1) refl

pub held_is_found : HeldIsFound
held_is_found reporter t f p period = (held_found reporter t f p period, found_held reporter t f p period)

-- ---- the wrong agent

agent_row : (test : Bool) (more : List (Bool × Verdict)) (x : ℕ) → AreOthers (Refused WrongAgent) more → told (first_fault_or ((test, Refused WrongAgent) ∷ more) x) ≡ Refused WrongAgent → test ≡ true
agent_row true more x h e = refl
agent_row false more x h e = absurd (never (Refused WrongAgent) more x (λ a. absurd (cc a)) h e)

agent_wrong : (reporter : Reporter) (t : Transaction) (f : Facts) (p : Published) → verdict_on reporter t f p ≡ Refused WrongAgent → has_wrong_agent reporter t f ≡ true
unfolding verdict_on
agent_wrong reporter t f p h =
    let x = unwrap_or (target_of p t.issued) 0 in
    let held : Held (unwrap_or f.held 0) ≡ Refused WrongAgent → ⊥ = λ e. absurd (cc e) in
    let others : AreOthers (Refused WrongAgent) (later_rows reporter t f p) =
    (λ e. absurd (cc e), (λ e. absurd (cc e), (λ e. absurd (cc e), (λ e. absurd (cc e), (λ e. absurd (cc e), (λ e. absurd (cc e), (λ e. absurd (cc e), (λ e. absurd (cc e), (λ e. absurd (cc e), (λ e. absurd (cc e), (λ e. absurd (cc e), tt))))))))))) in
    agent_row (has_wrong_agent reporter t f) ((is_some f.held, Held (unwrap_or f.held 0)) ∷ later_rows reporter t f p) x (held, others) h

wrong_agent : (reporter : Reporter) (t : Transaction) (f : Facts) (p : Published) → has_wrong_agent reporter t f ≡ true → verdict_on reporter t f p ≡ Refused WrongAgent
unfolding verdict_on
wrong_agent reporter t f p h = rw h refl

pub wrong_agent_first : WrongAgentIsFirst
wrong_agent_first reporter t f p = (agent_wrong reporter t f p, wrong_agent reporter t f p)

-- ---- the right agent

not_either : (x y : Bool) → x ≡ false → y ≡ false → (x || y) ≡ false
not_either x y h k = ap (λ b. b || y) h ∙ k

reporter_of : (reporter : Reporter) (t : Transaction) → is_other_agent reporter t ≡ false → IsReporterOf reporter t
reporter_of Office t h = tt
reporter_of (Agent agent) t h = sym ((bytes_eq-Decides (fixed_digits 8 agent) t.agent).0 (not-false (bytes_eq (fixed_digits 8 agent) t.agent) h))

not_other : (reporter : Reporter) (t : Transaction) → IsReporterOf reporter t → is_other_agent reporter t ≡ false
not_other Office t h = refl
not_other (Agent agent) t h = ap not ((bytes_eq-Decides (fixed_digits 8 agent) t.agent).1 (sym h))

pub agent_is_reporters : AgentIsReporters
unfolding has_wrong_agent
agent_is_reporters reporter t f = (
  (λ h. let both = or_parts (not f.registered) (is_other_agent reporter t) h in (not-false f.registered both.0, reporter_of reporter t both.1)),
  (λ h. not_either (not f.registered) (is_other_agent reporter t) (ap not h.0) (not_other reporter t h.1)),
)

-- ---- rows E06, E08 and E09 of what is accepted

past : (a b : Bool) → a ≡ true → (a && b) ≡ false → b ≡ false
past true b e h = h
past false b e h = absurd (false≢true e)

none_missing : (t : Transaction) (f : Facts) → ends_tickets t.code (is_some t.exchange) ≡ true → lacks_ticket t f ≡ false → are_missing t.document.airline f.related ≡ false
unfolding lacks_ticket
none_missing t f n h = by_code t.code refl where
  by_code : (code : TransactionCode) → t.code ≡ code → are_missing t.document.airline f.related ≡ false
  by_code Tktt is = past (is_some t.exchange) (are_missing t.document.airline f.related) (rw is at n) (rw is at h)
  by_code Rfnd is = rw is at h
  by_code Canx is = absurd (false≢true (rw is at n))

none_ended : (t : Transaction) (f : Facts) → ends_tickets t.code (is_some t.exchange) ≡ true → has_ended t f ≡ false → list_any is_ended f.related ≡ false
unfolding has_ended
none_ended t f n h = by_code t.code refl where
  by_code : (code : TransactionCode) → t.code ≡ code → list_any is_ended f.related ≡ false
  by_code Tktt is = past (is_some t.exchange) (list_any is_ended f.related) (rw is at n) (rw is at h)
  by_code Rfnd is = rw is at h
  by_code Canx is = absurd (false≢true (rw is at n))

pub tickets_live : AcceptedTicketsLive
tickets_live reporter t f p period h n =
    let missing = or_parts (list_any (is_missing t.document.airline) f.related) (not (list_any is_some f.related)) (none_missing t f n h.tickets) in
    (not-false (list_any is_some f.related) missing.1, (missing.0, none_ended t f n h.ended))

pub canx_free : AcceptedCanxIsFree
unfolding lacks_ticket has_ended
canx_free reporter t f p period h is =
    let ended = or_parts f.own.is_in_closed_period f.own.is_related_to (rw is at h.ended) in
    record { not_cancelled = rw is at h.number; own_airline = rw is at h.tickets; unclosed = ended.0; unrelated = ended.1 }
