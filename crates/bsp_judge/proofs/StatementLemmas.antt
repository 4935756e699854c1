-- Lemmas on the requests for a statement.
use Rattle.std.proofs.Common.{◌≡◌, ℕ, ◌+◌, ◌<◌, Bool, true, false, cond, List, [], ◌∷◌, ◌++◌, get_or, length, map, take, Option, Some, None, ap, append-nil, sym, subst, refl, ◌∙◌, arith}
use Rattle.std.specs.Prelude.{Ok, option_map}
use Rattle.std.specs.List.{AllByRecursion, FoldsTo, filter}
use Rattle.std.proofs.lemmas.List.{length-map, map_push}
use Rattle.std.proofs.lemmas.List.Elements.{filter_more}
use Rattle.bsp_fields.specs.CivilDay.{CivilDay}
use Rattle.bsp_calendar.specs.DayOrder.{is_up_to}
use Rattle.bsp_calendar.specs.Published.{Published, period_of}
use Rattle.bsp_calendar.specs.declared.entries.Period.{Period}
use Rattle.bsp_ret.specs.declared.model.RetFault.{RetFault}
use Rattle.bsp_rows.specs.Rows.{Rows}
use Rattle.bsp_desk_writes.specs.Requests.AgentRequest.{AgentFile}
use Rattle.bsp_desk.specs.Instructions.Own.{OfAgent}
use Rattle.bsp_judge.specs.Asked.{HasFault, IsPassed, Takes, Task, closing_of, closing_tasks, place_of, tasks}
use Rattle.bsp_judge.specs.Asked.Task.{AskFor, Close, Report, SetDay}
use Rattle.bsp_judge.specs.Judged.{IsSaid}
use Rattle.bsp_judge.specs.Unjudged.{IsStopIn, IsStopOf, IsUnstatedOver}
use Rattle.bsp_judge.specs.declared.setup.JudgeFault.{JudgeFault}
use Rattle.bsp_judge.specs.declared.setup.JudgeFault.TheVariants.{Refused, Earlier, File, UnknownPeriod, Memory}
use Rattle.bsp_judge.specs.declared.setup.Setup.{Setup}
use Rattle.bsp_judge.specs.declared.setup.Step.TheVariants.{Closing}
use Rattle.bsp_judge.proofs.UnjudgedLemmas.{more_after, more_before, stops_one}

-- ---- the period of a code

-- a period, and whether it is closed
abbrev pub told : (Period → Bool) → Period → Period × Bool
told closed p = (p, closed p)

pub found : (o : Option Period) (closed : Period → Bool) (r : Option (Period × Bool)) (x : Period × Bool) → r ≡ option_map (told closed) o → r ≡ Some x → o ≡ Some x.0
found (Some p) closed r x is there = ap (λ (y : Option (Period × Bool)). option_map (λ (z : Period × Bool). z.0) y) (sym is ∙ there)
found None closed r x is there = absurd (let e : None ≡ Some x = sym is ∙ there in cc e)

pub unknown : (o : Option Period) (closed : Period → Bool) (r : Option (Period × Bool)) → r ≡ option_map (told closed) o → r ≡ None → o ≡ None
unknown (Some p) closed r is none = absurd (let e : Some (told closed p) ≡ None = sym is ∙ none in cc e)
unknown None closed r is none = refl

-- the requests that close it
pub closing_is : (left : Rows) (code : ℕ) (plan : Published) (closed : Period → Bool) (r : Option (Period × Bool)) (x : Period × Bool) (ts : List Task) → plan ≡ left.published → r ≡ option_map (told closed) (period_of plan code) → r ≡ Some x → closing_of plan (Some x.0) ≡ ts
    → (period_of left.published code ≡ Some x.0) × (closing_tasks left code ≡ ts)
closing_is left code plan closed r x ts plan_is is there made =
    let known : period_of left.published code ≡ Some x.0 = subst (λ (p : Published). period_of p code ≡ Some x.0) plan_is (found (period_of plan code) closed r x is there) in
    (known, ap (closing_of left.published) known ∙ subst (λ (p : Published). closing_of p (Some x.0) ≡ ts) plan_is made)

-- ---- the codes of periods

-- with one more, if it ends by the day
pub codes_more : (last : CivilDay) (qs : List Period) (i : ℕ) (q : Period) (before after : List ℕ) → i < length qs → q ≡ get_or qs i q → before ≡ map (λ p. p.code) (filter (λ p. is_up_to p.last last) (take i qs))
    → (ends : Bool) → is_up_to q.last last ≡ ends → after ≡ before ++ cond ends (q.code ∷ []) [] → after ≡ map (λ p. p.code) (filter (λ p. is_up_to p.last last) (take (i + 1) qs))
codes_more last qs i q before after below is so_far ends up more =
    let code : Period → ℕ = λ p. p.code in
    let by_then : Period → Bool = λ p. is_up_to p.last last in
    let these = filter by_then (take i qs) in
    let next : filter by_then (take (i + 1) qs) ≡ these ++ cond ends (q ∷ []) [] =
    filter_more by_then qs i q below ∙ ap (λ (x : Period). these ++ cond (by_then x) (x ∷ []) []) (sym is) ∙ ap (λ (b : Bool). these ++ cond b (q ∷ []) []) up in
    more ∙ ap (λ (l : List ℕ). l ++ cond ends (q.code ∷ []) []) so_far ∙ sym (ap (map code) next ∙ pushed code these q ends) where
      pushed : (f : Period → ℕ) (xs : List Period) (x : Period) (b : Bool) → map f (xs ++ cond b (x ∷ []) []) ≡ map f xs ++ cond b (f x ∷ []) []
      pushed f xs x true = map_push f xs x
      pushed f xs x false = ap (map f) (append-nil xs) ∙ sym (append-nil (map f xs))

-- the closes of periods are those of their codes
pub closes_of : (qs : List Period) → map (λ code. Close code) (map (λ q. q.code) qs) ≡ map (λ q. Close q.code) qs
closes_of [] = refl
closes_of (q ∷ qs) = ap (λ (ts : List Task). Close q.code ∷ ts) (closes_of qs)

-- ---- the file

-- a file that has its verdicts is taken
pub filed : (agent : ℕ) (ready left : Rows) (text lines : List ℕ) (taken : Bool) → IsSaid agent ready left text lines taken → Takes ready (Report agent text) left
filed agent ready left text lines taken said = record {
  own = OfAgent agent (AgentFile (Ok said.transactions));
  asks = (said.transactions, said.file, refl);
  passed = subst IsPassed (sym said.answered) tt;
  after = said.after;
}

-- ---- no file is among the requests for a statement

abbrev HasNoFile : Task → Type 0
HasNoFile task = (fault : RetFault) (rows : Rows) → HasFault fault rows task → ⊥

no_file_at : (before rest : List Task) (item : Task) → AllByRecursion HasNoFile (before ++ item ∷ rest) → HasNoFile item
no_file_at [] rest item all = all.0
no_file_at (t ∷ before) rest item all = no_file_at before rest item all.1

no_file : (codes : List ℕ) (agent period : ℕ) → AllByRecursion HasNoFile (map (λ code. Close code) codes ++ AskFor agent period ∷ [])
no_file [] agent period = (λ fault rows has. has, tt)
no_file (code ∷ codes) agent period = (λ fault rows has. has, no_file codes agent period)

-- ---- why there is no statement

module _ (s : Setup) (left : Rows) (period : ℕ) (q : Period) (known : period_of left.published period ≡ Some q) (day : CivilDay) (codes : List ℕ)
    (closing : closing_tasks left period ≡ SetDay day ∷ map (λ code. Close code) codes) where
  abbrev begin : ℕ
  begin = length (tasks s) + 1

  unstated : (fault : JudgeFault) → IsStopIn s begin left ((SetDay day ∷ map (λ code. Close code) codes) ++ AskFor s.agent period ∷ []) fault → IsUnstatedOver s left period fault
  unstated (Refused r) is = (q, known, subst (λ (ts : List Task). IsStopIn s begin left (ts ++ AskFor s.agent period ∷ []) (Refused r)) (sym closing) is)
  unstated Memory is = tt
  unstated UnknownPeriod is = absurd is
  unstated (File fault) is = absurd is
  unstated (Earlier i fault) is =
      let stop = is.2 in
      let all : AllByRecursion HasNoFile ((SetDay day ∷ map (λ code. Close code) codes) ++ AskFor s.agent period ∷ []) = (λ fault rows has. has, no_file codes s.agent period) in
      absurd (no_file_at stop.before stop.rest stop.item (subst (AllByRecursion HasNoFile) stop.are all) fault stop.state stop.stops)

  -- a close stops
  pub close_stops : (fault : JudgeFault) → IsStopIn s begin left (SetDay day ∷ map (λ code. Close code) codes) fault → IsUnstatedOver s left period fault
  close_stops fault is = unstated fault (more_after s begin left (SetDay day ∷ map (λ code. Close code) codes) (AskFor s.agent period ∷ []) fault is)

  -- after the closes the statement does
  pub statement_stops : (closed : Rows) → FoldsTo Takes left (SetDay day ∷ map (λ code. Close code) codes) closed → (fault : JudgeFault) → IsStopOf s (place_of s (Closing (length codes + 1))) closed (AskFor s.agent period) fault → IsUnstatedOver s left period fault
  statement_stops closed closes fault stop =
      let ts : List Task = SetDay day ∷ map (λ code. Close code) codes in
      let count : length (map (λ code. Close code) codes) ≡ length codes = length-map codes (λ (code : ℕ). Close code) in
      let place : place_of s (Closing (length codes + 1)) ≡ (begin + length ts) + 0 = omega (arith, count) in
      unstated fault (more_before s begin left closed ts (AskFor s.agent period ∷ []) closes fault
      (stops_one s (λ (t : Task). t) (AskFor s.agent period ∷ []) (begin + length ts) closed closed 0 (AskFor s.agent period) (AskFor s.agent period) (omega arith) refl refl (place_of s (Closing (length codes + 1))) place fault stop))
