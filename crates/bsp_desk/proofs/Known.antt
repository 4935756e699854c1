-- What a call of a known caller is answered, and of any other.
use Rattle.std.proofs.Common.{◌≡◌, ℕ, Bool, true, false, cond, List, [], Option, Some, None, Result, Ok, Err, refl, sym, ap, subst, ◌∙◌}
use Rattle.std.specs.Result.{result_ok}
use Rattle.bsp_rows.specs.Codes.{agent_reading}
use Rattle.bsp_book.specs.Calls.{Keeps, LooksUp, Meaning}
use Rattle.bsp_book.specs.declared.fault.BookFault.{BookFault}
use Rattle.bsp_messages.specs.Values.{airline_in}
use Rattle.bsp_messages.specs.declared.answer.Answer.{Answer as Message}
use Rattle.bsp_messages.specs.declared.answer.Answer.TheVariants as message
use Rattle.bsp_messages.specs.declared.refusal.RequestRefusal.TheVariants.{Forbidden}
use Rattle.bsp_rows.specs.Rows.{Rows, agent_token, airline_token}
use Rattle.bsp_desk_writes.specs.After.{agent_after, airline_after}
use Rattle.bsp_desk_writes.specs.Serves.{Serves}
use Rattle.bsp_desk_writes.proofs.Unchanged.{unchanged}
use Rattle.bsp_desk_writes.specs.AirlineLedger.{airline_answer, airline_ledger_of}
use Rattle.bsp_desk_writes.specs.Answers.{Answer, is_done, verdicts_in}
use Rattle.bsp_desk_writes.specs.Answers.Answer.{Refused}
use Rattle.bsp_desk_writes.specs.Ledger.{agent_of, ledger_answer, ledger_of}
use Rattle.bsp_desk_writes.specs.Requests.{AgentRequest, AirlineRequest, Asked}
use Rattle.bsp_desk_writes.specs.Requests.Asked.{ByAgent, ByAirline}
use Rattle.bsp_desk_writes.specs.Step.{agent_done, asked_after, asked_answer, by_airline, filed_by_agent, is_token, to_agent, to_airline}
use Rattle.bsp_desk_writes.specs.Texts.{Says}
use Rattle.bsp_desk.specs.Callers.{if_own, known_agent, known_airline}

-- ---- the caller

-- a known caller is the one that the code names, and the token is its own
pub own : (token_of : ℕ → Rows → Option (List ℕ)) (given : Option (List ℕ)) (o : Option ℕ) (rows : Rows) (caller : ℕ)
    → if_own token_of given o rows ≡ Some caller → (o ≡ Some caller) × (is_token (token_of caller rows) given ≡ true)
own token_of given None rows caller e = absurd (cc)
own token_of given (Some other) rows caller e = go (is_token (token_of other rows) given) refl e
  where
    go : (b : Bool) → is_token (token_of other rows) given ≡ b → cond b (Some other) None ≡ Some caller → (Some other ≡ Some caller) × (is_token (token_of caller rows) given ≡ true)
    go true is k = let same : other ≡ caller = cc in (k, subst (λ c. is_token (token_of c rows) given ≡ true) same is)
    go false is k = absurd (cc)

-- by the token that was found of the caller of a code
known_by : (token_of : ℕ → Rows → Option (List ℕ)) (given : Option (List ℕ)) (o : Option ℕ) (caller : ℕ) (found : Option (List ℕ)) (b : Bool) (rows : Rows)
    → o ≡ Some caller → is_token found given ≡ b → found ≡ token_of caller rows → cond b (Some caller) None ≡ if_own token_of given o rows
known_by token_of given o caller found b rows named is of =
    let held : is_token (token_of caller rows) given ≡ b = ap (λ (t : Option (List ℕ)). is_token t given) (sym of) ∙ is in
    sym (ap (λ (x : Option ℕ). if_own token_of given x rows) named ∙ ap (λ (y : Bool). cond y (Some caller) None) held)

pub agent_found : {B : Type 0} (m : Meaning B Rows) (old new : B) (given : Option (List ℕ)) (code : List ℕ) (agent : ℕ) (found : Option (List ℕ)) (b : Bool) → agent_reading code ≡ Ok agent
    → is_token found given ≡ b → LooksUp m old new (Ok found) (λ t. t) (agent_token agent) → LooksUp m old new (Ok (cond b (Some agent) None)) (λ t. t) (known_agent given code)
agent_found m old new given code agent found b reads is looked = record {
  found = λ t now begun h. known_by agent_token given (agent_of code) agent found b now (ap result_ok reads) is (looked.found t now begun h);
  ok = looked.ok;
  fault = record {
    trust = looked.fault.trust;
    full = λ is. absurd (cc is);
    failed = looked.fault.failed;
    left = λ is. absurd (cc is);
    dead = λ failed. let k = (looked.fault.dead failed).0 in absurd (cc k);
  };
}

pub agent_answered : (given : Option (List ℕ)) (code : List ℕ) (call : AgentRequest) (rows : Rows) (agent : ℕ)
    → known_agent given code rows ≡ Some agent → asked_answer [] given (ByAgent code call) rows ≡ ledger_answer agent (ledger_of agent rows) call
agent_answered given code call rows agent e =
    let h = own agent_token given (agent_of code) rows agent e in
    ap (λ (o : Option ℕ). to_agent o given call rows) h.0 ∙ ap (λ b. cond b (ledger_answer agent (ledger_of agent rows) call) (Refused Forbidden)) h.1

pub agent_next : (given : Option (List ℕ)) (code : List ℕ) (call : AgentRequest) (rows : Rows) (agent : ℕ)
    → known_agent given code rows ≡ Some agent → asked_after (ByAgent code call) (asked_answer [] given (ByAgent code call) rows) rows ≡ agent_after agent call rows
agent_next given code call rows agent e =
    let h = own agent_token given (agent_of code) rows agent e in
    ap (λ (a : Answer). asked_after (ByAgent code call) a rows) (agent_answered given code call rows agent e)
    ∙ ap (λ (o : Option ℕ). cond (is_done (ledger_answer agent (ledger_of agent rows) call)) (agent_done call rows) (filed_by_agent o call (verdicts_in (ledger_answer agent (ledger_of agent rows) call)) rows)) h.0

pub airline_answered : (given : Option (List ℕ)) (code : List ℕ) (call : AirlineRequest) (rows : Rows) (airline : ℕ)
    → known_airline given code rows ≡ Some airline → asked_answer [] given (ByAirline code call) rows ≡ airline_answer airline (airline_ledger_of airline rows) call
airline_answered given code call rows airline e =
    let h = own airline_token given (airline_in code) rows airline e in
    ap (λ (o : Option ℕ). to_airline o given call rows) h.0 ∙ ap (λ b. cond b (airline_answer airline (airline_ledger_of airline rows) call) (Refused Forbidden)) h.1

pub airline_next : (given : Option (List ℕ)) (code : List ℕ) (call : AirlineRequest) (rows : Rows) (airline : ℕ)
    → known_airline given code rows ≡ Some airline → asked_after (ByAirline code call) (asked_answer [] given (ByAirline code call) rows) rows ≡ airline_after airline call rows
airline_next given code call rows airline e =
    let h = own airline_token given (airline_in code) rows airline e in
    ap (λ (a : Answer). asked_after (ByAirline code call) a rows) (airline_answered given code call rows airline e)
    ∙ ap (λ (o : Option ℕ). cond (is_done (airline_answer airline (airline_ledger_of airline rows) call)) (by_airline o call rows) rows) h.0

-- a caller that is unknown, or whose token is another
pub agent_refused : (given : Option (List ℕ)) (code : List ℕ) (call : AgentRequest) (rows : Rows)
    → known_agent given code rows ≡ None → asked_answer [] given (ByAgent code call) rows ≡ Refused Forbidden
agent_refused given code call rows e = go (agent_of code) e
  where
    by : (agent : ℕ) (b : Bool) → (let none : Option ℕ = None in cond b (Some agent) None ≡ none) → cond b (ledger_answer agent (ledger_of agent rows) call) (Refused Forbidden) ≡ Refused Forbidden
    by agent true k = absurd (cc)
    by agent false k = refl

    go : (o : Option ℕ) → if_own agent_token given o rows ≡ None → to_agent o given call rows ≡ Refused Forbidden
    go None k = refl
    go (Some agent) k = by agent (is_token (agent_token agent rows) given) k

-- ---- what is served

-- a part that begins when the rows have been looked up serves what is answered over the same rows
pub serves_as : {B : Type 0} (m : Meaning B Rows) (old mid new : B) (answer other : Rows → Answer) (next left : Rows → Rows) (result : Result Message BookFault)
    → (m.trusts new → m.trusts mid) → Keeps m old mid
    → (m.trusts mid → (now last : Rows) → m.holds old now (Some last) → (other now ≡ answer now) × (left now ≡ next now))
    → Serves m mid new result answer next → Serves m old new result other left
serves_as m old mid new answer other next left (Ok message) trust keeps same served = λ t now last sound h.
    let e = same (trust t) now last h in
    let s = served t now last sound (keeps now (Some last) h) in
    (subst (λ (a : Answer). Says a message) (sym e.0) s.0, subst (λ (rows : Rows). m.holds new rows (Some last)) (sym e.1) s.1)
serves_as m old mid new answer other next left (Err fault) trust keeps same served = tt

-- one that is forbidden leaves the rows
pub forbids : {B : Type 0} (m : Meaning B Rows) (old new : B) (asked : Asked) (answer : Rows → Answer) → Keeps m old new
    → (m.trusts new → (now last : Rows) → m.holds old now (Some last) → answer now ≡ Refused Forbidden)
    → Serves m old new (Ok (message.Refused Forbidden)) answer (λ rows. asked_after asked (answer rows) rows)
forbids m old new asked answer keeps is = λ t now last sound h.
    let e = is t now last h in
    let stays : asked_after asked (answer now) now ≡ now = ap (λ (a : Answer). asked_after asked a now) e ∙ unchanged now (record { token = None; asked = asked }) (Refused Forbidden) refl refl in
    (subst (λ (a : Answer). Says a (message.Refused Forbidden)) (sym e) refl, subst (λ (rows : Rows). m.holds new rows (Some last)) (sym stays) (keeps now (Some last) h))
