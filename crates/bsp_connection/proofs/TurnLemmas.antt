-- One turn of a connection.
use Rattle.std.proofs.Common.{◌≡◌, inl, inr, ℕ, ◌+◌, ◌<◌, ◌≤◌, ◌||◌, ◌==◌, Bool, true, false, List, [], ◌++◌, length, take, Option, Some, None, is_some, not, refl, sym, ap, ◌∙◌, subst, arith}
use Rattle.std.proofs.lemmas.Bool.{cases_Bool, false≢true}
use Rattle.httparse.specs.Spans.{span_bytes}
use Rattle.bsp_routes.specs.Replies.{ReplyText}
use Rattle.bsp_routes.specs.Responses.{refusal_reply, response}
use Rattle.bsp_routes.specs.Scan.{HasScanned, head_len}
use Rattle.bsp_routes.specs.declared.fault.Refused.{Refused}
use Rattle.bsp_connection.proofs.StepLemmas.{answered_moves, begun_further, begun_moves, moves_on, passed_has, passed_moves, passed_on, refused_moves, unroomed_moves, unwanted_moves, waiting_moves, within}
use Rattle.bsp_connection.specs.Exchanges.{Meaning, Reading, inquiry, interim, used}
use Rattle.bsp_connection.specs.Conversations.{HasRefusal, IsRun}
use Rattle.bsp_connection.specs.Begun.{HasBody, IsBegunAs, IsHeaded, head_in, request_in}
use Rattle.bsp_connection.specs.Outputs.{Put}
use Rattle.bsp_connection.specs.Progress.{IsAtRest, to_come}
use Rattle.bsp_connection.specs.Talks.{HasPassed, IsAnswered, IsRefused}
use Rattle.bsp_connection.specs.Waiting.{Waiting}
use Rattle.bsp_connection.specs.Turns.{HasEnded, IsReady, WentOn}
use Rattle.bsp_connection.specs.declared.connection.Begun.{Begun}
use Rattle.bsp_connection.specs.declared.connection.Connection.{Connection}

some_begun : {F : Type 0} (b : Begun F) → Some b ≡ None → ⊥
some_begun b e = cc

less_most : (a b c : ℕ) → a < b → b ≤ c → a < c
less_most a b c less most = omega (arith, less, most)

most_most : (a b c : ℕ) → a ≤ b → b ≤ c → a ≤ c
most_most a b c less most = omega (arith, less, most)

less_least : (a b : ℕ) → a < b → a ≤ b
less_least a b less = omega (arith, less)

pub not_apart : (apart : Bool) → true ≡ not apart → apart ≡ false
not_apart true e = absurd (false≢true (sym e))
not_apart false e = refl

-- where no byte waits
empty_rest : (received : List ℕ) → received ≡ [] → length received < 16384
empty_rest received empty = omega (arith, ap (λ (l : List ℕ). length l) empty)

module _ {D F B : Type 0} (m : Meaning D) (r : Reading F B) where
  -- ---- a message is answered

  pub ended_turn : (old new : Connection F B) (d e : D) → HasEnded m r old new d e → WentOn m r old new d e
  ended_turn old new d e h =
      let a = h.answered in record {
        moves = h.moves;
        goes_on = elim (cases_Bool h.closes) [
          | inl shut ↦ inl (a.closed ∙ shut)
          | inr still ↦ inr (
              record {
                rest = λ waits. elim (a.more waits) [
                  | inl shut ↦ absurd (false≢true (sym still ∙ shut))
                  | inr empty ↦ subst (λ (o : Option (Begun F)). IsAtRest o new.received.items) (sym a.begun) (empty_rest new.received.items empty)
                ];
                further = inl (a.count ∙ ap (λ (n : ℕ). n + 1) h.count, a.begun);
              }
              )
        ];
        shut = λ shut. a.begun;
        number = a.number ∙ h.number;
        room = a.room ∙ h.room;
      }

  pub refused_turn : (old new : Connection F B) (d : D) (why : Refused) (head : ℕ) → HasRefusal old.received.items why → old.begun ≡ None → IsReady m r old → IsAnswered head (response why.bare true (refusal_reply why.fault)) true old new
      → WentOn m r old new d d
  refused_turn old new d why head has none ready a =
      ended_turn old new d d (record { moves = refused_moves m r old new d why head has none ready.unclosed a; mid = old; head = head; text = _; closes = true; answered = a; count = refl; number = refl; room = refl })

  pub unwanted_turn : (old new : Connection F B) (d e f : D) (b : Begun F) (reply : ReplyText) (head : ℕ) → IsHeaded r old.received.items b → (b.parts.wanted.expects ≡ true) × m.admits d (head_in (take b.head old.received.items) b.parts) false e
      → m.steps e (head_in (take b.head old.received.items) b.parts) reply f → old.begun ≡ None → IsReady m r old → IsAnswered head (response b.parts.wanted.bare true reply) true old new → WentOn m r old new d f
  unwanted_turn old new d e f b reply head headed asked steps none ready a =
      ended_turn old new d f (
      record { moves = unwanted_moves m r old new d e f b reply head headed.read asked.0 none ready.unclosed asked.1 steps a; mid = old; head = head; text = _; closes = true; answered = a; count = refl; number = refl; room = refl }
      )

  pub unroomed_end : (b : Begun F) (old mid new : Connection F B) (d : D) (head : ℕ) → old.begun ≡ Some b → IsReady m r old → is_some old.body ≡ true
      → ((came : List ℕ) → HasBody r b.found old.body came → length came + b.left ≡ b.parts.wanted.body → 0 < b.parts.wanted.body) → mid.out ≡ old.out → mid.count ≡ old.count → mid.number ≡ old.number → mid.received.room ≡ old.received.room
      → IsAnswered head (response b.parts.wanted.bare true m.no_room) true mid new → HasEnded m r old new d d
  unroomed_end b old mid new d head some ready used body out count number room a =
      record { moves = unroomed_moves m r b old mid new d head some ready.unclosed used body out count a; mid = mid; head = head; text = _; closes = true; answered = a; count = count; number = number; room = room }

  pub answered_end : (b : Begun F) (old mid new : Connection F B) (d e : D) (reply : ReplyText) (closes : Bool) → old.begun ≡ Some b → IsReady m r old → b.left ≡ 0
      → ((bytes : List ℕ) → HasBody r b.found old.body bytes → m.steps d (request_in (take b.head old.received.items) b.parts (used (is_some old.body) bytes)) reply e) → closes ≡ (b.parts.wanted.closes || old.count + 1 == 65536)
      → mid.received ≡ old.received → mid.out ≡ old.out → mid.count ≡ old.count → mid.number ≡ old.number → IsAnswered b.head (response b.parts.wanted.bare closes reply) closes mid new → HasEnded m r old new d e
  answered_end b old mid new d e reply closes some ready whole steps closes_is same out count number a = record {
    moves = answered_moves m r b old mid new d e reply closes some ready.unclosed whole steps closes_is (ap (λ (w : Waiting). w.items) same) out count a;
    mid = mid;
    head = b.head;
    text = _;
    closes = closes;
    answered = a;
    count = count;
    number = number;
    room = ap (λ (w : Waiting). w.room) same;
  }

  -- ---- a message is begun

  pub begun_turn : (old new : Connection F B) (d e : D) (b : Begun F) → IsHeaded r old.received.items b → m.uses (span_bytes (take b.head old.received.items) b.parts.method) (span_bytes (take b.head old.received.items) b.parts.target) (is_some new.body)
      → b.left ≡ b.parts.wanted.body → old.begun ≡ None → IsReady m r old → new.received ≡ old.received → new.begun ≡ Some b → new.count ≡ old.count → new.closed ≡ old.closed → new.has_more ≡ true → new.number ≡ old.number → HasBody r b.found new.body []
      → new.out.bytes ≡ old.out.bytes ++ interim b.parts.wanted.expects → IsRun m d (inquiry b.parts.wanted.expects (head_in (take b.head old.received.items) b.parts)) e → WentOn m r old new d e
  begun_turn old new d e b headed is_used all none ready same begun count closed more number body out run =
      let items = ap (λ (w : Waiting). w.items) same in record {
        moves = begun_moves m r old new d e b headed is_used all none ready.unclosed items begun count closed more body out run;
        goes_on = inr (begun_further b old new headed.read all none items begun count more);
        shut = λ shut. absurd (false≢true (sym ready.unclosed ∙ sym closed ∙ shut));
        number = number;
        room = ap (λ (w : Waiting). w.room) same;
      }

  -- nothing more can be found
  pub waiting_turn : (old new : Connection F B) (d : D) → old.begun ≡ None → IsReady m r old → new.received ≡ old.received → new.begun ≡ old.begun → new.count ≡ old.count → new.closed ≡ old.closed → new.number ≡ old.number
      → new.seen ≡ length old.received.items → HasScanned old.received.items new.scan → (head_len old.received.items ≡ None) × (length old.received.items < 16384) → new.has_more ≡ false → new.out ≡ old.out → WentOn m r old new d d
  waiting_turn old new d none ready same begun count closed number seen scanned waits rests out =
      let items = ap (λ (w : Waiting). w.items) same in record {
        moves = waiting_moves m r old new d none ready.unclosed items begun count closed seen scanned waits out;
        goes_on = inr (
            record {
              rest = λ is. subst (λ (o : Option (Begun F)). IsAtRest o new.received.items) (sym (begun ∙ none)) (subst (λ (l : List ℕ). length l < 16384) (sym items) waits.1);
              further = inr (
                count,
                λ more. absurd (false≢true (sym rests ∙ more)),
                λ is. subst (λ (o : Option (Begun F)). to_come o new.received.items ≤ to_come old.begun old.received.items) (sym begun)
                    (subst (λ (l : List ℕ). to_come old.begun l ≤ to_come old.begun old.received.items) (sym items) (most_most _ (to_come old.begun old.received.items) _ (omega arith) (omega arith))),
              );
            }
            );
        shut = λ shut. absurd (false≢true (sym ready.unclosed ∙ sym closed ∙ shut));
        number = number;
        room = ap (λ (w : Waiting). w.room) same;
      }

  -- ---- bodies

  -- what a connection has within a message
  pub ready_begun : (c : Connection F B) (b : Begun F) (ready : IsReady m r c) → c.begun ≡ Some b → IsBegunAs r m.uses b c.received.items c.body c.has_more ready.has.0
  ready_begun c b ready some = (within m r c ready.has.0 b ready.unclosed some ready.has.1).1

  pub passed_ready : (b now : Begun F) (old new : Connection F B) → old.begun ≡ Some b → IsReady m r old → HasPassed r b old new now → IsReady m r new
  passed_ready b now old new some ready p = record {
    unclosed = p.closed ∙ ready.unclosed;
    free = ap (λ (o : Put). o.apart) p.out ∙ ready.free;
    few = subst (λ (n : ℕ). n < 65536) (sym p.count) ready.few;
    has = (ready.has.0, passed_has m r b now old new ready.has.0 some ready.unclosed p ready.has.1);
  }

  pub passed_turn : (b now : Begun F) (old new : Connection F B) (d : D) → old.begun ≡ Some b → IsReady m r old → HasPassed r b old new now → 0 < now.left → WentOn m r old new d d
  passed_turn b now old new d some ready p more = record {
    moves = passed_moves m r b now old new d some ready.unclosed p;
    goes_on = inr (passed_on r b now old new some (ready_begun old b ready some).headed.read.within p more);
    shut = λ shut. absurd (false≢true (sym ready.unclosed ∙ sym p.closed ∙ shut));
    number = p.number;
    room = p.room;
  }

  pub passed_end : (b now : Begun F) (old mid new : Connection F B) (d e : D) → old.begun ≡ Some b → IsReady m r old → HasPassed r b old mid now → HasEnded m r mid new d e → WentOn m r old new d e
  passed_end b now old mid new d e some ready p h =
      ended_turn old new d e (
      record {
        moves = moves_on m r old mid new d d e (passed_moves m r b now old mid d some ready.unclosed p) h.moves;
        mid = h.mid;
        head = h.head;
        text = h.text;
        closes = h.closes;
        answered = h.answered;
        count = h.count ∙ p.count;
        number = h.number ∙ p.number;
        room = h.room ∙ p.room;
      }
      )

  pub unroomed_turn : (b : Begun F) (old mid new : Connection F B) (d : D) (head : ℕ) → old.begun ≡ Some b → IsReady m r old → IsRefused b old mid → IsAnswered head (response b.parts.wanted.bare true m.no_room) true mid new → WentOn m r old new d d
  unroomed_turn b old mid new d head some ready w a =
      let more = w.some in
      ended_turn old new d d (unroomed_end b old mid new d head some ready w.used (λ came has sized. omega (arith, more, sized)) w.out w.count w.number w.room a)

  -- ---- one step behind another

  pub ready_on : (old mid : Connection F B) (d e : D) (b : Begun F) → IsReady m r old → WentOn m r old mid d e → mid.begun ≡ Some b → mid.out.apart ≡ false → IsReady m r mid
  ready_on old mid d e b ready w some free =
      let x = w.moves ready.has.0 ready.has.1 in
      let unclosed : mid.closed ≡ false = elim (cases_Bool mid.closed) [ inl shut ↦ absurd (some_begun b (sym some ∙ w.shut shut)) | inr still ↦ still ] in
      record { unclosed = unclosed; free = free; few = (x.has unclosed).0; has = (x.rest, x.has) }

  pub turn_on : (old mid new : Connection F B) (d e f : D) (b : Begun F) → WentOn m r old mid d e → mid.begun ≡ Some b → WentOn m r mid new e f → WentOn m r old new d f
  turn_on old mid new d e f b first some second = record {
    moves = moves_on m r old mid new d e f first.moves second.moves;
    goes_on = elim first.goes_on [
      | inl shut ↦ absurd (some_begun b (sym some ∙ first.shut shut))
      | inr begun ↦ elim second.goes_on [
        | inl shut ↦ inl shut
        | inr on ↦ elim begun.further [
          | inl next ↦ absurd (some_begun b (sym some ∙ next.1))
          | inr to ↦
              let most : to_come mid.begun mid.received.items ≤ to_come old.begun old.received.items = elim (cases_Bool mid.has_more) [ inl more ↦ less_least _ _ (to.1 more) | inr none ↦ to.2 none ] in
              inr (
              record {
                rest = on.rest;
                further = elim on.further [
                  | inl next ↦ inl (next.0 ∙ ap (λ (n : ℕ). n + 1) to.0, next.1)
                  | inr less ↦ inr (less.0 ∙ to.0, λ more. less_most _ _ _ (less.1 more) most, λ none. most_most _ _ _ (less.2 none) most)
                ];
              }
              )
        ]
      ]
    ];
    shut = second.shut;
    number = second.number ∙ first.number;
    room = second.room ∙ first.room;
  }
