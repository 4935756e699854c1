-- What holds of a request and its reply, by how the reply was made.
use Rattle.std.proofs.Common.{◌≡◌, inl, inr, ℕ, true, false, codes, List, [], None, Ok, Err, refl, sym, ap, subst, ◌∙◌, get_or, arith}
use Rattle.std.specs.Borrow.{Bor}
use Rattle.serde_json.proofs.OnLiterals.{serde_json_on_literals}
use Rattle.serde_json.specs.Written.{compact_text}
use Rattle.bsp_book.specs.Calls.{Meaning}
use Rattle.bsp_book.specs.declared.fault.BookFault.TheVariants as book
use Rattle.bsp_messages.specs.Answers.{status_of}
use Rattle.bsp_messages.specs.Refusals.{code_object}
use Rattle.bsp_messages.specs.declared.answer.Answer.{Answer as Message}
use Rattle.bsp_messages.specs.declared.refusal.RequestRefusal.TheVariants.{NoRoom, StoreFailed}
use Rattle.bsp_routes.specs.declared.reply.Reply.{Reply}
use Rattle.bsp_routes.specs.declared.status.Status.{Status}
use Rattle.bsp_routes.specs.declared.status.Status.TheVariants as status
use Rattle.bsp_routes.specs.Calls.{asking_text}
use Rattle.bsp_routes.specs.declared.asking.Asking.{Asking}
use Rattle.bsp_routes.specs.declared.asking.Asking.TheVariants as asking
use Rattle.bsp_routes.specs.declared.call.Call.{Call}
use Rattle.bsp_rows.specs.Rows.{Rows}
use Rattle.bsp_desk_writes.proofs.Runs.{sound_kept}
use Rattle.bsp_desk_writes.proofs.Unchanged.{unchanged}
use Rattle.bsp_desk_writes.specs.Answers.{Answer, is_done, verdicts_in}
use Rattle.bsp_desk_writes.specs.Answers.Answer.{Changed, Verdicts, Document, InPeriod, Ranges, Memos, Statement, Settlement, Hot, FileFault, Refused}
use Rattle.bsp_desk_writes.specs.Requests.{Request as Reading}
use Rattle.bsp_desk_writes.specs.Step.{answer_of, rows_after}
use Rattle.bsp_desk_writes.specs.Texts.{Says}
use Rattle.bsp_desk.specs.Replies.{IsSent, Refuses, allow_of, is_refusal, is_unavailable}
use Rattle.bsp_desk.specs.Steps.{Answers, Commits, EndsRequest}
use Rattle.bsp_desk.specs.declared.request.Request.{Request}
use Rattle.bsp_desk.proofs.Fits.{read_fits}

-- ---- replies

-- the fixed texts of B01 and B03 differ
differ : (t u : List ℕ) → get_or t 11 0 ≡ 49 → get_or u 11 0 ≡ 51 → t ≡ u → ⊥
differ t u a b e = let k : get_or t 11 0 ≡ get_or u 11 0 = ap (λ (x : List ℕ). get_or x 11 0) e in absurd (omega (arith, a, b, k))

apart_texts : compact_text (code_object (codes "B01")) ≡ compact_text (code_object (codes "B03")) → ⊥
unfolding serde_json_on_literals
apart_texts e = differ (compact_text (code_object (codes "B01"))) (compact_text (code_object (codes "B03"))) refl refl e

pub apart : (reply : Reply) → Refuses NoRoom reply → Refuses StoreFailed reply → ⊥
apart reply full failed = apart_texts (sym full.body ∙ failed.body)

-- an answer with the status of a refusal leaves the rows
spoken : (answer : Answer) (m : Message) → Says answer m → is_refusal (status_of m) ≡ true → (is_done answer ≡ false) × (verdicts_in answer ≡ [])
spoken (Changed change) m says e = absurd (let k = sym (ap (λ (m : Message). is_refusal (status_of m)) says) ∙ e in cc)
spoken (Verdicts verdicts) m says e = absurd (let k = sym (ap (λ (m : Message). is_refusal (status_of m)) says.2) ∙ e in cc)
spoken (Document document) m says e = (refl, refl)
spoken (InPeriod period) m says e = (refl, refl)
spoken (Ranges ranges) m says e = (refl, refl)
spoken (Memos memos) m says e = (refl, refl)
spoken (Statement agent taxed report) m says e = (refl, refl)
spoken (Settlement report) m says e = (refl, refl)
spoken (Hot airline rows) m says e = (refl, refl)
spoken (FileFault fault) m says e = (refl, refl)
spoken (Refused refusal) m says e = (refl, refl)

refused_left : (rows : Rows) (reading : Reading) (answer : Answer) (reply : Reply) → IsSent answer reply → is_refusal reply.status ≡ true → rows_after rows reading answer ≡ rows
refused_left rows reading answer reply sent e =
    let h = spoken answer sent.0 sent.1 (sym (ap is_refusal sent.2.status) ∙ e) in
    unchanged rows reading answer h.0 h.1

available : (s : Status) → is_unavailable s ≡ true → is_refusal s ≡ false
available status.ServiceUnavailable e = refl
available status.Ok e = absurd (cc)
available status.BadRequest e = absurd (cc)
available status.Forbidden e = absurd (cc)
available status.NotFound e = absurd (cc)
available status.MethodNotAllowed e = absurd (cc)
available status.Conflict e = absurd (cc)
available status.LengthRequired e = absurd (cc)
available status.PayloadTooLarge e = absurd (cc)
available status.UnprocessableEntity e = absurd (cc)
available status.RequestHeaderFieldsTooLarge e = absurd (cc)
available status.NotImplemented e = absurd (cc)

-- ---- a request of the office, of an agent or of an airline

module _ {B : Type 0} (m : Meaning B Rows) (old new : B) (request : Request) (asked : Call (Bor (List ℕ))) (is_call : request.call ≡ asking.Call asked) (office : List ℕ) (reply : Reply) where
  no_503 : {A : Type 0} → is_unavailable reply.status ≡ true → is_unavailable reply.status ≡ false → A
  no_503 e k = absurd (let f = sym e ∙ k in cc)

  unlisted : reply.allow ≡ None → reply.allow ≡ allow_of (asking_text request.call) reply.status
  unlisted none = subst (λ (call : Asking (Bor (List ℕ))). reply.allow ≡ allow_of (asking_text call) reply.status) (sym is_call) none

  -- the request is answered
  pub answered : is_unavailable reply.status ≡ false → reply.allow ≡ None → Commits m old new request office (Ok reply) → EndsRequest m old new request office (Ok reply) → Answers m old new request office reply
  answered open_ none kept fault = record {
    trust = fault.trust;
    step = λ e reading is t rows sound h. (kept reading is t rows sound h).0;
    kept = λ e reading is t rows sound h. (sound_kept office rows reading sound (read_fits request reading is), (kept reading is t rows sound h).1);
    unchanged = λ e reading is t rows sound h done none. subst (λ (r : Rows). m.holds new r None) (unchanged rows reading (answer_of office rows reading) done none) (kept reading is t rows sound h).1;
    allow = unlisted none;
    refused = λ e reading is t rows sound h.
        let k = kept reading is t rows sound h in
        subst (λ (r : Rows). m.holds new r None) (refused_left rows reading (answer_of office rows reading) reply k.0 e) k.1;
    unavailable = λ e. no_503 e open_;
    full = λ e. no_503 (ap is_unavailable e.status) open_;
    failed = (λ e. absurd (let k = sym e ∙ fault.failed in cc), λ e. no_503 (ap is_unavailable e.status) open_);
    stop = λ e. no_503 (ap is_unavailable e.status) open_;
    after_failure = λ e. absurd (let k = (fault.dead e).0 in cc);
    no_route = λ fine e. absurd (let k = sym is_call ∙ e in cc);
    other_method = λ methods fine e. absurd (let k = sym is_call ∙ e in cc);
  }

  -- there is no room
  pub no_room : Refuses NoRoom reply → reply.allow ≡ None → EndsRequest m old new request office (Err book.NoRoom) → Answers m old new request office reply
  no_room is_full none fault = record {
    trust = fault.trust;
    step = λ e. no_503 (ap is_unavailable is_full.status) e;
    kept = λ e. no_503 (ap is_unavailable is_full.status) e;
    unchanged = λ e. no_503 (ap is_unavailable is_full.status) e;
    allow = unlisted none;
    refused = λ e. absurd (let k = sym e ∙ available reply.status (ap is_unavailable is_full.status) in cc);
    unavailable = λ e. inl is_full;
    full = λ e. fault.full refl;
    failed = (λ e. absurd (let k = sym e ∙ fault.failed in cc), λ e. absurd (apart reply is_full e));
    stop = λ e. absurd (apart reply is_full e);
    after_failure = λ e. absurd (let k = (fault.dead e).0 in cc);
    no_route = λ fine e. absurd (let k = sym is_call ∙ e in cc);
    other_method = λ methods fine e. absurd (let k = sym is_call ∙ e in cc);
  }

  -- the store failed
  pub broken : Refuses StoreFailed reply → reply.allow ≡ None → EndsRequest m old new request office (Err book.Failed) → Answers m old new request office reply
  broken is_broken none fault = record {
    trust = fault.trust;
    step = λ e. no_503 (ap is_unavailable is_broken.status) e;
    kept = λ e. no_503 (ap is_unavailable is_broken.status) e;
    unchanged = λ e. no_503 (ap is_unavailable is_broken.status) e;
    allow = unlisted none;
    refused = λ e. absurd (let k = sym e ∙ available reply.status (ap is_unavailable is_broken.status) in cc);
    unavailable = λ e. inr is_broken;
    full = λ e. absurd (apart reply e is_broken);
    failed = (λ e. is_broken, λ e. fault.failed);
    stop = λ e f. fault.left refl f;
    after_failure = λ e. (is_broken, (fault.dead e).1);
    no_route = λ fine e. absurd (let k = sym is_call ∙ e in cc);
    other_method = λ methods fine e. absurd (let k = sym is_call ∙ e in cc);
  }
