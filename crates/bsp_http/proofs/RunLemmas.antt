-- The messages of a connection are requests of a run.
use Rattle.std.proofs.Common.{◌≡◌, ℕ, Bool, true, false, List, [], ◌∷◌, ◌++◌, None, Result, Ok, Err, refl, ap, sym, subst, ◌∙◌, append_assoc, append-nil}
use Rattle.bsp_desk.specs.BookCalls.{LooksUp, Meaning}
use Rattle.bsp_desk.specs.BookFault.{BookFault}
use Rattle.bsp_desk.specs.BookFault.TheVariants.{NoRoom, Failed}
use Rattle.bsp_desk.specs.Callers.{is_body_wanted}
use Rattle.bsp_connection.specs.Conversations.{IsRun}
use Rattle.bsp_connection.specs.Exchanges.{Exchange, RequestText}
use Rattle.bsp_connection.specs.Exchanges.Exchange.{wants, replies}
use Rattle.bsp_desk.proofs.RequestsRead.{each_request_is_read}
use Rattle.bsp_desk.proofs.Reach.{Reached, ran, reach_more, reach_none}
use Rattle.bsp_desk.specs.Reading.{IsRead}
use Rattle.bsp_desk.specs.Runs.{RanOver, RunReplied}
use Rattle.bsp_desk.specs.Steps.{Answers}
use Rattle.bsp_desk.specs.declared.desk.Desk.{Desk}
use Rattle.bsp_desk.specs.declared.request.Request.{Request}
use Rattle.bsp_desk.specs.Reply.{Reply}
use Rattle.bsp_desk.specs.RoutesCalls.{asking_text}
use Rattle.bsp_desk.specs.Asking.{Asking}
use Rattle.bsp_desk.specs.Rows.{Rows}
use Rattle.bsp_desk.specs.Sound.{Sound}
use Rattle.bsp_desk.specs.Requests.{IsAsked, Request as Reading}
use Rattle.bsp_http.specs.Laws.{AreMessagesRead, AreWrittenFor, EachMessageIsRead, IsMessageRead, MessagesRun}
use Rattle.bsp_http.specs.Messages.{IsRequestOf, at_desk}

-- however the message is read, so is the request that the desk was asked for it
message_read : (text : RequestText) (request : Request) (reading : Reading) → IsRequestOf text request → IsMessageRead text reading → IsRead request reading
message_read text request reading is read = record {
  token = read.token ∙ sym is.token;
  asked = is.reads reading.asked (subst (λ (a : Asking (List ℕ)). IsAsked a text.body reading.asked) (sym (is.only read.asking read.asks)) read.asked);
}

-- a message that asks for something has a reading
pub message_is_read : EachMessageIsRead
message_is_read text asking asks =
    let read = each_request_is_read asking text.body in
    (record { token = text.token; asked = read.0 }, record { token = refl; asking = asking; asks = asks; asked = read.1 })

module _ {B : Type 0} (m : Meaning B Rows) where
  -- and so has each message of a connection
  messages_are_read : (old new : Desk B) (xs : List Exchange) → IsRun (at_desk m) old xs new → (readings : List Reading) × AreMessagesRead xs readings
  messages_are_read old new [] h = ([], tt)
  messages_are_read old new (wants head wanted ∷ xs) h = messages_are_read h.0 new xs h.2
  messages_are_read old new (replies request reply ∷ xs) h =
      let first = message_is_read request (asking_text h.1.request.call) h.1.is.asks in
      let rest = messages_are_read h.0 new xs h.2 in
      (first.0 ∷ rest.0, (first.1, rest.1))

  kept_office : (old new : Desk B) (xs : List Exchange) → IsRun (at_desk m) old xs new → new.office ≡ old.office
  kept_office old new [] h = subst (λ (d : Desk B). d.office ≡ old.office) h refl
  kept_office old new (wants head wanted ∷ xs) h = kept_office h.0 new xs h.2 ∙ h.1.office
  kept_office old new (replies request reply ∷ xs) h = kept_office h.0 new xs h.2 ∙ h.1.office

  kept_trust : (old new : Desk B) (xs : List Exchange) → IsRun (at_desk m) old xs new → m.trusts new.book → m.trusts old.book
  kept_trust old new [] h t = subst (λ (d : Desk B). m.trusts d.book) (sym h) t
  kept_trust old new (wants head wanted ∷ xs) h t = h.1.looked.fault.trust (kept_trust h.0 new xs h.2 t)
  kept_trust old new (replies request reply ∷ xs) h t = h.1.answered.trust (kept_trust h.0 new xs h.2 t)

  -- what was reached before some messages, and is reached behind them
  abbrev At : List ℕ → Rows → Desk B → List Reading → List Reply → Type 0
  At office rows desk readings sent = Reached office rows (m.has_failed desk.book) (λ r. m.holds desk.book r None) readings sent

  -- a look-up changes no rows
  looked_rows : (old new : B) (found : Result Bool BookFault) (answer : Rows → Bool) (rows : Rows) → LooksUp m old new found (λ b. b) answer → m.has_failed new ≡ false → m.holds old rows None → m.holds new rows None
  looked_rows old new (Ok wanted) answer rows looked fine holds = looked.ok rows None holds
  looked_rows old new (Err NoRoom) answer rows looked fine holds = looked.fault.full refl rows None holds
  looked_rows old new (Err Failed) answer rows looked fine holds = absurd (let f = sym fine ∙ looked.fault.failed in cc)

  -- of a book that had failed nothing is found
  was_fine : (old new : B) (found : Result Bool BookFault) (answer : Rows → Bool) → LooksUp m old new found (λ b. b) answer → m.has_failed new ≡ false → m.has_failed old ≡ false
  was_fine old new found answer looked fine = by (m.has_failed old) refl
    where
      by : (b : Bool) → m.has_failed old ≡ b → m.has_failed old ≡ false
      by true was = absurd (let f = sym fine ∙ ap m.has_failed (looked.fault.dead was).1 ∙ was in cc)
      by false was = was

  looked_at : (office : List ℕ) (rows : Rows) (old new : Desk B) (found : Result Bool BookFault) (answer : Rows → Bool) (readings : List Reading) (sent : List Reply) → LooksUp m old.book new.book found (λ b. b) answer
      → At office rows old readings sent → At office rows new readings sent
  looked_at office rows old new found answer readings sent looked at =
      (at.0, at.1, at.2, at.3, at.4, at.5, λ fine. looked_rows old.book new.book found answer at.1 looked fine (at.6 (was_fine old.book new.book found answer looked fine)))

  reached : (office : List ℕ) (rows : Rows) (old new : Desk B) (xs : List Exchange) (before readings : List Reading) (sent : List Reply)
      → IsRun (at_desk m) old xs new → AreMessagesRead xs readings → m.trusts new.book → old.office ≡ office → At office rows old before sent
      → (replies : List Reply) × AreWrittenFor xs replies × At office rows new (before ++ readings) (sent ++ replies)
  reached office rows old new [] before [] sent h read t same at = (
    [],
    tt,
    subst (λ (d : Desk B). At office rows d (before ++ []) (sent ++ [])) h
        (subst (λ (l : List Reading). At office rows old l (sent ++ [])) (sym (append-nil before)) (subst (λ (l : List Reply). At office rows old before l) (sym (append-nil sent)) at)),
  )
  reached office rows old new [] before (r ∷ rs) sent h read t same at = elim read [ ]
  reached office rows old new (wants head wanted ∷ xs) before readings sent h read t same at =
      reached office rows h.0 new xs before readings sent h.2 read t (h.1.office ∙ same) (looked_at office rows old h.0 h.1.found (is_body_wanted old.office head.token h.1.asking) before sent h.1.looked at)
  reached office rows old new (replies request reply ∷ xs) before [] sent h read t same at = elim read [ ]
  reached office rows old new (replies request reply ∷ xs) before (r ∷ rs) sent h read t same at =
      let step = h.1 in
      let answered = subst (λ (o : List ℕ). Answers m old.book h.0.book step.request o step.reply) same step.answered in
      let one = reach_more m old.book h.0.book step.request office rows step.reply before sent r answered (message_read request step.request r step.is read.0) (kept_trust h.0 new xs h.2 t) at in
      let others = reached office rows h.0 new xs (before ++ r ∷ []) rs (sent ++ step.reply ∷ []) h.2 read.1 t (step.office ∙ same) one in (
        step.reply ∷ others.0,
        ((asking_text step.request.call, step.is.asks, step.answered.allow, step.written_is), others.1),
        subst (λ (l : List Reading). At office rows new l (sent ++ (step.reply ∷ others.0))) (append_assoc before (r ∷ []) rs)
            (subst (λ (l : List Reply). At office rows new ((before ++ r ∷ []) ++ rs) l) (append_assoc sent (step.reply ∷ []) others.0) others.2),
      )

  pub messages_run : MessagesRun m
  messages_run old new xs h = (kept_office old new xs h, kept_trust old new xs h, messages_are_read old new xs h, runs)
    where
      runs : (readings : List Reading) → AreMessagesRead xs readings → m.trusts new.book → (rows : Rows) → Sound rows → m.holds old.book rows None
          → (replies : List Reply) × AreWrittenFor xs replies × RanOver m new.book old.office rows readings replies
      runs readings read t rows sound holds =
          let start = reach_none old.office rows (m.has_failed old.book) (λ r. m.holds old.book r None) [] [] tt refl sound holds in
          let k = reached old.office rows old new xs [] readings [] h read t refl start in
          let at = k.2 in
          let run : RunReplied old.office rows readings k.0 = record { begun = sound; exchanges = at.0; left = at.1; sent = at.2; laws = ran old.office rows at.0 at.1 at.3 at.4 sound at.5 } in
          (k.0, k.1, (run, at.6))
