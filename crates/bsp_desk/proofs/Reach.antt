-- What is known of a book after some requests and their replies.
use Rattle.std.proofs.Common.{◌≡◌, ◌⊎◌, inl, inr, ℕ, Bool, true, false, List, [], ◌∷◌, ◌++◌, Some, None, refl, sym, ap, subst, ◌∙◌}
use Rattle.bsp_book.specs.Calls.{Meaning}
use Rattle.bsp_messages.specs.declared.refusal.RequestRefusal.TheVariants.{NoRoom, StoreFailed}
use Rattle.bsp_routes.specs.declared.reply.Reply.{Reply}
use Rattle.bsp_rows.specs.Rows.{Rows}
use Rattle.bsp_rows.specs.Sound.{Sound}
use Rattle.bsp_desk_writes.proofs.AirlineIsolated.{airline_isolated}
use Rattle.bsp_desk_writes.proofs.ClosedKept.{closed_stays}
use Rattle.bsp_desk_writes.proofs.Held.{one_owner, repeats_are_held}
use Rattle.bsp_desk_writes.proofs.HeldInRuns.{runs_hold}
use Rattle.bsp_desk_writes.proofs.Isolated.{isolated}
use Rattle.bsp_desk_writes.proofs.NetLemmas.{nets_add_up}
use Rattle.bsp_desk_writes.proofs.PrintedInRuns.{runs_print}
use Rattle.bsp_desk_writes.proofs.Reports.{reports_stay}
use Rattle.bsp_desk_writes.proofs.ShownInRuns.{runs_show}
use Rattle.bsp_desk_writes.proofs.UnmarkedAirline.{airlines_need_no_marks}
use Rattle.bsp_desk_writes.proofs.UnmarkedInRuns.{agents_need_no_marks}
use Rattle.bsp_desk_writes.proofs.Values.{runs_agree}
use Rattle.bsp_desk_writes.specs.Requests.{Request as Reading}
use Rattle.bsp_desk_writes.specs.Step.{Fits, answer_of}
use Rattle.bsp_desk_writes.specs.View.{AllFit, Exchange, IsAnswered, Run, rows_replied}
use Rattle.bsp_desk.specs.Reading.{AreRead, IsRead}
use Rattle.bsp_desk.specs.Replies.{Refuses, is_unavailable}
use Rattle.bsp_desk.specs.Runs.{AreAnswered, AreExchanges, IsReplied, Ran}
use Rattle.bsp_desk.specs.Steps.{Answers}
use Rattle.bsp_desk.specs.declared.request.Request.{Request}
use Rattle.bsp_desk.proofs.Fits.{read_fits}

-- ---- one more at the end

pub record LastRead (requests : List Request) (request : Request) (readings : List Reading) : Type 0 where
  pub before : List Reading
  pub last : Reading
  pub whole : readings ≡ before ++ last ∷ []
  pub read : AreRead requests before
  pub is : IsRead request last

pub read_last : (requests : List Request) (request : Request) (readings : List Reading) → AreRead (requests ++ request ∷ []) readings → LastRead requests request readings
read_last [] request [] h = elim h [ ]
read_last [] request (r ∷ []) h = record { before = []; last = r; whole = refl; read = tt; is = h.0 }
read_last [] request (r ∷ s ∷ rs) h = elim h.1 [ ]
read_last (q ∷ qs) request [] h = elim h [ ]
read_last (q ∷ qs) request (r ∷ rs) h =
    let k = read_last qs request rs h.1 in
    record { before = r ∷ k.before; last = k.last; whole = ap (λ (xs : List Reading). r ∷ xs) k.whole; read = (h.0, k.read); is = k.is }

exchanges_push : (readings : List Reading) (replies : List Reply) (es : List Exchange) (reading : Reading) (reply : Reply) (e : Exchange)
    → AreExchanges readings replies es → e.request ≡ reading → IsReplied e.reply reply → AreExchanges (readings ++ reading ∷ []) (replies ++ reply ∷ []) (es ++ e ∷ [])
exchanges_push [] [] [] reading reply e h is r = (is, r, tt)
exchanges_push [] [] (x ∷ xs) reading reply e h is r = elim h [ ]
exchanges_push [] (p ∷ ps) [] reading reply e h is r = elim h [ ]
exchanges_push [] (p ∷ ps) (x ∷ xs) reading reply e h is r = elim h [ ]
exchanges_push (q ∷ qs) [] [] reading reply e h is r = elim h [ ]
exchanges_push (q ∷ qs) [] (x ∷ xs) reading reply e h is r = elim h [ ]
exchanges_push (q ∷ qs) (p ∷ ps) [] reading reply e h is r = elim h [ ]
exchanges_push (q ∷ qs) (p ∷ ps) (x ∷ xs) reading reply e h is r = (h.0, h.1, exchanges_push qs ps xs reading reply e h.2 is r)

run_push : (office : List ℕ) (rows : Rows) (es : List Exchange) (new : Rows) (e : Exchange) → Run office rows es new → IsAnswered office new e.request e.reply → Run office rows (es ++ e ∷ []) (rows_replied new e)
run_push office rows [] new e h is = (subst (λ (r : Rows). IsAnswered office r e.request e.reply) h is, ap (λ (r : Rows). rows_replied r e) h)
run_push office rows (p ∷ ps) new e h is = (h.0, run_push office (rows_replied rows p) ps new e h.1 is)

fit_push : (es : List Exchange) (e : Exchange) → AllFit es → Fits e.request.asked → AllFit (es ++ e ∷ [])
fit_push [] e h is = (is, tt)
fit_push (p ∷ ps) e h is = (h.0, fit_push ps e h.1 is)

-- one more request is answered, over the book that those before it left
pub answered_push : {B : Type 0} (m : Meaning B Rows) (office : List ℕ) (requests : List Request) (replies : List Reply) (old mid new : B) (request : Request) (reply : Reply)
    → AreAnswered m office old requests replies mid → Answers m mid new request office reply → AreAnswered m office old (requests ++ request ∷ []) (replies ++ reply ∷ []) new
answered_push {B = B} m office [] [] old mid new request reply h is = (new, subst (λ (b : B). Answers m b new request office reply) h is, refl)
answered_push m office [] (p ∷ ps) old mid new request reply h is = elim h [ ]
answered_push m office (q ∷ qs) [] old mid new request reply h is = elim h [ ]
answered_push m office (q ∷ qs) (p ∷ ps) old mid new request reply h is = (h.0, h.1, answered_push m office qs ps h.0 mid new request reply h.2 is)

-- ---- what is reached

-- a run of the requests, as they are read, and the rows that it leaves: `Held` is said of them while nothing has failed
abbrev pub Reached : List ℕ → Rows → Bool → (Rows → Type 0) → List Reading → List Reply → Type 0
Reached office rows failed Held readings replies =
    (es : List Exchange) × (new : Rows) × AreExchanges readings replies es × Run office rows es new × AllFit es × Sound new × (failed ≡ false → Held new)

pub reach_none : (office : List ℕ) (rows : Rows) (failed : Bool) (Held : Rows → Type 0) (readings : List Reading) (replies : List Reply)
    → AreRead [] readings → replies ≡ [] → Sound rows → Held rows → Reached office rows failed Held readings replies
reach_none office rows failed Held [] replies read none sound h = ([], rows, subst (λ (xs : List Reply). AreExchanges [] xs []) (sym none) tt, refl, tt, sound, λ fine. h)
reach_none office rows failed Held (r ∷ rs) replies read none sound h = elim read [ ]

module _ {B : Type 0} (m : Meaning B Rows) (mid new : B) (request : Request) (office : List ℕ) (rows : Rows) (reply : Reply) (readings : List Reading) (replies : List Reply) (reading : Reading) where
  abbrev Before : Type 0
  Before = Reached office rows (m.has_failed mid) (λ r. m.holds mid r None) readings replies

  abbrev After : Type 0
  After = Reached office rows (m.has_failed new) (λ r. m.holds new r None) (readings ++ reading ∷ []) (replies ++ reply ∷ [])

  -- by a 503
  unsent : Answers m mid new request office reply → IsRead request reading → m.trusts new → Before → is_unavailable reply.status ≡ true → After
  unsent answers is t h gone =
      let e : Exchange = record { request = reading; reply = None } in
      (h.0 ++ e ∷ [], h.1, exchanges_push readings replies h.0 reading reply e h.2 refl (answers.unavailable gone), run_push office rows h.0 h.1 e h.3 tt, fit_push h.0 e h.4 (read_fits request reading is), h.5, holds)
    where
      by : m.has_failed new ≡ false → (b : Bool) → m.has_failed mid ≡ b → Refuses NoRoom reply ⊎ Refuses StoreFailed reply → m.holds new h.1 None
      by fine true was k = absurd (let f = sym fine ∙ answers.failed.1 (answers.after_failure was).0 in cc)
      by fine false was (inl full) = answers.full full reading is t h.1 h.5 (h.6 was)
      by fine false was (inr lost) = absurd (let f = sym fine ∙ answers.failed.1 lost in cc)

      holds : m.has_failed new ≡ false → m.holds new h.1 None
      holds fine = by fine (m.has_failed mid) refl (answers.unavailable gone)

  -- by an answer
  sent : Answers m mid new request office reply → IsRead request reading → m.trusts new → Before → is_unavailable reply.status ≡ false → After
  sent answers is t h here = go (m.has_failed mid) refl
    where
      go : (b : Bool) → m.has_failed mid ≡ b → After
      go true was = absurd (let f = sym here ∙ ap is_unavailable (answers.after_failure was).0.status in cc)
      go false was =
          let e : Exchange = record { request = reading; reply = Some (answer_of office h.1 reading) } in
          let k = answers.kept here reading is t h.1 h.5 (h.6 was) in
          (h.0 ++ e ∷ [], rows_replied h.1 e, exchanges_push readings replies h.0 reading reply e h.2 refl (here, answers.step here reading is t h.1 h.5 (h.6 was)), run_push office rows h.0 h.1 e h.3 refl, fit_push h.0 e h.4 (read_fits request reading is), k.0, λ fine. k.1)

  pub reach_more : Answers m mid new request office reply → IsRead request reading → m.trusts new → Before → After
  reach_more answers is t h = go (is_unavailable reply.status) refl
    where
      go : (b : Bool) → is_unavailable reply.status ≡ b → After
      go true e = unsent answers is t h e
      go false e = sent answers is t h e

-- ---- the laws of a run

pub ran : (office : List ℕ) (rows : Rows) (es : List Exchange) (new : Rows) → Run office rows es new → AllFit es → Sound rows → Sound new → Ran rows es new office
ran office rows es new run fits sound after = record {
  steps = run;
  fits = fits;
  sound = after;
  owners = λ k l i j. one_owner new k l i j after;
  values = runs_agree office rows es new run fits sound;
  nets = λ code. nets_add_up new code after;
  printed = runs_print office rows es new run fits sound;
  agents = λ agent. isolated office agent rows es new run;
  airlines = λ airline. airline_isolated office airline rows es new run fits sound;
  agent_marks = λ agent. agents_need_no_marks office rows es new agent run fits sound;
  airline_marks = λ airline. airlines_need_no_marks office rows es new airline run fits sound;
  repeats = λ agent t period has. (
    (repeats_are_held office rows es new agent t period [] run fits sound has tt).0,
    λ ts groups. let h = repeats_are_held office rows es new agent t period ts run fits sound has groups in (h.1, h.2),
  );
  periods = λ code q closed.
      let h = reports_stay office rows es new code q run fits sound closed in
      (closed_stays office rows es new code q run fits sound closed, h.0, h.1, h.2);
  held = runs_hold office rows es new run fits sound;
  shown = runs_show office rows es new run fits sound;
}
