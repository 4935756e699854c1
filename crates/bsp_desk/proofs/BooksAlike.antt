-- Two books of the same rows have the same replies, up to the first 503 of either.
use Rattle.std.proofs.Common.{◌≡◌, inl, inr, ℕ, false, List, [], ◌∷◌, Option, Some, None, map, refl, sym, ap, subst, ◌∙◌}
use Rattle.bsp_book.specs.Calls.{Meaning}
use Rattle.bsp_routes.specs.declared.reply.Reply.{Reply}
use Rattle.bsp_rows.specs.Rows.{Rows}
use Rattle.bsp_rows.specs.Sound.{Sound}
use Rattle.bsp_desk_writes.specs.Answers.{Answer}
use Rattle.bsp_desk_writes.specs.Requests.{Request as Reading}
use Rattle.bsp_desk_writes.specs.Step.{answer_of, rows_after}
use Rattle.bsp_desk_writes.specs.View.{Exchange, IsAnswered, Run, rows_replied}
use Rattle.bsp_desk.specs.Books.{AreAlike, AreAvailable, BooksReplyAlike, RunsReplyAlike}
use Rattle.bsp_desk.specs.Reading.{AreRead}
use Rattle.bsp_desk.specs.Replies.{IsSent, is_unavailable, read_of}
use Rattle.bsp_desk.specs.Runs.{AreAnswered, AreExchanges, IsReplied}
use Rattle.bsp_desk.specs.Steps.{left_by}
use Rattle.bsp_desk.specs.declared.request.Request.{Request}
use Rattle.bsp_desk.proofs.Alike.{one_reply}

-- equal first replies and equal others
more_reads : (reply other : Reply) (replies others : List Reply) → read_of reply ≡ read_of other → map read_of replies ≡ map read_of others → map read_of (reply ∷ replies) ≡ map read_of (other ∷ others)
more_reads reply other replies others first rest = λ i. first i ∷ rest i

-- ---- two runs

-- but for a 503 a reply sends the answer of its request, and the rows become those after it
replied_by : (office : List ℕ) (rows : Rows) (reading : Reading) (reply : Reply) (asked : Reading) (o : Option Answer) → asked ≡ reading → IsReplied o reply → IsAnswered office rows asked o → is_unavailable reply.status ≡ false →
    (let e : Exchange = record { request = asked; reply = o } in IsSent (answer_of office rows reading) reply × (rows_replied rows e ≡ left_by office rows reading))
replied_by office rows reading reply asked None is (inl full) answered here = absurd (let f = sym here ∙ ap is_unavailable full.status in cc)
replied_by office rows reading reply asked None is (inr lost) answered here = absurd (let f = sym here ∙ ap is_unavailable lost.status in cc)
replied_by office rows reading reply asked (Some answer) is sent answered here =
    let same : answer ≡ answer_of office rows reading = answered ∙ ap (λ (r : Reading). answer_of office rows r) is in
    (subst (λ (a : Answer). IsSent a reply) same sent.1, λ i. rows_after rows (is i) (same i))

replied : (office : List ℕ) (rows : Rows) (reading : Reading) (reply : Reply) (e : Exchange) → e.request ≡ reading → IsReplied e.reply reply → IsAnswered office rows e.request e.reply → is_unavailable reply.status ≡ false →
    IsSent (answer_of office rows reading) reply × (rows_replied rows e ≡ left_by office rows reading)
replied office rows reading reply e is sent answered here = replied_by office rows reading reply e.request e.reply is sent answered here

abbrev Alike : List Reply → List Reply → Rows → Rows → Type 0
Alike replies others left last = AreAlike replies others × (AreAvailable replies → AreAvailable others → (map read_of replies ≡ map read_of others) × (left ≡ last))

-- the same of what is left of two runs, from whatever rows
abbrev RunsOn : List ℕ → List Exchange → List Exchange → Rows → Rows → List Reply → List Reply → Type 0
RunsOn office es fs left last replies others = (after : Rows) → Run office after es left → Run office after fs last → Alike replies others left last

exchanges_alike : (office : List ℕ) (rows : Rows) (readings : List Reading) (replies others : List Reply) (es fs : List Exchange) (left last : Rows) →
    AreExchanges readings replies es → AreExchanges readings others fs → Run office rows es left → Run office rows fs last → Alike replies others left last
exchanges_alike office rows [] [] [] [] [] left last h k run other = (tt, λ all same. (refl, run ∙ sym other))
exchanges_alike office rows [] [] [] [] (f ∷ fs) left last h k run other = elim k [ ]
exchanges_alike office rows [] [] (o ∷ os) es fs left last h k run other = elim k [ ]
exchanges_alike office rows [] [] os (e ∷ es) fs left last h k run other = elim h [ ]
exchanges_alike office rows [] (p ∷ ps) os es fs left last h k run other = elim h [ ]
exchanges_alike office rows (q ∷ qs) [] os es fs left last h k run other = elim h [ ]
exchanges_alike office rows (q ∷ qs) (p ∷ ps) os [] fs left last h k run other = elim h [ ]
exchanges_alike office rows (q ∷ qs) (p ∷ ps) [] (e ∷ es) fs left last h k run other = elim k [ ]
exchanges_alike office rows (q ∷ qs) (p ∷ ps) (o ∷ os) (e ∷ es) [] left last h k run other = elim k [ ]
exchanges_alike office rows (q ∷ qs) (p ∷ ps) (o ∷ os) (e ∷ es) (f ∷ fs) left last h k run other =
    let on : RunsOn office es fs left last ps os = λ after first second. exchanges_alike office after qs ps os es fs left last h.2 k.2 first second in
    (λ here there. let both = next on here there in (both.0, both.1.0), λ all same. let both = next on all.0 same.0 in let rest = both.1.1 all.1 same.1 in (more_reads p o ps os both.0 rest.0, rest.1))
  where
    next : RunsOn office es fs left last ps os → is_unavailable p.status ≡ false → is_unavailable o.status ≡ false → (read_of p ≡ read_of o) × Alike ps os left last
    next on here there =
        let first = replied office rows q p e h.0 h.1 run.0 here in
        let second = replied office rows q o f k.0 k.1 other.0 there in
        let run_on = subst (λ (r : Rows). Run office r es left) first.1 run.1 in
        let other_on = subst (λ (r : Rows). Run office r fs last) second.1 other.1 in
        (one_reply (answer_of office rows q) p o first.0 second.0, on (left_by office rows q) run_on other_on)

pub runs_alike : RunsReplyAlike
runs_alike office rows readings replies others run other =
    exchanges_alike office rows readings replies others run.exchanges other.exchanges run.left other.left run.sent other.sent run.laws.steps other.laws.steps

-- ---- two books

trusted : {B : Type 0} (m : Meaning B Rows) (office : List ℕ) (old new : B) (requests : List Request) (replies : List Reply) → AreAnswered m office old requests replies new → m.trusts new → m.trusts old
trusted m office old new [] [] h t = subst (λ b. m.trusts b) h t
trusted m office old new [] (p ∷ ps) h t = elim h [ ]
trusted m office old new (q ∷ qs) [] h t = elim h [ ]
trusted m office old new (q ∷ qs) (p ∷ ps) h t = h.1.trust (trusted m office h.0 new qs ps h.2 t)

module _ {A B : Type 0} (m : Meaning A Rows) (n : Meaning B Rows) (office : List ℕ) (new : A) (last : B) (t : m.trusts new) (u : n.trusts last) where
  abbrev Holds : List Reply → List Reply → Type 0
  Holds replies others =
      AreAlike replies others
      × (AreAvailable replies → AreAvailable others → (map read_of replies ≡ map read_of others) × (left : Rows) × m.holds new left None × n.holds last left None)

  -- the same of what is left of two lists, over books of whatever rows
  abbrev HoldsOn : A → B → List Reply → List Reply → Type 0
  HoldsOn old start replies others = (after : Rows) → Sound after → m.holds old after None → n.holds start after None → Holds replies others

  answered_alike : (requests : List Request) (replies others : List Reply) (old : A) (start : B) (readings : List Reading) (rows : Rows) →
      AreAnswered m office old requests replies new → AreAnswered n office start requests others last → AreRead requests readings →
      Sound rows → m.holds old rows None → n.holds start rows None → Holds replies others
  answered_alike [] [] [] old start [] rows h k read sound holds also =
      (tt, λ all same. (refl, rows, subst (λ (b : A). m.holds b rows None) (sym h) holds, subst (λ (b : B). n.holds b rows None) (sym k) also))
  answered_alike [] [] [] old start (r ∷ rs) rows h k read sound holds also = elim read [ ]
  answered_alike [] [] (o ∷ os) old start readings rows h k read sound holds also = elim k [ ]
  answered_alike [] (p ∷ ps) others old start readings rows h k read sound holds also = elim h [ ]
  answered_alike (q ∷ qs) [] others old start readings rows h k read sound holds also = elim h [ ]
  answered_alike (q ∷ qs) (p ∷ ps) [] old start readings rows h k read sound holds also = elim k [ ]
  answered_alike (q ∷ qs) (p ∷ ps) (o ∷ os) old start [] rows h k read sound holds also = elim read [ ]
  answered_alike (q ∷ qs) (p ∷ ps) (o ∷ os) old start (r ∷ rs) rows h k read sound holds also =
      let on : HoldsOn h.0 k.0 ps os = λ after sound holds also. answered_alike qs ps os h.0 k.0 rs after h.2 k.2 read.1 sound holds also in
      (λ here there. let both = next on here there in (both.0, both.1.0), λ all same. let both = next on all.0 same.0 in let rest = both.1.1 all.1 same.1 in (more_reads p o ps os both.0 rest.0, rest.1, rest.2, rest.3))
    where
      next : HoldsOn h.0 k.0 ps os → is_unavailable p.status ≡ false → is_unavailable o.status ≡ false → (read_of p ≡ read_of o) × Holds ps os
      next on here there =
          let trust = trusted m office h.0 new qs ps h.2 t in
          let trust_other = trusted n office k.0 last qs os k.2 u in
          let kept = h.1.kept here r read.0 trust rows sound holds in
          let kept_other = k.1.kept there r read.0 trust_other rows sound also in
          let first = h.1.step here r read.0 trust rows sound holds in
          let second = k.1.step there r read.0 trust_other rows sound also in
          (one_reply (answer_of office rows r) p o first second, on (left_by office rows r) kept.0 kept.1 kept_other.1)

pub books_alike : {A B : Type 0} (m : Meaning A Rows) (n : Meaning B Rows) → BooksReplyAlike m n
books_alike m n office requests replies others old new start last readings rows h k read t u sound holds also =
    answered_alike m n office new last t u requests replies others old start readings rows h k read sound holds also
