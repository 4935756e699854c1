-- A turn of one connection.
use Rattle.std.proofs.Common.{◌≡◌, ◌≢◌, ℕ, List, [], ◌∷◌, ◌++◌, Option, Some, None, refl, sym, ◌∙◌, subst, append-nil}
use Rattle.bsp_streams.specs.Events.{Event, happened_in}
use Rattle.bsp_streams.specs.Events.Event.{happened, quiet, got, sent, closed}
use Rattle.bsp_streams.specs.Moves.{NotesSent, Reads, Settles, Stays, TakesPiece, Writes}
use Rattle.bsp_streams.specs.Shares.{Share, share_of}
use Rattle.bsp_streams.specs.Serving.{Ends, EndsAs, IsAfter, IsOngoing, IsServed, Turns, closed_as}
use Rattle.bsp_streams.specs.Talks.{HasAsked}
use Rattle.bsp_streams.specs.declared.peers.Ending.{Ending}
use Rattle.bsp_streams.specs.declared.peers.Ending.TheVariants as ending
use Rattle.bsp_streams.proofs.ShareLemmas.{Spares, asked_more, did_more, happenings_same, share_asked, share_push, share_spared, spares_got, spares_quiet, spares_sent, with_event, with_got, with_sent}

module _ {C X : Type 0} (talks : List ℕ → List X → List ℕ → C → Type 0) (rests : C → Type 0) where
  pub can_end : (how : Ending) (lost : List ℕ) (taken : List ℕ) (s : Share X) (c : C) → s.got ≡ taken ++ lost → talks taken s.asked s.sent c → s.ends ≡ [] → EndsAs rests how lost c → IsServed talks rests (closed_as how s)
  can_end how lost taken s c came said none ends =
      record { connection = c; taken = taken; lost = lost; came = came; said = said; ended = subst (λ (l : List Ending). Ends rests (l ++ how ∷ []) lost c) (sym none) ends }

  pub ends_now : (how : Ending) (s : Share X) (c : C) → IsOngoing talks rests c s → EndsAs rests how [] c → IsServed talks rests (closed_as how s)
  ends_now how s c h ends = can_end how [] s.got s c (sym (append-nil s.got)) h.0 h.1 ends

  pub held_served : (s : Share X) (c : C) → IsOngoing talks rests c s → IsServed talks rests s
  held_served s c h = record { connection = c; taken = s.got; lost = []; came = sym (append-nil s.got); said = h.0; ended = subst (λ (l : List Ending). Ends rests l [] c) (sym h.1) refl }

module _ {P D C X : Type 0} (did : P → Event → P → Type 0) (steps : D → X → D → Type 0) (talks : List ℕ → List X → List ℕ → C → Type 0) (rests : C → Type 0) where
  pub turns_none : (number : ℕ) (c : C) (p : P) (d : D) → Turns did steps talks rests number c c None p p d d
  turns_none number c p d p0 d0 h on = (h, on, λ j ne. refl, refl)

  turns_event : (number : ℕ) (old new : C) (result : Option Ending) (p q : P) (d : D) (e : Event) → did p e q
      → ((s : Share X) → IsOngoing talks rests old s → IsAfter talks rests new result (with_event number e s)) → ((j : ℕ) → j ≢ number → Spares X j e) → happened_in e ≡ [] → Turns did steps talks rests number old new result p q d d
  turns_event number old new result p q d e k own others none p0 d0 h on = (
    did_more did steps p0 p q d0 d e h k,
    subst (λ (s : Share X). IsAfter talks rests new result s) (sym (share_push number h.events e h.run)) (own (share_of number h.events h.run) on),
    λ j ne. share_push j h.events e h.run ∙ others j ne (share_of j h.events h.run),
    happenings_same h.events e none,
  )

  pub turns_late : (number : ℕ) (c : C) (p : P) (d : D) → Turns did steps talks rests number c c (Some ending.Late) p p d d
  turns_late number c p d p0 d0 h on = (h, ends_now talks rests ending.Late _ c on refl, λ j ne. refl, refl)

  turns_quiet : (number : ℕ) (c : C) (p q : P) (d : D) → did p quiet q → Turns did steps talks rests number c c None p q d d
  turns_quiet number c p q d k = turns_event number c c None p q d quiet k (λ s on. subst (λ (t : Share X). IsOngoing talks rests c t) (sym (spares_quiet number s)) on) (λ j ne. spares_quiet j) refl

  turns_failed : (number : ℕ) (c : C) (p q : P) (d : D) → did p quiet q → Turns did steps talks rests number c c (Some ending.Failed) p q d d
  turns_failed number c p q d k =
      turns_event number c c (Some ending.Failed) p q d quiet k (λ s on. ends_now talks rests ending.Failed _ c (subst (λ (t : Share X). IsOngoing talks rests c t) (sym (spares_quiet number s)) on) refl) (λ j ne. spares_quiet j) refl

  turns_still : (number : ℕ) (old new : C) (result : Option Ending) (p q : P) (d : D) → did p quiet q → Stays old new result → Turns did steps talks rests number old new result p q d d
  turns_still number old new None p q d k h = subst (λ (c : C). Turns did steps talks rests number old c None p q d d) (sym h) (turns_quiet number old p q d k)
  turns_still number old new (Some ending.Failed) p q d k h = subst (λ (c : C). Turns did steps talks rests number old c (Some ending.Failed) p q d d) (sym h) (turns_failed number old p q d k)
  turns_still number old new (Some ending.Whole) p q d k h = absurd h
  turns_still number old new (Some ending.Late) p q d k h = absurd h
  turns_still number old new (Some ending.NoRoom) p q d k h = absurd h

  turns_got : (number : ℕ) (piece : List ℕ) (old new : C) (result : Option Ending) (p q : P) (d : D) → did p (got number piece) q → TakesPiece talks piece old new result → Turns did steps talks rests number old new result p q d d
  turns_got number piece old new None p q d k more =
      turns_event number old new None p q d (got number piece) k
      (λ s on. subst (λ (t : Share X). IsOngoing talks rests new t) (sym (with_got number piece s)) (more s.got s.asked s.sent on.0, on.1))
      (λ j ne. spares_got j number piece ne) refl
  turns_got number piece old new (Some ending.NoRoom) p q d k more =
      turns_event number old new (Some ending.NoRoom) p q d (got number piece) k
      (λ s on. subst (λ (t : Share X). IsServed talks rests (closed_as ending.NoRoom t)) (sym (with_got number piece s))
      (can_end talks rests ending.NoRoom piece s.got _ new refl (more s.got s.asked s.sent on.0) on.1 tt))
      (λ j ne. spares_got j number piece ne) refl
  turns_got number piece old new (Some ending.Whole) p q d k more = absurd more
  turns_got number piece old new (Some ending.Late) p q d k more = absurd more
  turns_got number piece old new (Some ending.Failed) p q d k more = absurd more

  turns_sent : (number : ℕ) (piece : List ℕ) (old new : C) (result : Option Ending) (p q : P) (d : D) → did p (sent number piece) q → NotesSent talks piece old new result → Turns did steps talks rests number old new result p q d d
  turns_sent number piece old new None p q d k more =
      turns_event number old new None p q d (sent number piece) k
      (λ s on. subst (λ (t : Share X). IsOngoing talks rests new t) (sym (with_sent number piece s)) (more s.got s.asked s.sent on.0, on.1))
      (λ j ne. spares_sent j number piece ne) refl
  turns_sent number piece old new (Some how) p q d k more = absurd more

  -- one read, one write, and what is said at the end of a turn
  pub turns_read : (number : ℕ) (old new : C) (result : Option Ending) (p q : P) (d : D) (event : Event) → did p event q → Reads talks number event old new result → Turns did steps talks rests number old new result p q d d
  turns_read number old new result p q d (happened what) k h = absurd h
  turns_read number old new result p q d quiet k h = turns_still number old new result p q d k h
  turns_read number old new result p q d (got n piece) k h = turns_got number piece old new result p q d (subst (λ (i : ℕ). did p (got i piece) q) h.0 k) h.1
  turns_read number old new result p q d (sent n bytes) k h = absurd h
  turns_read number old new result p q d (closed n how) k h = absurd h

  pub turns_write : (number : ℕ) (old new : C) (result : Option Ending) (p q : P) (d : D) (event : Event) → did p event q → Writes talks number event old new result → Turns did steps talks rests number old new result p q d d
  turns_write number old new result p q d (happened what) k h = absurd h
  turns_write number old new result p q d quiet k h = turns_still number old new result p q d k h
  turns_write number old new result p q d (got n piece) k h = absurd h
  turns_write number old new result p q d (sent n bytes) k h = turns_sent number bytes old new result p q d (subst (λ (i : ℕ). did p (sent i bytes) q) h.0 k) h.1
  turns_write number old new result p q d (closed n how) k h = absurd h

  pub turns_settled : (number : ℕ) (c : C) (result : Option Ending) (p q : P) (d : D) → Settles did rests p q c result → Turns did steps talks rests number c c result p q d d
  turns_settled number c None p q d k = turns_quiet number c p q d k
  turns_settled number c (Some ending.Whole) p q d k =
      subst (λ (r : P). Turns did steps talks rests number c c (Some ending.Whole) p r d d) (sym k.0) (λ p0 d0 h on. (h, ends_now talks rests ending.Whole _ c on (refl, k.1), λ j ne. refl, refl))
  turns_settled number c (Some ending.Late) p q d k = absurd k
  turns_settled number c (Some ending.Failed) p q d k = absurd k
  turns_settled number c (Some ending.NoRoom) p q d k = absurd k

  -- the desk was asked
  pub turns_asked : (number : ℕ) (old new : C) (p : P) (d e : D) → HasAsked talks steps d e old new → Turns did steps talks rests number old new None p p d e
  turns_asked number old new p d e more p0 d0 h on =
      let y = more _ _ _ on.0 in (
        asked_more did steps p0 p d0 d e number y.0 h y.1,
        subst (λ (t : Share X). IsOngoing talks rests new t) (sym (share_asked number h.events h.run y.0)) (y.2, on.1),
        λ j ne. share_spared j number h.events h.run y.0 ne,
        refl,
      )

  -- one after another
  pub turns_on : (number : ℕ) (a b c : C) (result : Option Ending) (p q r : P) (d e f : D) → Turns did steps talks rests number a b None p q d e → Turns did steps talks rests number b c result q r e f → Turns did steps talks rests number a c result p r d f
  turns_on number a b c result p q r d e f first next p0 d0 h on =
      let k = first p0 d0 h on in
      let l = next p0 d0 k.0 k.1 in
      (l.0, l.1, λ j ne. l.2 j ne ∙ k.2 j ne, l.3 ∙ k.3)
