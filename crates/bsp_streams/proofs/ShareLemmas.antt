-- The shares of connections after one more event, and after the desk was asked more.
use Rattle.std.proofs.Common.{◌≡◌, ◌≢◌, ℕ, Bool, true, ◌==◌, List, [], ◌∷◌, ◌++◌, if◌then◌else◌, refl, sym, ap, ◌∙◌, subst, append-nil, eq-eqb}
use Rattle.std.proofs.lemmas.Bool.{ne_eqb}
use Rattle.std.proofs.lemmas.Fn.{FoldsTo-push}
use Rattle.std.proofs.lemmas.Grind.{flat_map-append}
use Rattle.std.proofs.lemmas.List.{flat_map_more, map-append}
use Rattle.std.specs.List.{FoldsTo, flat_map}
use Rattle.bsp_streams.specs.Events.{Event, ends_in, got_in, happened_in, sent_in}
use Rattle.bsp_streams.specs.Events.Event.{happened, quiet, got, sent, closed}
use Rattle.bsp_streams.specs.Shares.{Asked, History, Share, asked_in, exchanges, happenings, share_of}
use Rattle.bsp_streams.specs.declared.peers.Ending.{Ending}
use Rattle.bsp_streams.specs.declared.peers.Happened.{Happened}

abbrev pub share : {X : Type 0} → List ℕ → List X → List ℕ → List Ending → Share X
share g a s e = record { got = g; asked = a; sent = s; ends = e }

pub share_same : {X : Type 0} (g h : List ℕ) (a b : List X) (s t : List ℕ) (e f : List Ending) → g ≡ h → a ≡ b → s ≡ t → e ≡ f → share g a s e ≡ share h b t f
share_same g h a b s t e f eg ea es ee =
    ap (λ l. share l a s e) eg ∙ (ap (λ l. share h l s e) ea ∙ (ap (λ l. share h b l e) es ∙ ap (λ l. share h b t l) ee))

same : (n : ℕ) → (n == n) ≡ true
same n = eq-eqb n n refl

-- ---- one more event

abbrev pub with_event : {X : Type 0} → ℕ → Event → Share X → Share X
with_event i e s = share (s.got ++ got_in i e) s.asked (s.sent ++ sent_in i e) (s.ends ++ ends_in i e)

push : {A B : Type 0} (f : A → List B) (xs : List A) (x : A) → flat_map f (xs ++ x ∷ []) ≡ flat_map f xs ++ f x
push f xs x = sym (flat_map_more f [] xs x)

pub share_push : {X : Type 0} (i : ℕ) (es : List Event) (e : Event) (run : List (Asked X)) → share_of i (es ++ e ∷ []) run ≡ with_event i e (share_of i es run)
share_push i es e run = share_same _ _ _ _ _ _ _ _ (push (got_in i) es e) refl (push (sent_in i) es e) (push (ends_in i) es e)

pub happenings_push : (es : List Event) (e : Event) → happenings (es ++ e ∷ []) ≡ happenings es ++ happened_in e
happenings_push es e = push happened_in es e

pub happenings_same : (es : List Event) (e : Event) → happened_in e ≡ [] → happenings (es ++ e ∷ []) ≡ happenings es
happenings_same es e none = happenings_push es e ∙ ap (λ (l : List Happened). happenings es ++ l) none ∙ append-nil (happenings es)

-- in which a connection has no part
abbrev pub Spares : (X : Type 0) → ℕ → Event → Type 0
Spares X j e = (s : Share X) → with_event j e s ≡ s

pub spares_quiet : {X : Type 0} (j : ℕ) → Spares X j quiet
spares_quiet j s = share_same _ _ _ _ _ _ _ _ (append-nil s.got) refl (append-nil s.sent) (append-nil s.ends)

pub spares_happened : {X : Type 0} (j : ℕ) (what : Happened) → Spares X j (happened what)
spares_happened j what s = share_same _ _ _ _ _ _ _ _ (append-nil s.got) refl (append-nil s.sent) (append-nil s.ends)

pub spares_got : {X : Type 0} (j n : ℕ) (bytes : List ℕ) → j ≢ n → Spares X j (got n bytes)
spares_got j n bytes ne s = share_same _ _ _ _ _ _ _ _ (ap (λ (b : Bool). s.got ++ (if b then bytes else [])) (ne_eqb j n ne) ∙ append-nil s.got) refl (append-nil s.sent) (append-nil s.ends)

pub spares_sent : {X : Type 0} (j n : ℕ) (bytes : List ℕ) → j ≢ n → Spares X j (sent n bytes)
spares_sent j n bytes ne s = share_same _ _ _ _ _ _ _ _ (append-nil s.got) refl (ap (λ (b : Bool). s.sent ++ (if b then bytes else [])) (ne_eqb j n ne) ∙ append-nil s.sent) (append-nil s.ends)

pub spares_closed : {X : Type 0} (j n : ℕ) (how : Ending) → j ≢ n → Spares X j (closed n how)
spares_closed j n how ne s = share_same _ _ _ _ _ _ _ _ (append-nil s.got) refl (append-nil s.sent) (ap (λ (b : Bool). s.ends ++ (if b then how ∷ [] else [])) (ne_eqb j n ne) ∙ append-nil s.ends)

-- its own
pub with_got : {X : Type 0} (n : ℕ) (bytes : List ℕ) (s : Share X) → with_event n (got n bytes) s ≡ share (s.got ++ bytes) s.asked s.sent s.ends
with_got n bytes s = share_same _ _ _ _ _ _ _ _ (ap (λ (b : Bool). s.got ++ (if b then bytes else [])) (same n)) refl (append-nil s.sent) (append-nil s.ends)

pub with_sent : {X : Type 0} (n : ℕ) (bytes : List ℕ) (s : Share X) → with_event n (sent n bytes) s ≡ share s.got s.asked (s.sent ++ bytes) s.ends
with_sent n bytes s = share_same _ _ _ _ _ _ _ _ (append-nil s.got) refl (ap (λ (b : Bool). s.sent ++ (if b then bytes else [])) (same n)) (append-nil s.ends)

pub with_closed : {X : Type 0} (n : ℕ) (how : Ending) (s : Share X) → with_event n (closed n how) s ≡ share s.got s.asked s.sent (s.ends ++ how ∷ [])
with_closed n how s = share_same _ _ _ _ _ _ _ _ (append-nil s.got) refl (append-nil s.sent) (ap (λ (b : Bool). s.ends ++ (if b then how ∷ [] else [])) (same n))

-- ---- the desk was asked more

abbrev pub all_by : {X : Type 0} → ℕ → List X → List (Asked X)
all_by number [] = []
all_by number (x ∷ xs) = record { by = number; exchange = x } ∷ all_by number xs

exchanges-all_by : {X : Type 0} (n : ℕ) (xs : List X) → exchanges (all_by n xs) ≡ xs
exchanges-all_by n [] = refl
exchanges-all_by n (x ∷ xs) = ap (λ l. x ∷ l) (exchanges-all_by n xs)

pub exchanges_more : {X : Type 0} (run : List (Asked X)) (n : ℕ) (ys : List X) → exchanges (run ++ all_by n ys) ≡ exchanges run ++ ys
exchanges_more run n ys = map-append (λ a. a.exchange) run (all_by n ys) ∙ ap (λ l. exchanges run ++ l) (exchanges-all_by n ys)

asked_same : {X : Type 0} (n : ℕ) (xs : List X) → flat_map (asked_in n) (all_by n xs) ≡ xs
asked_same n [] = refl
asked_same {X} n (x ∷ xs) = ap (λ (b : Bool). (if b then x ∷ [] else []) ++ flat_map (asked_in n) (all_by n xs)) (same n) ∙ ap (λ (l : List X). x ∷ l) (asked_same n xs)

asked_other : {X : Type 0} (j n : ℕ) (xs : List X) → j ≢ n → flat_map (asked_in j) (all_by n xs) ≡ []
asked_other j n [] ne = refl
asked_other {X} j n (x ∷ xs) ne = ap (λ (b : Bool). (if b then x ∷ [] else []) ++ flat_map (asked_in j) (all_by n xs)) (ne_eqb j n ne) ∙ asked_other j n xs ne

pub share_asked : {X : Type 0} (n : ℕ) (events : List Event) (run : List (Asked X)) (ys : List X)
    → share_of n events (run ++ all_by n ys) ≡ share (share_of n events run).got ((share_of n events run).asked ++ ys) (share_of n events run).sent (share_of n events run).ends
share_asked n events run ys = share_same _ _ _ _ _ _ _ _ refl (flat_map-append (asked_in n) run (all_by n ys) ∙ ap (λ l. flat_map (asked_in n) run ++ l) (asked_same n ys)) refl refl

pub share_spared : {X : Type 0} (j n : ℕ) (events : List Event) (run : List (Asked X)) (ys : List X) → j ≢ n → share_of j events (run ++ all_by n ys) ≡ share_of j events run
share_spared j n events run ys ne =
    share_same _ _ _ _ _ _ _ _ refl (flat_map-append (asked_in j) run (all_by n ys) ∙ ap (λ l. flat_map (asked_in j) run ++ l) (asked_other j n ys ne) ∙ append-nil (flat_map (asked_in j) run)) refl refl

-- ---- the history

-- some steps after others
pub folds_on : {P A : Type 0} (R : P → A → P → Type 0) (p q r : P) (xs ys : List A) → FoldsTo R p xs q → FoldsTo R q ys r → FoldsTo R p (xs ++ ys) r
folds_on {P} R p q r [] ys h k = subst (λ (s : P). FoldsTo R s ys r) (sym h) k
folds_on {P} R p q r (x ∷ xs) ys h k = (h.0, h.1, folds_on R h.0 q r xs ys h.2 k)

module _ {P D X : Type 0} (did : P → Event → P → Type 0) (steps : D → X → D → Type 0) where
  abbrev pub start : (p : P) (d : D) → History did steps p p d d
  start p d = record { events = []; run = []; done = refl; answered = refl }

  abbrev pub did_more : (p0 p q : P) (d0 d : D) (e : Event) → History did steps p0 p d0 d → did p e q → History did steps p0 q d0 d
  did_more p0 p q d0 d e h k = record { events = h.events ++ e ∷ []; run = h.run; done = FoldsTo-push did p0 h.events p e q h.done k; answered = h.answered }

  abbrev pub asked_more : (p0 p : P) (d0 d e : D) (n : ℕ) (ys : List X) → History did steps p0 p d0 d → FoldsTo steps d ys e → History did steps p0 p d0 e
  asked_more p0 p d0 d e n ys h k = record {
    events = h.events;
    run = h.run ++ all_by n ys;
    done = h.done;
    answered = subst (λ (l : List X). FoldsTo steps d0 l e) (sym (exchanges_more h.run n ys)) (folds_on steps d0 d e (exchanges h.run) ys h.answered k);
  }
