-- One connection that nobody else's requests come between, as a conversation.
use Rattle.std.proofs.Common.{◌≡◌, ◌≢◌, inl, inr, ℕ, Bool, true, false, List, [], ◌∷◌, ◌++◌, take, drop, Option, Some, None, Ok, Err, refl, sym, ap, ◌∙◌, subst, append_assoc, append-nil}
use Rattle.std.proofs.lemmas.Bool.{cases_Bool}
use Rattle.std.proofs.KnownBytes.{Appends-trans, Keeps-refl}
use Rattle.std.specs.Io.KnownBytes.{Appends, Keeps}
use Rattle.bsp_connection.proofs.StepLemmas.{folds_on, has_head, same_head}
use Rattle.bsp_connection.proofs.TalkLemmas.{begun_rest, open_rest, taken_more, talk_start}
use Rattle.bsp_connection.specs.Begun.{HasBegun, asked_early, pending}
use Rattle.bsp_connection.specs.Conversations.{HasHead, IsBegun, IsRun}
use Rattle.bsp_connection.specs.Exchanges.{Exchange, Meaning, Reading, does, inquiry}
use Rattle.bsp_connection.specs.Messages.{Left, left, texts}
use Rattle.bsp_connection.specs.Serving.{Answered, Conversation, EndsBy, MayHaveBegun, Reaches, Serves}
use Rattle.bsp_connection.specs.Talks.{IsFresh, Talks}
use Rattle.bsp_connection.specs.declared.connection.Begun.{Begun}
use Rattle.bsp_connection.specs.declared.connection.Connection.{Connection}
use Rattle.bsp_routes.specs.declared.scan.Scan.{Scan}
use Rattle.bsp_connection.specs.Ends.{IsInputEnd}
use Rattle.bsp_connection.specs.Steps.{WasStep}
use Rattle.bsp_connection.specs.declared.serving.End.{End}
use Rattle.bsp_connection.specs.declared.serving.ServeFault.{ServeFault}
use Rattle.bsp_connection.specs.declared.serving.End.TheVariants.{Clean, Cut, Closed}
use Rattle.bsp_connection.specs.declared.serving.ServeFault.TheVariants.{Read, Write, Memory}

some_byte : (b : ℕ) (bytes : List ℕ) → b ∷ bytes ≡ [] → ⊥
some_byte b bytes e = cc

some_begun : {F : Type 0} (b : Begun F) → Some b ≡ None → ⊥
some_begun b e = cc

-- where nothing was written
keeps_all : (a b : Option (List ℕ)) → Keeps a b → Appends a b []
keeps_all None b same = tt
keeps_all (Some x) None same = absurd same
keeps_all (Some x) (Some y) same = same ∙ sym (append-nil x)

no_end : (a b : List ℕ) → a ++ b ≡ [] → b ≡ []
no_end [] b e = e
no_end (x ∷ a) b e = cc

-- one run behind another
run_on : {D : Type 0} (m : Meaning D) (a b c : D) (xs ys : List Exchange) → IsRun m a xs b → IsRun m b ys c → IsRun m a (xs ++ ys) c
run_on m a b c xs ys h k = folds_on (does m) a b c xs ys h k

module _ {D F B : Type 0} (m : Meaning D) (r : Reading F B) where
  -- what is left of the input, whatever comes after what was read
  abbrev left_of : (got sent more : List ℕ) (xs : List Exchange) (c : Connection F B) → Talks m r got xs sent c → Left
  left_of got sent more xs c t = left c.count (t.rest ++ more) c.closed

  -- all that came is answered, whatever comes after it
  answered_all : (got sent more output text : List ℕ) (xs : List Exchange) (c : Connection F B) (old new : D) (t : Talks m r got xs sent c) → IsRun m old xs new → output ≡ texts t.items ++ text
      → Answered m (got ++ more) old xs output new (left_of got sent more xs c t) text (asked_early c.begun c.received.items)
  answered_all got sent more output text xs c old new t run is = record {
    items = t.items;
    taken = taken_more m more (left 0 got false) t.items (left c.count t.rest c.closed) t.cut;
    run = run;
    asked_are = t.asked_are;
    output_is = is;
  }

  -- where all is sent
  sent_all : (got sent : List ℕ) (xs : List Exchange) (c : Connection F B) (t : Talks m r got xs sent c) → c.out.bytes ≡ [] → sent ≡ texts t.items ++ pending c.begun
  sent_all got sent xs c t out = sym (append-nil sent) ∙ ap (λ (l : List ℕ). sent ++ l) (sym out) ∙ t.put

  ended : (got sent more : List ℕ) (xs : List Exchange) (c : Connection F B) (old new : D) (t : Talks m r got xs sent c) (end : End) → c.out.bytes ≡ [] → IsRun m old xs new → EndsBy (left_of got sent more xs c t) end (pending c.begun) (asked_early c.begun c.received.items)
      → Conversation m (got ++ more) old xs sent new end c.count
  ended got sent more xs c old new t end out run ends = record {
    last = left_of got sent more xs c t;
    text = pending c.begun;
    early = asked_early c.begun c.received.items;
    answered = answered_all got sent more sent (pending c.begun) xs c old new t run (sent_all got sent xs c t out);
    ends = ends;
    messages_are = refl;
  }

  no_pending : (o : Option (Begun F)) → o ≡ None → pending o ≡ []
  no_pending o none = ap (λ (p : Option (Begun F)). pending p) none

  none_asked : (o : Option (Begun F)) (received : List ℕ) → o ≡ None → asked_early o received ≡ []
  none_asked o received none = ap (λ (p : Option (Begun F)). asked_early p received) none

  served_closed : (got sent : List ℕ) (xs : List Exchange) (c : Connection F B) (old new : D) (before after : Option (List ℕ)) → Talks m r got xs sent c → c.closed ≡ true → c.out.bytes ≡ [] → c.begun ≡ None → IsRun m old xs new → Appends before after sent
      → Serves m got old new before after (Ok (record { messages = c.count; end = Closed }))
  served_closed got sent xs c old new before after t shut out none run wrote =
      (sent, xs, wrote, run, λ more stops. ended got sent more xs c old new t Closed out run (shut, no_pending c.begun none, none_asked c.begun c.received.items none))

  talk_clean : (got sent more : List ℕ) (xs : List Exchange) (c : Connection F B) (old new : D) (t : Talks m r got xs sent c) → c.closed ≡ false → c.out.bytes ≡ [] → c.begun ≡ None → t.rest ≡ [] → IsRun m old xs new → more ≡ []
      → Conversation m (got ++ more) old xs sent new Clean c.count
  talk_clean got sent more xs c old new t still out none rest run end =
      ended got sent more xs c old new t Clean out run (still, ap (λ (l : List ℕ). l ++ more) rest ∙ end, no_pending c.begun none, none_asked c.begun c.received.items none)

  talk_cut : (got sent more : List ℕ) (xs : List Exchange) (c : Connection F B) (old new : D) (t : Talks m r got xs sent c) → c.closed ≡ false → c.out.bytes ≡ [] → IsBegun t.rest (pending c.begun) (asked_early c.begun c.received.items) → IsRun m old xs new → more ≡ []
      → Conversation m (got ++ more) old xs sent new Cut c.count
  talk_cut got sent more xs c old new t still out begun run end =
      ended got sent more xs c old new t Cut out run (still, subst (λ (l : List ℕ). IsBegun l (pending c.begun) (asked_early c.begun c.received.items)) (sym (ap (λ (l : List ℕ). t.rest ++ l) end ∙ append-nil t.rest)) begun)

  -- ---- a write failed

  begun_text : (got sent more : List ℕ) (xs : List Exchange) (c : Connection F B) (t : Talks m r got xs sent c) (o : Option (Begun F)) → c.begun ≡ o → (c.closed ≡ true → c.begun ≡ None) → MayHaveBegun (left_of got sent more xs c t) (pending o) (asked_early o c.received.items)
  begun_text got sent more xs c t None is shut = inl (refl, refl)
  begun_text got sent more xs c t (Some b) is shut = elim (cases_Bool c.closed) [
    | inl closed ↦ absurd (some_begun b (sym is ∙ shut closed))
    | inr still ↦
        let h = subst (λ (o : Option (Begun F)). HasBegun r m.uses o c.received.items c.scan c.seen c.body c.has_more t.rest) is (t.has still).1 in
        let front : List ℕ = take b.head c.received.items in
        let tail : List ℕ = h.came ++ drop b.head c.received.items in
        let all : t.rest ++ more ≡ front ++ (tail ++ more) = ap (λ (l : List ℕ). l ++ more) h.is ∙ append_assoc front tail more in
        inr (still, (b.head, h.headed.read.parts_are.0, b.parts.wanted, subst (λ (l : List ℕ). HasHead l b.head h.headed.read.parts_are.0 b.parts.wanted) (sym all) (has_head c.received.items (tail ++ more) b.head b.parts h.headed.read), refl, ap (inquiry b.parts.wanted.expects) (same_head front b.parts h.headed.read.parts_are)))
  ]

  reaches : (got sent more : List ℕ) (xs : List Exchange) (c : Connection F B) (old new : D) → Talks m r got xs sent c → (c.closed ≡ true → c.begun ≡ None) → c.out.bytes ≢ [] → IsRun m old xs new → Reaches m (got ++ more) old xs (sent ++ c.out.bytes) new
  reaches got sent more xs c old new t shut some run = record {
    last = left_of got sent more xs c t;
    text = pending c.begun;
    early = asked_early c.begun c.received.items;
    answered = answered_all got sent more (sent ++ c.out.bytes) (pending c.begun) xs c old new t run t.put;
    may_have_begun = begun_text got sent more xs c t c.begun refl shut;
    some = λ none. some (no_end sent c.out.bytes none);
  }

  -- ---- the last step

  -- the input ends within a message
  cut_rest : (o : Option (Begun F)) (received : List ℕ) (scan : Scan) (seen : ℕ) (body : Option B) (rest : List ℕ) → HasBegun r m.uses o received scan seen body false rest → (o ≡ None → received ≢ []) → IsBegun rest (pending o) (asked_early o received)
  cut_rest None received scan seen body rest h some = elim (open_rest m r None received scan seen body rest h) [
    | inl none ↦ absurd (some refl (sym h.is ∙ none))
    | inr begun ↦ begun
  ]
  cut_rest (Some b) received scan seen body rest h some = begun_rest m r b received body rest h

  has_of : (got sent : List ℕ) (xs : List Exchange) (c : Connection F B) (t : Talks m r got xs sent c) → c.closed ≡ false → c.has_more ≡ false → HasBegun r m.uses c.begun c.received.items c.scan c.seen c.body false t.rest
  has_of got sent xs c t still none = subst (λ (b : Bool). HasBegun r m.uses c.begun c.received.items c.scan c.seen c.body b t.rest) none (t.has still).1

  no_rest : (got sent : List ℕ) (xs : List Exchange) (c : Connection F B) (t : Talks m r got xs sent c) → c.closed ≡ false → c.begun ≡ None → c.received.items ≡ [] → t.rest ≡ []
  no_rest got sent xs c t still none empty = (subst (λ (o : Option (Begun F)). HasBegun r m.uses o c.received.items c.scan c.seen c.body c.has_more t.rest) none (t.has still).1).is ∙ empty

  stopped : (got sent : List ℕ) (xs : List Exchange) (c : Connection F B) (old new : D) (t : Talks m r got xs sent c) (o : Option (Begun F)) (received : List ℕ) → c.begun ≡ o → c.received.items ≡ received → c.closed ≡ false → c.out.bytes ≡ [] → c.has_more ≡ false → IsRun m old xs new
      → (end : End) × IsInputEnd end × ((messages : ℕ) × Conversation m got old xs sent new end messages)
  stopped got sent xs c old new t None [] is empty still out none run =
      (Clean, inl refl, (c.count, subst (λ (l : List ℕ). Conversation m l old xs sent new Clean c.count) (append-nil got) (talk_clean got sent [] xs c old new t still out is (no_rest got sent xs c t still is empty) run refl)))
  stopped got sent xs c old new t None (b ∷ received) is some still out none run = (
    Cut,
    inr refl,
    (
      c.count,
      subst (λ (l : List ℕ). Conversation m l old xs sent new Cut c.count) (append-nil got)
          (talk_cut got sent [] xs c old new t still out (cut_rest c.begun c.received.items c.scan c.seen c.body t.rest (has_of got sent xs c t still none) (λ e f. some_byte b received (sym some ∙ f))) run refl),
    ),
  )
  stopped got sent xs c old new t (Some b) received is same still out none run = (
    Cut,
    inr refl,
    (
      c.count,
      subst (λ (l : List ℕ). Conversation m l old xs sent new Cut c.count) (append-nil got)
          (talk_cut got sent [] xs c old new t still out (cut_rest c.begun c.received.items c.scan c.seen c.body t.rest (has_of got sent xs c t still none) (λ e. absurd (some_begun b (sym is ∙ e)))) run refl),
    ),
  )

  served_end : (got more text later : List ℕ) (xs : List Exchange) (c last : Connection F B) (old mid new : D) (a b z : Option (List ℕ)) (end : End) → Appends a b text → Appends b z later → IsRun m old xs mid → Talks m r got xs text c
      → WasStep m r more later c last mid new (Ok (Some end)) → Serves m (got ++ more) old new a z (Ok (record { messages = last.count; end = end }))
  served_end got more text later xs c last old mid new a b z Closed wrote writes run t w =
      let k = w.0 got text xs t in
      served_closed (got ++ more) (text ++ later) (xs ++ k.0) last old new a z k.2 w.2 w.1 w.3 (run_on m old mid new xs k.0 run k.1) (Appends-trans a b z text later wrote writes)
  served_end got more text later xs c last old mid new a b z Clean wrote writes run t w =
      let k = w.0 got text xs t in
      let whole = run_on m old mid new xs k.0 run k.1 in
      let rest = no_rest (got ++ more) (text ++ later) (xs ++ k.0) last k.2 w.1.2 w.2.0 w.2.1 in
      (text ++ later, xs ++ k.0, Appends-trans a b z text later wrote writes, whole, λ after stops. talk_clean (got ++ more) (text ++ later) after (xs ++ k.0) last old new k.2 w.1.2 w.1.0 w.2.0 rest whole (stops (inl refl)))
  served_end got more text later xs c last old mid new a b z Cut wrote writes run t w =
      let k = w.0 got text xs t in
      let whole = run_on m old mid new xs k.0 run k.1 in
      let begun = cut_rest last.begun last.received.items last.scan last.seen last.body k.2.rest (has_of (got ++ more) (text ++ later) (xs ++ k.0) last k.2 w.1.2 w.2) w.3 in
      (text ++ later, xs ++ k.0, Appends-trans a b z text later wrote writes, whole, λ after stops. talk_cut (got ++ more) (text ++ later) after (xs ++ k.0) last old new k.2 w.1.2 w.1.0 begun whole (stops (inr refl)))

  served_fault : (got more text later : List ℕ) (xs : List Exchange) (c last : Connection F B) (old mid new : D) (a b z : Option (List ℕ)) (fault : ServeFault) → Appends a b text → Appends b z later → IsRun m old xs mid → Talks m r got xs text c
      → WasStep m r more later c last mid new (Err fault) → Serves m (got ++ more) old new a z (Err fault)
  served_fault got more text later xs c last old mid new a b z Read wrote writes run t w =
      let k = w.0 got text xs t in
      let whole = run_on m old mid new xs k.0 run k.1 in
      (text ++ later, xs ++ k.0, Appends-trans a b z text later wrote writes, whole, stopped (got ++ more) (text ++ later) (xs ++ k.0) last old new k.2 last.begun last.received.items refl refl w.1.2 w.1.0 w.2 whole)
  served_fault got more text later xs c last old mid new a b z Write wrote writes run t w =
      let k = w.0 got text xs t in
      let whole = run_on m old mid new xs k.0 run k.1 in
      let said : Talks m r (got ++ more) (xs ++ k.0) text last = subst (λ (l : List ℕ). Talks m r (got ++ more) (xs ++ k.0) l last) (append-nil text) k.2 in (
        text ++ last.out.bytes,
        xs ++ k.0,
        text ++ later,
        w.1.0,
        ap (λ (l : List ℕ). text ++ l) w.1.1 ∙ sym (append_assoc text later w.1.0),
        Appends-trans a b z text later wrote writes,
        whole,
        λ after. reaches (got ++ more) text after (xs ++ k.0) last old new said w.3 w.2 whole,
      )
  served_fault got more text later xs c last old mid new a b z Memory wrote writes run t w = absurd w

  -- all that was done when a step begins
  pub record SoFar (old : D) (a b : Option (List ℕ)) (c : Connection F B) (now : D) (got : List ℕ) : Type 0 where
    pub text : List ℕ
    pub xs : List Exchange
    pub wrote : Appends a b text
    pub run : IsRun m old xs now
    pub talk : Talks m r got xs text c

  pub so_far_more : (old : D) (a b z : Option (List ℕ)) (c next : Connection F B) (mid new : D) (got more later : List ℕ) → SoFar old a b c mid got → Appends b z later → WasStep m r more later c next mid new (Ok None) → SoFar old a z next new (got ++ more)
  so_far_more old a b z c next mid new got more later s writes w =
      let k = w.0 got s.text s.xs s.talk in
      record { text = s.text ++ later; xs = s.xs ++ k.0; wrote = Appends-trans a b z s.text later s.wrote writes; run = run_on m old mid new s.xs k.0 s.run k.1; talk = k.2 }

  pub so_far_end : (old : D) (a b z : Option (List ℕ)) (c last : Connection F B) (mid new : D) (got more later : List ℕ) (end : End) → SoFar old a b c mid got → Appends b z later → WasStep m r more later c last mid new (Ok (Some end))
      → Serves m (got ++ more) old new a z (Ok (record { messages = last.count; end = end }))
  so_far_end old a b z c last mid new got more later end s writes w = served_end got more s.text later s.xs c last old mid new a b z end s.wrote writes s.run s.talk w

  pub so_far_fault : (old : D) (a b z : Option (List ℕ)) (c last : Connection F B) (mid new : D) (got more later : List ℕ) (fault : ServeFault) → SoFar old a b c mid got → Appends b z later → WasStep m r more later c last mid new (Err fault)
      → Serves m (got ++ more) old new a z (Err fault)
  so_far_fault old a b z c last mid new got more later fault s writes w = served_fault got more s.text later s.xs c last old mid new a b z fault s.wrote writes s.run s.talk w

  pub so_far_none : (old : D) (a : Option (List ℕ)) (c : Connection F B) → IsFresh c → SoFar old a a c old []
  so_far_none old a c fresh = record { text = []; xs = []; wrote = keeps_all a a (Keeps-refl a); run = refl; talk = talk_start m r c fresh }
