-- All that a connection has done, behind one call more.
use Rattle.std.proofs.Common.{◌≡◌, ◌⊎◌, inl, inr, ℕ, ◌+◌, ◌<◌, ◌≤◌, Bool, true, false, List, [], ◌∷◌, ◌++◌, length, take, drop, Option, Some, None, is_some, Result, Ok, Err, OnOk, refl, sym, ap, ◌∙◌, subst, append_assoc, append-nil, length-append, length-drop, arith}
use Rattle.std.proofs.lemmas.Bool.{cases_Bool, false≢true}
use Rattle.std.proofs.lemmas.List.{drop-append-le, drop_all, length-take-le, take-append-le}
use Rattle.std.proofs.lemmas.Grind.{flat_map-append}
use Rattle.httparse.specs.Grammar.{RequestHead}
use Rattle.httparse.specs.Spans.{span_bytes}
use Rattle.bsp_routes.proofs.ScanLemmas.{head_len-le, head_len-more}
use Rattle.bsp_routes.specs.Head.{IsHead, Refuses, headers_of}
use Rattle.bsp_routes.specs.Fields.{token_of}
use Rattle.bsp_routes.specs.Scan.{HasScanned, head_len}
use Rattle.bsp_routes.specs.declared.fault.Refused.{Refused}
use Rattle.bsp_routes.specs.declared.parts.Wanted.{Wanted}
use Rattle.bsp_routes.specs.declared.scan.Scan.{Scan}
use Rattle.bsp_connection.specs.Exchanges.{Exchange, Meaning, Reading, RequestText, inquiry, interim, used}
use Rattle.bsp_connection.specs.Conversations.{HasHead, HasMessage, HasRefusal, IsBegun, IsRun, message_limit}
use Rattle.bsp_connection.proofs.StepLemmas.{folds_on, has_head, headed_in, same_head}
use Rattle.bsp_connection.specs.Begun.{HasBegun, HasUnread, IsBegunAs, asked_early, head_in, IsSought, pending}
use Rattle.bsp_connection.specs.Messages.{AreTaken, Item, Left, Takes, asked, left, texts}
use Rattle.bsp_connection.specs.Messages.Takes.{answered, refused, unroomed, unwanted}
use Rattle.bsp_connection.specs.Outputs.{Put}
use Rattle.bsp_connection.specs.Talks.{HasTaken, IsFresh, IsLike, IsSame, IsSent, Moves, Rests, Talks}
use Rattle.bsp_connection.specs.declared.connection.Begun.{Begun}
use Rattle.bsp_connection.specs.declared.connection.Connection.{Connection}

-- ---- messages stay what they are, whatever comes after them

head_more : (unread more : List ℕ) (len : ℕ) (h : RequestHead) (wanted : Wanted) → len ≤ length unread → HasHead unread len h wanted → HasHead (unread ++ more) len h wanted
head_more unread more len h wanted within has = record {
  ends = head_len-more unread more len has.ends;
  short = has.short;
  head = subst (λ (l : List ℕ). IsHead l h) (sym (take-append-le len unread more within)) has.head;
  judged = has.judged;
}

refusal_more : (unread more : List ℕ) (why : Refused) → HasRefusal unread why → HasRefusal (unread ++ more) why
refusal_more unread more why has = record {
  why = elim has.why [
    | inl long ↦ inl (long.0, omega (arith, long.1, length-append unread more), ap head_len (take-append-le 16384 unread more long.1) ∙ long.2)
    | inr faulty ↦ inr (faulty.0, head_len-more unread more faulty.0 faulty.1, faulty.2, subst (λ (l : List ℕ). Refuses l why) (sym (take-append-le faulty.0 unread more (head_len-le unread faulty.0 faulty.1))) faulty.3)
  ];
}

module _ {D : Type 0} (m : Meaning D) where
  message_more : (unread more rest : List ℕ) (request : RequestText) (wanted : Wanted) → HasMessage m unread request wanted rest → HasMessage m (unread ++ more) request wanted (rest ++ more)
  message_more unread more rest request wanted has =
      let whole = has.whole in
      let within : has.len ≤ length unread = omega (arith, whole) in
      let after : drop has.len (unread ++ more) ≡ drop has.len unread ++ more = drop-append-le has.len unread more within in
      let body : take wanted.body (drop has.len unread) ≡ take wanted.body (drop has.len (unread ++ more))
      = sym (ap (take wanted.body) after ∙ take-append-le wanted.body (drop has.len unread) more (omega (arith, whole, length-drop has.len unread))) in
      record {
        len = has.len;
        head = has.head;
        has = head_more unread more has.len has.head wanted within has.has;
        is_used = has.is_used;
        use_is = has.use_is;
        whole = omega (arith, whole, length-append unread more);
        request_is = has.request_is ∙ ap (λ (l : List ℕ). record { method = has.head.method; target = has.head.target; token = token_of (headers_of has.head); body = used has.is_used l }) body;
        rest_is = ap (λ (l : List ℕ). l ++ more) has.rest_is ∙ sym (drop-append-le (has.len + wanted.body) unread more whole);
      }

  abbrev pub longer : List ℕ → Left → Left
  longer more p = left p.count (p.unread ++ more) p.closed

  takes_more : (more : List ℕ) (p : Left) (i : Item) (q : Left) → Takes m p i q → Takes m (longer more p) i (longer more q)
  takes_more more p i q (refused why unclosed has is count closed) = refused why unclosed (refusal_more p.unread more why has) is count closed
  takes_more more p i q (unroomed len h wanted unclosed has some uses is count closed) =
      unroomed len h wanted unclosed (head_more p.unread more len h wanted (head_len-le p.unread len has.ends) has) some uses is count closed
  takes_more more p i q (unwanted len h wanted reply unclosed has expects is count closed) = unwanted len h wanted reply unclosed (head_more p.unread more len h wanted (head_len-le p.unread len has.ends) has) expects is count closed
  takes_more more p i q (answered request reply wanted unclosed has is count closed) = answered request reply wanted unclosed (message_more p.unread more q.unread request wanted has) is count closed

  pub taken_more : (more : List ℕ) (p : Left) (items : List Item) (q : Left) → AreTaken m p items q → AreTaken m (longer more p) items (longer more q)
  taken_more more p [] q e = ap (longer more) e
  taken_more more p (i ∷ items) q h = (longer more h.0, takes_more more p i h.0 h.1, taken_more more h.0 items q h.2)

-- ---- what came and is in no message

sought_more : (received piece : List ℕ) (scan : Scan) (seen : ℕ) (before : Bool) (unread : List ℕ) → IsSought received scan seen before unread → IsSought (received ++ piece) scan seen true (unread ++ piece)
sought_more received piece scan seen before unread s =
    let within = s.within in record {
      is = ap (λ (l : List ℕ). l ++ piece) s.is;
      within = omega (arith, within, length-append received piece);
      scanned = subst (λ (l : List ℕ). HasScanned l scan) (sym (take-append-le seen received piece within)) s.scanned;
      waits = λ none. absurd (false≢true (sym none));
    }

module _ {F B : Type 0} (r : Reading F B) (uses : List ℕ → List ℕ → Bool → Type 0) where
  begun_more : (b : Begun F) (received piece : List ℕ) (body : Option B) (before : Bool) (unread : List ℕ) → IsBegunAs r uses b received body before unread → IsBegunAs r uses b (received ++ piece) body true (unread ++ piece)
  begun_more b received piece body before unread h =
      let within = h.headed.read.within in
      let front : take b.head (received ++ piece) ≡ take b.head received = take-append-le b.head received piece within in
      let after : drop b.head (received ++ piece) ≡ drop b.head received ++ piece = drop-append-le b.head received piece within in record {
        headed = headed_in r received (received ++ piece) b front (omega (arith, within, length-append received piece)) h.headed;
        is_used = subst (λ (l : List ℕ). uses (span_bytes l b.parts.method) (span_bytes l b.parts.target) (is_some body)) (sym front) h.is_used;
        came = h.came;
        is = ap (λ (l : List ℕ). l ++ piece) h.is ∙ append_assoc (take b.head received) (h.came ++ drop b.head received) piece ∙ ap (λ (l : List ℕ). take b.head received ++ l) (append_assoc h.came (drop b.head received) piece)
            ∙ ap (λ (l : List ℕ). take b.head received ++ (h.came ++ l)) (sym after) ∙ ap (λ (l : List ℕ). l ++ (h.came ++ drop b.head (received ++ piece))) (sym front);
        sized = h.sized;
        has = h.has;
        waits = λ none. absurd (false≢true (sym none));
      }

  has_begun_more : (o : Option (Begun F)) (received piece : List ℕ) (scan : Scan) (seen : ℕ) (body : Option B) (before : Bool) (unread : List ℕ)
      → HasBegun r uses o received scan seen body before unread → HasBegun r uses o (received ++ piece) scan seen body true (unread ++ piece)
  has_begun_more None received piece scan seen body before unread h = sought_more received piece scan seen before unread h
  has_begun_more (Some b) received piece scan seen body before unread h = begun_more b received piece body before unread h

  -- what was asked for the message that is begun
  early_more : (o : Option (Begun F)) (received piece : List ℕ) (scan : Scan) (seen : ℕ) (body : Option B) (before : Bool) (unread : List ℕ) → HasBegun r uses o received scan seen body before unread
      → asked_early o received ≡ asked_early o (received ++ piece)
  early_more None received piece scan seen body before unread h = refl
  early_more (Some b) received piece scan seen body before unread h =
      ap (λ (l : List ℕ). inquiry b.parts.wanted.expects (head_in l b.parts)) (sym (take-append-le b.head received piece h.headed.read.within))

  -- the same of a connection like another
  like_has : (old new : Connection F B) (received : List ℕ) (more : Bool) (unread : List ℕ) → IsLike old new → new.received.items ≡ received → new.has_more ≡ more
      → (old.closed ≡ false → (old.count < message_limit) × HasBegun r uses old.begun received old.scan old.seen old.body more unread) → HasUnread r uses new unread
  like_has old new received more unread l same h has still =
      let k = has (sym l.closed ∙ still) in (
        subst (λ (n : ℕ). n < message_limit) (sym l.count) k.0,
        subst (λ (o : Option (Begun F)). HasBegun r uses o new.received.items new.scan new.seen new.body new.has_more unread) (sym l.begun)
            (subst (λ (x : List ℕ). HasBegun r uses old.begun x new.scan new.seen new.body new.has_more unread) (sym same)
            (subst (λ (x : Scan). HasBegun r uses old.begun received x new.seen new.body new.has_more unread) (sym l.scan)
            (subst (λ (x : ℕ). HasBegun r uses old.begun received old.scan x new.body new.has_more unread) (sym l.seen)
            (subst (λ (x : Option B). HasBegun r uses old.begun received old.scan old.seen x new.has_more unread) (sym l.body)
            (subst (λ (x : Bool). HasBegun r uses old.begun received old.scan old.seen old.body x unread) (sym h) k.1))))),
      )

pub if_ok : {A E : Type 0} {P Q : Type 0} (r : Result A E) → (P → Q) → OnOk r P → OnOk r Q
if_ok (Ok a) f p = f p
if_ok (Err e) f p = p

some_bytes : (b : ℕ) (bytes : List ℕ) → b ∷ bytes ≡ [] → ⊥
some_bytes b bytes e = cc

-- ---- calls

module _ {D F B : Type 0} (m : Meaning D) (r : Reading F B) where
  pub talk_start : (c : Connection F B) → IsFresh c → Talks m r [] [] [] c
  talk_start c f =
      let has : IsSought [] c.scan 0 c.has_more [] = record { is = refl; within = omega arith; scanned = f.scanned; waits = λ none. (refl, omega arith) } in record {
        items = [];
        rest = [];
        cut = ap (λ (n : ℕ). left n [] false) (sym f.count) ∙ ap (λ (t : Bool). left c.count [] t) (sym f.unclosed);
        asked_are = ap (λ (o : Option (Begun F)). asked_early o c.received.items) (sym f.begun);
        has = λ still. (
          subst (λ (n : ℕ). n < message_limit) (sym f.count) (omega arith),
          subst (λ (o : Option (Begun F)). HasBegun r m.uses o c.received.items c.scan c.seen c.body c.has_more []) (sym f.begun)
              (subst (λ (l : List ℕ). IsSought l c.scan c.seen c.has_more []) (sym f.none) (subst (λ (n : ℕ). IsSought [] c.scan n c.has_more []) (sym f.seen) has)),
        );
        put = f.out ∙ ap (λ (o : Option (Begun F)). pending o) (sym f.begun);
      }

  same_cut : (old new : Connection F B) (got rest : List ℕ) (items : List Item) → IsLike old new → AreTaken m (left 0 got false) items (left old.count rest old.closed) → AreTaken m (left 0 got false) items (left new.count rest new.closed)
  same_cut old new got rest items l cut =
      subst (λ (n : ℕ). AreTaken m (left 0 got false) items (left n rest new.closed)) (sym l.count) (subst (λ (t : Bool). AreTaken m (left 0 got false) items (left old.count rest t)) (sym l.closed) cut)

  early_same : (old new : Connection F B) (items : List Item) (xs : List Exchange) → IsLike old new → new.received.items ≡ old.received.items → xs ≡ asked items ++ asked_early old.begun old.received.items
      → xs ≡ asked items ++ asked_early new.begun new.received.items
  early_same old new items xs l same is =
      is ∙ ap (λ (o : Option (Begun F)). asked items ++ asked_early o old.received.items) (sym l.begun) ∙ ap (λ (x : List ℕ). asked items ++ asked_early new.begun x) (sym same)

  pub talk_same : (old new : Connection F B) (got sent : List ℕ) (xs : List Exchange) → IsSame old new → Talks m r got xs sent old → Talks m r got xs sent new
  talk_same old new got sent xs s t = record {
    items = t.items;
    rest = t.rest;
    cut = same_cut old new got t.rest t.items s.2 t.cut;
    asked_are = early_same old new t.items xs s.2 s.0 t.asked_are;
    has = like_has r m.uses old new old.received.items old.has_more t.rest s.2 s.0 s.1 t.has;
    put = ap (λ (o : Put). sent ++ o.bytes) s.3 ∙ t.put ∙ ap (λ (o : Option (Begun F)). texts t.items ++ pending o) (sym s.2.begun);
  }

  pub talk_sent : (old new : Connection F B) (got sent bytes : List ℕ) (xs : List Exchange) → IsSent old bytes new → Talks m r got xs sent old → Talks m r got xs (sent ++ bytes) new
  talk_sent old new got sent bytes xs s t = record {
    items = t.items;
    rest = t.rest;
    cut = same_cut old new got t.rest t.items s.3 t.cut;
    asked_are = early_same old new t.items xs s.3 s.1 t.asked_are;
    has = like_has r m.uses old new old.received.items old.has_more t.rest s.3 s.1 s.2 t.has;
    put = append_assoc sent bytes new.out.bytes ∙ ap (λ (l : List ℕ). sent ++ l) (sym s.0) ∙ t.put ∙ ap (λ (o : Option (Begun F)). texts t.items ++ pending o) (sym s.3.begun);
  }

  closed_more : (c : Connection F B) (rest : List ℕ) → c.closed ≡ true → HasUnread r m.uses c rest
  closed_more c rest closed still = absurd (false≢true (sym still ∙ closed))

  pub talk_fed : (old new : Connection F B) (got sent piece : List ℕ) (xs : List Exchange) → HasTaken old piece new → Talks m r got xs sent old → Talks m r (got ++ piece) xs sent new
  talk_fed old new got sent piece xs (inl dropped) t =
      let s = talk_same old new got sent xs dropped.1 t in record {
        items = s.items;
        rest = s.rest ++ piece;
        cut = taken_more m piece (left 0 got false) s.items (left new.count s.rest new.closed) s.cut;
        asked_are = s.asked_are;
        has = closed_more new (s.rest ++ piece) (dropped.1.2.closed ∙ dropped.0);
        put = s.put;
      }
  talk_fed old new got sent piece xs (inr came) t = record {
    items = t.items;
    rest = t.rest ++ piece;
    cut = same_cut old new (got ++ piece) (t.rest ++ piece) t.items came.2 (taken_more m piece (left 0 got false) t.items (left old.count t.rest old.closed) t.cut);
    asked_are = t.asked_are ∙ ap (λ (l : List Exchange). asked t.items ++ l) (early_more r m.uses old.begun old.received.items piece old.scan old.seen old.body old.has_more t.rest (t.has came.4).1)
        ∙ ap (λ (o : Option (Begun F)). asked t.items ++ asked_early o (old.received.items ++ piece)) (sym came.2.begun) ∙ ap (λ (x : List ℕ). asked t.items ++ asked_early new.begun x) (sym came.0);
    has = like_has r m.uses old new (old.received.items ++ piece) true (t.rest ++ piece) came.2 came.0 came.1 (λ still. let k = t.has still in (k.0, has_begun_more r m.uses old.begun old.received.items piece old.scan old.seen old.body old.has_more t.rest k.1));
    put = ap (λ (o : Put). sent ++ o.bytes) came.3 ∙ t.put ∙ ap (λ (o : Option (Begun F)). texts t.items ++ pending o) (sym came.2.begun);
  }

  pub talk_moved : (old new : Connection F B) (d e : D) (got sent : List ℕ) (xs : List Exchange) → Moves m r old new d e → Talks m r got xs sent old → (ys : List Exchange) × IsRun m d ys e × Talks m r got (xs ++ ys) sent new
  talk_moved old new d e got sent xs moves t =
      let x = moves t.rest t.has in (
        x.exchanges,
        x.run,
        record {
          items = t.items ++ x.items;
          rest = x.rest;
          cut = folds_on (Takes m) (left 0 got false) (left old.count t.rest old.closed) (left new.count x.rest new.closed) t.items x.items t.cut x.taken;
          asked_are = let before : List Exchange = asked_early old.begun old.received.items in
              let after : List Exchange = asked_early new.begun new.received.items in
              ap (λ (l : List Exchange). l ++ x.exchanges) t.asked_are ∙ append_assoc (asked t.items) before x.exchanges ∙ ap (λ (l : List Exchange). asked t.items ++ l) x.asked_are ∙ sym (append_assoc (asked t.items) (asked x.items) after)
              ∙ ap (λ (l : List Exchange). l ++ after) (sym (flat_map-append (λ (i : Item). i.asked) t.items x.items));
          has = x.has;
          put = ap (λ (l : List ℕ). sent ++ l) x.out ∙ sym (append_assoc sent old.out.bytes x.more) ∙ ap (λ (l : List ℕ). l ++ x.more) t.put ∙ append_assoc (texts t.items) (pending old.begun) x.more
              ∙ ap (λ (l : List ℕ). texts t.items ++ l) x.text ∙ sym (append_assoc (texts t.items) (texts x.items) (pending new.begun)) ∙ ap (λ (l : List ℕ). l ++ pending new.begun) (sym (flat_map-append (λ (i : Item). i.text) t.items x.items));
        },
      )

  -- ---- at rest

  pub begun_rest : (b : Begun F) (received : List ℕ) (body : Option B) (rest : List ℕ) → IsBegunAs r m.uses b received body false rest → IsBegun rest (interim b.parts.wanted.expects) (asked_early (Some b) received)
  begun_rest b received body rest h =
      let w = h.waits refl in
      let front : List ℕ = take b.head received in
      let size : length front ≡ b.head = length-take-le b.head received h.headed.read.within in
      let none : drop b.head received ≡ [] = drop_all b.head received (omega (arith, w.1)) in
      let long : length rest ≡ b.head + length h.came
      = ap (λ (l : List ℕ). length l) (h.is ∙ ap (λ (l : List ℕ). front ++ (h.came ++ l)) none ∙ ap (λ (l : List ℕ). front ++ l) (append-nil h.came)) ∙ length-append front h.came ∙ ap (λ (n : ℕ). n + length h.came) size in
      let less = w.0 in
      inr (b.head, h.headed.read.parts_are.0, b.parts.wanted, subst (λ (l : List ℕ). HasHead l b.head h.headed.read.parts_are.0 b.parts.wanted) (sym h.is) (has_head received (h.came ++ drop b.head received) b.head b.parts h.headed.read), omega (arith, long, h.sized, less), refl, ap (inquiry b.parts.wanted.expects) (same_head front b.parts h.headed.read.parts_are))

  pub open_rest : (o : Option (Begun F)) (received : List ℕ) (scan : Scan) (seen : ℕ) (body : Option B) (rest : List ℕ) → HasBegun r m.uses o received scan seen body false rest → (rest ≡ []) ⊎ IsBegun rest (pending o) (asked_early o received)
  open_rest None [] scan seen body rest s = inl s.is
  open_rest None (b ∷ received) scan seen body rest s =
      let w = s.waits refl in
      inr (inl (λ none. some_bytes b received (sym s.is ∙ none), subst (λ (l : List ℕ). length l < 16384) (sym s.is) w.1, ap head_len s.is ∙ w.0, refl, refl))
  open_rest (Some b) received scan seen body rest h = inr (begun_rest b received body rest h)

  pub talk_rests : (c : Connection F B) → c.out.bytes ≡ [] → (c.closed ≡ false → c.has_more ≡ false) → Rests m r c
  talk_rests c sent waits = record {
    sent = sent;
    whole = λ rest has. elim (cases_Bool c.closed) [
      | inl closed ↦ inl closed
      | inr still ↦ inr (open_rest c.begun c.received.items c.scan c.seen c.body rest (subst (λ (t : Bool). HasBegun r m.uses c.begun c.received.items c.scan c.seen c.body t rest) (waits still) (has still).1))
    ];
  }
