-- One step of a connection.
use Rattle.std.proofs.Common.{◌≡◌, ◌⊎◌, inl, inr, ℕ, ◌+◌, ◌-◌, ◌<◌, ◌≤◌, Bool, true, false, ◌||◌, ◌==◌, List, [], ◌∷◌, ◌++◌, length, take, drop, Option, Some, None, Result, Ok, Err, IfOk, is_some, refl, sym, ap, ◌∙◌, subst, append_assoc, append-nil, length-append, arith, eqb, min, length-drop, IfSome}
use Rattle.std.proofs.lemmas.Bool.{false≢true}
use Rattle.std.proofs.lemmas.Bool.Decides.{eqb_tells}
use Rattle.std.proofs.Math.Seq.{take-append_seam, take-length, drop-append_seam}
use Rattle.std.proofs.lemmas.Grind.{flat_map-append}
use Rattle.std.proofs.lemmas.List.{drop-drop, drop_all, length-take-le, take-append-drop}
use Rattle.std.specs.List.{FoldsTo}
use Rattle.httparse.specs.Spans.{IsWithin, span_bytes}
use Rattle.bsp_routes.proofs.BodyLemmas.{body_limited}
use Rattle.bsp_routes.proofs.ScanLemmas.{head_len-more, head_len-le}
use Rattle.bsp_routes.specs.Fields.{token_of}
use Rattle.bsp_routes.specs.Head.{AreParts, IsHead, headers_of}
use Rattle.bsp_routes.specs.Replies.{ReplyText}
use Rattle.bsp_routes.specs.Responses.{refusal_reply, response}
use Rattle.bsp_routes.specs.Scan.{HasScanned, head_len}
use Rattle.bsp_routes.specs.declared.fault.Refused.{Refused}
use Rattle.bsp_routes.specs.declared.parts.HeadParts.{HeadParts}
use Rattle.bsp_connection.specs.Exchanges.{Exchange, Meaning, Reading, RequestText, does, inquiry, interim, used}
use Rattle.bsp_connection.specs.Exchanges.Exchange.{wants, replies}
use Rattle.bsp_connection.specs.Conversations.{HasHead, HasMessage, HasRefusal, IsRun, head_text, message_limit}
use Rattle.bsp_connection.proofs.SeekLemmas.{exact}
use Rattle.bsp_connection.specs.Begun.{HasBegun, HasBody, HasUnread, IsBegunAs, IsHeaded, IsRead, IsSought, asked_early, head_in, pending, request_in}
use Rattle.bsp_connection.specs.Messages.{Item, Takes, asked, item, left, texts}
use Rattle.bsp_connection.specs.Messages.Takes.{answered, refused, unroomed, unwanted}
use Rattle.bsp_connection.specs.Outputs.{Put}
use Rattle.bsp_connection.specs.Progress.{IsAtRest, IsFurther, to_come}
use Rattle.bsp_connection.specs.Talks.{HasPassed, IsAnswered, Moves}
use Rattle.bsp_connection.specs.declared.connection.Begun.{Begun}
use Rattle.bsp_connection.specs.declared.connection.Connection.{Connection}

-- ---- texts

-- a text that is put out where no message is begun, and none is then
alone : {F : Type 0} (o p : Option (Begun F)) (xs : List Exchange) (text : List ℕ) → o ≡ None → p ≡ None → pending o ++ text ≡ texts (item xs text ∷ []) ++ pending p
alone {F} o p xs text none gone =
    ap (λ (q : Option (Begun F)). pending q ++ text) none ∙ sym (append-nil text) ∙ sym (append-nil (text ++ [])) ∙ ap (λ (q : Option (Begun F)). (text ++ []) ++ pending q) (sym gone)

-- a response to a message that is begun
behind : {F : Type 0} (o p : Option (Begun F)) (b : Begun F) (xs : List Exchange) (text : List ℕ) → o ≡ Some b → p ≡ None
    → pending o ++ text ≡ texts (item xs (interim b.parts.wanted.expects ++ text) ∷ []) ++ pending p
behind {F} o p b xs text some gone =
    let all : List ℕ = interim b.parts.wanted.expects ++ text in
    ap (λ (q : Option (Begun F)). pending q ++ text) some ∙ sym (append-nil all) ∙ sym (append-nil (all ++ [])) ∙ ap (λ (q : Option (Begun F)). (all ++ []) ++ pending q) (sym gone)

-- the same of what was asked
alone_asked : {F : Type 0} (o p : Option (Begun F)) (received rest text : List ℕ) (xs : List Exchange) → o ≡ None → p ≡ None → asked_early o received ++ xs ≡ asked (item xs text ∷ []) ++ asked_early p rest
alone_asked {F} o p received rest text xs none gone =
    ap (λ (q : Option (Begun F)). asked_early q received ++ xs) none ∙ sym (append-nil xs) ∙ sym (append-nil (xs ++ [])) ∙ ap (λ (q : Option (Begun F)). (xs ++ []) ++ asked_early q rest) (sym gone)

behind_asked : {F : Type 0} (o p : Option (Begun F)) (b : Begun F) (received rest text : List ℕ) (head : RequestText) (xs : List Exchange) → o ≡ Some b → p ≡ None → head_in (take b.head received) b.parts ≡ head
    → asked_early o received ++ xs ≡ asked (item (inquiry b.parts.wanted.expects head ++ xs) text ∷ []) ++ asked_early p rest
behind_asked {F} o p b received rest text head xs some gone same =
    let all : List Exchange = inquiry b.parts.wanted.expects head ++ xs in
    ap (λ (q : Option (Begun F)). asked_early q received ++ xs) some ∙ ap (λ (h : RequestText). inquiry b.parts.wanted.expects h ++ xs) same ∙ sym (append-nil all) ∙ sym (append-nil (all ++ []))
    ∙ ap (λ (q : Option (Begun F)). (all ++ []) ++ asked_early q rest) (sym gone)

-- ---- heads

-- a request, by its parts
abbrev pub request : List ℕ → List ℕ → Option (List ℕ) → List ℕ → RequestText
request method target token body = record { method = method; target = target; token = token; body = body }

pub same_request : (m1 m2 t1 t2 b1 b2 : List ℕ) (k1 k2 : Option (List ℕ)) → m1 ≡ m2 → t1 ≡ t2 → k1 ≡ k2 → b1 ≡ b2 → request m1 t1 k1 b1 ≡ request m2 t2 k2 b2
same_request m1 m2 t1 t2 b1 b2 k1 k2 e f g h =
    ap (λ (x : List ℕ). request x t1 k1 b1) e ∙ ap (λ (x : List ℕ). request m2 x k1 b1) f ∙ ap (λ (x : Option (List ℕ)). request m2 t2 x b1) g ∙ ap (λ (x : List ℕ). request m2 t2 k2 x) h

-- a request as the parts of its head have it is the request of the head
whole_request : (head : List ℕ) (parts : HeadParts) (are : AreParts head parts) (body other : List ℕ) → body ≡ other → request_in head parts body ≡ request are.0.method are.0.target (token_of (headers_of are.0)) other
whole_request head parts are body other same = same_request _ _ _ _ _ _ _ _ are.3 are.4 are.5 same

pub same_head : (head : List ℕ) (parts : HeadParts) (are : AreParts head parts) → head_in head parts ≡ head_text are.0
same_head head parts are = whole_request head parts are [] [] refl

pub front_of : (a b : List ℕ) (n : ℕ) → length a ≡ n → take n (a ++ b) ≡ a
front_of a b n e = subst (λ (m : ℕ). take m (a ++ b) ≡ a) e (take-append_seam a b)

back_of : (a b : List ℕ) (n : ℕ) → length a ≡ n → drop n (a ++ b) ≡ b
back_of a b n e = subst (λ (m : ℕ). drop m (a ++ b) ≡ b) e (drop-append_seam a b)

pub is_read : (received : List ℕ) (len : ℕ) (parts : HeadParts) → head_len received ≡ Some len → len ≤ 16384 → AreParts (take len received) parts → IsWithin (length (take len received)) parts.method
    → IsWithin (length (take len received)) parts.target → IfSome parts.token (IsWithin (length (take len received))) → IsRead received len parts
is_read received len parts found short are method target token =
    let within = head_len-le received len found in
    let size : length (take len received) ≡ len = length-take-le len received within in record {
      within = within;
      short = short;
      ends = exact received len found;
      parts_are = are;
      method = subst (λ (n : ℕ). IsWithin n parts.method) size method;
      target = subst (λ (n : ℕ). IsWithin n parts.target) size target;
      token = subst (λ (n : ℕ). IfSome parts.token (IsWithin n)) size token;
    }

-- a head at the front is read so, whatever comes after it
pub read_in : (received whole : List ℕ) (len : ℕ) (parts : HeadParts) → take len whole ≡ take len received → len ≤ length whole → IsRead received len parts → IsRead whole len parts
read_in received whole len parts front within read = record {
  within = within;
  short = read.short;
  ends = ap head_len front ∙ read.ends;
  parts_are = subst (λ (l : List ℕ). AreParts l parts) (sym front) read.parts_are;
  method = read.method;
  target = read.target;
  token = read.token;
}

-- the same with what was found for it
pub headed_in : {F B : Type 0} (r : Reading F B) (received whole : List ℕ) (b : Begun F) → take b.head whole ≡ take b.head received → b.head ≤ length whole → IsHeaded r received b → IsHeaded r whole b
headed_in r received whole b front within h = record {
  read = read_in received whole b.head b.parts front within h.read;
  finds = subst (λ (l : List ℕ). r.finds (span_bytes l b.parts.method) (span_bytes l b.parts.target) b.found) (sym front) h.finds;
}

-- the head is at the front of whatever comes after it
pub has_head : (received more : List ℕ) (len : ℕ) (parts : HeadParts) (read : IsRead received len parts) → HasHead (take len received ++ more) len read.parts_are.0 parts.wanted
has_head received more len parts read =
    let size : length (take len received) ≡ len = length-take-le len received read.within in record {
      ends = head_len-more (take len received) more len read.ends;
      short = read.short;
      head = subst (λ (l : List ℕ). IsHead l read.parts_are.0) (sym (front_of (take len received) more len size)) read.parts_are.1;
      judged = read.parts_are.2;
    }

-- so much of a body as came, and is to come
pub record IsPart (received : List ℕ) (head left count : ℕ) : Type 0 where
  pub size : length (take count (drop head received)) ≡ count
  pub behind : drop head received ≡ take count (drop head received) ++ drop (head + count) received
  pub within : count ≤ left
  pub waits : eqb (left - count) 0 ≡ false → (0 < left - count) × (drop (head + count) received ≡ [])

pub part_of : (received : List ℕ) (head left count : ℕ) → head ≤ length received → count ≡ min left (length received - head) → IsPart received head left count
part_of received head left count within is =
    let rest : length (drop head received) ≡ length received - head = length-drop head received in
    let few : count ≤ length (drop head received) = omega (arith, is, rest) in record {
      size = length-take-le count (drop head received) few;
      behind = sym (take-append-drop count (drop head received)) ∙ ap (λ (l : List ℕ). take count (drop head received) ++ l) (drop-drop count head received);
      within = omega (arith, is);
      waits = λ some. elim (eqb_tells (left - count) 0) [
        | inl none ↦ absurd (false≢true (sym some ∙ none.0))
        | inr other ↦ let more = other.1 in (omega (arith, more), drop_all (head + count) received (omega (arith, is, more)))
      ];
    }

pub if_ok_on : {A E : Type 0} {P Q : A → Type 0} (r : Result A E) → ((a : A) → P a → Q a) → IfOk r P → IfOk r Q
if_ok_on (Ok a) f p = f a p
if_ok_on (Err e) f p = p

-- what takes a body has nothing of it yet
pub fresh_body : {F B : Type 0} (r : Reading F B) (found : F) (o : Option B) → IfSome o (λ body. r.has found body []) → HasBody r found o []
fresh_body r found None fresh = tt
fresh_body r found (Some body) fresh = fresh

pub folds_on : {P A : Type 0} (R : P → A → P → Type 0) (p q r : P) (xs ys : List A) → FoldsTo R p xs q → FoldsTo R q ys r → FoldsTo R p (xs ++ ys) r
folds_on {P} R p q r [] ys h k = subst (λ (s : P). FoldsTo R s ys r) (sym h) k
folds_on {P} R p q r (x ∷ xs) ys h k = (h.0, h.1, folds_on R h.0 q r xs ys h.2 k)

-- ---- steps

module _ {D F B : Type 0} (m : Meaning D) (r : Reading F B) where
  -- what a connection has between two messages
  sought : (c : Connection F B) (unread : List ℕ) → c.closed ≡ false → c.begun ≡ None → HasUnread r m.uses c unread
      → (c.count < message_limit) × IsSought c.received.items c.scan c.seen c.has_more unread
  sought c unread unclosed none has =
      let h = has unclosed in
      (h.0, subst (λ (o : Option (Begun F)). HasBegun r m.uses o c.received.items c.scan c.seen c.body c.has_more unread) none h.1)

  -- what it has within one
  pub within : (c : Connection F B) (unread : List ℕ) (b : Begun F) → c.closed ≡ false → c.begun ≡ Some b → HasUnread r m.uses c unread
      → (c.count < message_limit) × IsBegunAs r m.uses b c.received.items c.body c.has_more unread
  within c unread b unclosed some has =
      let h = has unclosed in
      (h.0, subst (λ (o : Option (Begun F)). HasBegun r m.uses o c.received.items c.scan c.seen c.body c.has_more unread) some h.1)

  closed_has : (c : Connection F B) (rest : List ℕ) → c.closed ≡ true → HasUnread r m.uses c rest
  closed_has c rest closed = λ unclosed. absurd (false≢true (sym unclosed ∙ closed))

  -- a head is refused
  pub refused_moves : (old new : Connection F B) (d : D) (why : Refused) (head : ℕ) → HasRefusal old.received.items why → old.begun ≡ None → old.closed ≡ false
      → IsAnswered head (response why.bare true (refusal_reply why.fault)) true old new → Moves m r old new d d
  refused_moves old new d why head has none unclosed a unread was =
      let s = sought old unread unclosed none was in
      let text : List ℕ = response why.bare true (refusal_reply why.fault) in record {
        items = item [] text ∷ [];
        rest = new.received.items;
        more = text;
        exchanges = [];
        run = refl;
        asked_are = alone_asked old.begun new.begun old.received.items new.received.items text [] none a.begun;
        taken = (left new.count new.received.items new.closed, refused why unclosed (subst (λ (l : List ℕ). HasRefusal l why) (sym s.1.is) has) refl a.count a.closed, refl);
        has = closed_has new new.received.items a.closed;
        out = a.out;
        text = alone old.begun new.begun [] text none a.begun;
      }

  -- a head alone is answered
  pub unwanted_moves : (old new : Connection F B) (d e f : D) (b : Begun F) (reply : ReplyText) (head : ℕ) → IsRead old.received.items b.head b.parts → b.parts.wanted.expects ≡ true → old.begun ≡ None → old.closed ≡ false
      → m.admits d (head_in (take b.head old.received.items) b.parts) false e → m.steps e (head_in (take b.head old.received.items) b.parts) reply f
      → IsAnswered head (response b.parts.wanted.bare true reply) true old new → Moves m r old new d f
  unwanted_moves old new d e f b reply head read expects none unclosed admits steps a unread was =
      let s = sought old unread unclosed none was in
      let are = read.parts_are in
      let same = same_head (take b.head old.received.items) b.parts are in
      let text : List ℕ = response b.parts.wanted.bare true reply in
      let xs : List Exchange = wants (head_text are.0) false ∷ replies (head_text are.0) reply ∷ [] in
      let there = subst (λ (l : List ℕ). HasHead l b.head are.0 b.parts.wanted) (take-append-drop b.head old.received.items ∙ sym s.1.is) (has_head old.received.items (drop b.head old.received.items) b.head b.parts read) in record {
        items = item xs text ∷ [];
        rest = new.received.items;
        more = text;
        exchanges = xs;
        run = (e, subst (λ (h : RequestText). m.admits d h false e) same admits, (f, subst (λ (h : RequestText). m.steps e h reply f) same steps, refl));
        asked_are = alone_asked old.begun new.begun old.received.items new.received.items text xs none a.begun;
        taken = (left new.count new.received.items new.closed, unwanted b.head are.0 b.parts.wanted reply unclosed there expects refl a.count a.closed, refl);
        has = closed_has new new.received.items a.closed;
        out = a.out;
        text = alone old.begun new.begun xs text none a.begun;
      }

  -- a message is begun
  pub begun_moves : (old new : Connection F B) (d e : D) (b : Begun F) → IsHeaded r old.received.items b → m.uses (span_bytes (take b.head old.received.items) b.parts.method) (span_bytes (take b.head old.received.items) b.parts.target) (is_some new.body) → b.left ≡ b.parts.wanted.body → old.begun ≡ None
      → old.closed ≡ false → new.received.items ≡ old.received.items → new.begun ≡ Some b → new.count ≡ old.count → new.closed ≡ old.closed → new.has_more ≡ true → HasBody r b.found new.body []
      → new.out.bytes ≡ old.out.bytes ++ interim b.parts.wanted.expects → IsRun m d (inquiry b.parts.wanted.expects (head_in (take b.head old.received.items) b.parts)) e → Moves m r old new d e
  begun_moves old new d e b headed is_used all none unclosed same begun count closed more body out run unread was =
      let s = sought old unread unclosed none was in
      let has : IsBegunAs r m.uses b old.received.items new.body new.has_more unread = record {
        headed = headed;
        is_used = is_used;
        came = [];
        is = s.1.is ∙ sym (take-append-drop b.head old.received.items);
        sized = omega (arith, all);
        has = body;
        waits = λ waits. absurd (false≢true (sym waits ∙ more));
      } in
      let text : List ℕ = interim b.parts.wanted.expects in record {
        items = [];
        rest = unread;
        more = text;
        exchanges = inquiry b.parts.wanted.expects (head_in (take b.head old.received.items) b.parts);
        run = run;
        asked_are = ap (λ (o : Option (Begun F)). asked_early o old.received.items ++ inquiry b.parts.wanted.expects (head_in (take b.head old.received.items) b.parts)) none
            ∙ ap (λ (l : List ℕ). asked_early (Some b) l) (sym same) ∙ ap (λ (o : Option (Begun F)). asked_early o new.received.items) (sym begun);
        taken = ap (λ (n : ℕ). left n unread old.closed) (sym count) ∙ ap (λ (t : Bool). left new.count unread t) (sym closed);
        has = λ still. (
          subst (λ (n : ℕ). n < message_limit) (sym count) s.0,
          subst (λ (o : Option (Begun F)). HasBegun r m.uses o new.received.items new.scan new.seen new.body new.has_more unread) (sym begun) (subst (λ (l : List ℕ). IsBegunAs r m.uses b l new.body new.has_more unread) (sym same) has),
        );
        out = out;
        text = ap (λ (o : Option (Begun F)). pending o ++ text) none ∙ ap (λ (o : Option (Begun F)). pending o) (sym begun);
      }

  -- nothing more can be found
  pub waiting_moves : (old new : Connection F B) (d : D) → old.begun ≡ None → old.closed ≡ false → new.received.items ≡ old.received.items → new.begun ≡ old.begun → new.count ≡ old.count → new.closed ≡ old.closed
      → new.seen ≡ length old.received.items → HasScanned old.received.items new.scan → (head_len old.received.items ≡ None) × (length old.received.items < 16384) → new.out ≡ old.out → Moves m r old new d d
  waiting_moves old new d none unclosed same begun count closed seen scanned waits out unread was =
      let s = sought old unread unclosed none was in
      let has : IsSought old.received.items new.scan (length old.received.items) new.has_more unread = record {
        is = s.1.is;
        within = omega arith;
        scanned = subst (λ (l : List ℕ). HasScanned l new.scan) (sym (take-length old.received.items)) scanned;
        waits = λ e. waits;
      } in record {
        items = [];
        rest = unread;
        more = [];
        exchanges = [];
        run = refl;
        asked_are = append-nil (asked_early old.begun old.received.items) ∙ ap (λ (l : List ℕ). asked_early old.begun l) (sym same) ∙ ap (λ (o : Option (Begun F)). asked_early o new.received.items) (sym begun);
        taken = ap (λ (n : ℕ). left n unread old.closed) (sym count) ∙ ap (λ (t : Bool). left new.count unread t) (sym closed);
        has = λ still. (
          subst (λ (n : ℕ). n < message_limit) (sym count) s.0,
          subst (λ (o : Option (Begun F)). HasBegun r m.uses o new.received.items new.scan new.seen new.body new.has_more unread) (sym (begun ∙ none))
              (subst (λ (l : List ℕ). IsSought l new.scan new.seen new.has_more unread) (sym same) (subst (λ (n : ℕ). IsSought old.received.items new.scan n new.has_more unread) (sym seen) has)),
        );
        out = ap (λ (o : Put). o.bytes) out ∙ sym (append-nil old.out.bytes);
        text = append-nil (pending old.begun) ∙ ap (λ (o : Option (Begun F)). pending o) (sym begun);
      }

  -- nothing is done
  pub still_moves : (c : Connection F B) (d : D) → Moves m r c c d d
  still_moves c d unread was = record { items = []; rest = unread; more = []; exchanges = []; run = refl; asked_are = append-nil (asked_early c.begun c.received.items); taken = refl; has = was; out = sym (append-nil c.out.bytes); text = append-nil (pending c.begun) }

  -- one step behind another
  pub moves_on : (old mid new : Connection F B) (d e f : D) → Moves m r old mid d e → Moves m r mid new e f → Moves m r old new d f
  moves_on old mid new d e f first second unread was =
      let x = first unread was in
      let y = second x.rest x.has in record {
        items = x.items ++ y.items;
        rest = y.rest;
        more = x.more ++ y.more;
        exchanges = x.exchanges ++ y.exchanges;
        run = folds_on (does m) d e f x.exchanges y.exchanges x.run y.run;
        asked_are = let before : List Exchange = asked_early old.begun old.received.items in
            let between : List Exchange = asked_early mid.begun mid.received.items in
            let behind_all : List Exchange = asked_early new.begun new.received.items in
            sym (append_assoc before x.exchanges y.exchanges) ∙ ap (λ (l : List Exchange). l ++ y.exchanges) x.asked_are ∙ append_assoc (asked x.items) between y.exchanges ∙ ap (λ (l : List Exchange). asked x.items ++ l) y.asked_are
            ∙ sym (append_assoc (asked x.items) (asked y.items) behind_all) ∙ ap (λ (l : List Exchange). l ++ behind_all) (sym (flat_map-append (λ (i : Item). i.asked) x.items y.items));
        taken = folds_on (Takes m) (left old.count unread old.closed) (left mid.count x.rest mid.closed) (left new.count y.rest new.closed) x.items y.items x.taken y.taken;
        has = y.has;
        out = y.out ∙ ap (λ (l : List ℕ). l ++ y.more) x.out ∙ append_assoc old.out.bytes x.more y.more;
        text = sym (append_assoc (pending old.begun) x.more y.more) ∙ ap (λ (l : List ℕ). l ++ y.more) x.text ∙ append_assoc (texts x.items) (pending mid.begun) y.more ∙ ap (λ (l : List ℕ). texts x.items ++ l) y.text
            ∙ sym (append_assoc (texts x.items) (texts y.items) (pending new.begun)) ∙ ap (λ (l : List ℕ). l ++ pending new.begun) (sym (flat_map-append (λ (i : Item). i.text) x.items y.items));
      }

  -- ---- bodies

  more_body : (b now : Begun F) (old new : Connection F B) (unread : List ℕ) (p : HasPassed r b old new now) → IsBegunAs r m.uses b old.received.items old.body old.has_more unread
      → IsBegunAs r m.uses (record { head = b.head; parts = b.parts; found = b.found; left = b.left - length p.piece }) (take b.head old.received.items ++ p.rest) new.body new.has_more unread
  more_body b now old new unread p h =
      let front : List ℕ = take b.head old.received.items in
      let size : length front ≡ b.head = length-take-le b.head old.received.items h.headed.read.within in
      let same : take b.head (front ++ p.rest) ≡ front = front_of front p.rest b.head size in
      let after : drop b.head (front ++ p.rest) ≡ p.rest = back_of front p.rest b.head size in record {
        headed = let k = headed_in r old.received.items (front ++ p.rest) b same (omega (arith, length-append front p.rest, size)) h.headed in record { read = k.read; finds = k.finds };
        is_used = subst (λ (l : List ℕ). m.uses (span_bytes l b.parts.method) (span_bytes l b.parts.target) (is_some new.body)) (sym same) (subst (λ (t : Bool). m.uses (span_bytes front b.parts.method) (span_bytes front b.parts.target) t) (sym p.is_used) h.is_used);
        came = h.came ++ p.piece;
        is = h.is ∙ ap (λ (l : List ℕ). front ++ (h.came ++ l)) p.behind ∙ ap (λ (l : List ℕ). front ++ l) (sym (append_assoc h.came p.piece p.rest)) ∙ ap (λ (l : List ℕ). front ++ ((h.came ++ p.piece) ++ l)) (sym after)
            ∙ ap (λ (l : List ℕ). l ++ ((h.came ++ p.piece) ++ drop b.head (front ++ p.rest))) (sym same);
        sized = omega (arith, length-append h.came p.piece, h.sized, p.within);
        has = p.body h.came h.has;
        waits = λ none.
            let w = p.waits none in
            (subst (λ (n : Begun F). 0 < n.left) p.now_is w.0, ap (λ (l : List ℕ). length (front ++ l)) w.1 ∙ ap (λ (l : List ℕ). length l) (append-nil front) ∙ size);
      }

  -- what a connection has after a piece of a body is what it had
  pub passed_has : (b now : Begun F) (old new : Connection F B) (unread : List ℕ) → old.begun ≡ Some b → old.closed ≡ false → HasPassed r b old new now → HasUnread r m.uses old unread → HasUnread r m.uses new unread
  passed_has b now old new unread some unclosed p was still =
      let h = within old unread b unclosed some was in
      let more = subst (λ (n : Begun F). IsBegunAs r m.uses n (take b.head old.received.items ++ p.rest) new.body new.has_more unread) (sym p.now_is) (more_body b now old new unread p h.1) in (
        subst (λ (n : ℕ). n < message_limit) (sym p.count) h.0,
        subst (λ (o : Option (Begun F)). HasBegun r m.uses o new.received.items new.scan new.seen new.body new.has_more unread) (sym p.begun)
            (subst (λ (l : List ℕ). IsBegunAs r m.uses now l new.body new.has_more unread) (sym p.received) more),
      )

  same_pending : (b now : Begun F) (old new : Connection F B) → old.begun ≡ Some b → HasPassed r b old new now → pending old.begun ≡ pending new.begun
  same_pending b now old new some p =
      ap (λ (o : Option (Begun F)). pending o) some ∙ ap (λ (n : Begun F). interim n.parts.wanted.expects) (sym p.now_is) ∙ ap (λ (o : Option (Begun F)). pending o) (sym p.begun)

  same_asked : (b now : Begun F) (old new : Connection F B) → old.begun ≡ Some b → b.head ≤ length old.received.items → HasPassed r b old new now → asked_early old.begun old.received.items ≡ asked_early new.begun new.received.items
  same_asked b now old new some within p =
      let front : List ℕ = take b.head old.received.items in
      let kept : take b.head (front ++ p.rest) ≡ front = front_of front p.rest b.head (length-take-le b.head old.received.items within) in
      let whole : List ℕ = front ++ p.rest in
      ap (λ (o : Option (Begun F)). asked_early o old.received.items) some ∙ ap (λ (l : List ℕ). inquiry b.parts.wanted.expects (head_in l b.parts)) (sym kept) ∙ ap (λ (n : Begun F). asked_early (Some n) whole) (sym p.now_is)
      ∙ ap (λ (l : List ℕ). asked_early (Some now) l) (sym p.received) ∙ ap (λ (o : Option (Begun F)). asked_early o new.received.items) (sym p.begun)

  pub passed_moves : (b now : Begun F) (old new : Connection F B) (d : D) → old.begun ≡ Some b → old.closed ≡ false → HasPassed r b old new now → Moves m r old new d d
  passed_moves b now old new d some unclosed p unread was = record {
    items = [];
    rest = unread;
    more = [];
    exchanges = [];
    run = refl;
    asked_are = append-nil (asked_early old.begun old.received.items) ∙ same_asked b now old new some (within old unread b unclosed some was).1.headed.read.within p;
    taken = ap (λ (n : ℕ). left n unread old.closed) (sym p.count) ∙ ap (λ (t : Bool). left new.count unread t) (sym p.closed);
    has = passed_has b now old new unread some unclosed p was;
    out = ap (λ (o : Put). o.bytes) p.out ∙ sym (append-nil old.out.bytes);
    text = append-nil (pending old.begun) ∙ same_pending b now old new some p;
  }

  -- whether a body is used, by the method and the target of the head
  uses_of : (b : Begun F) (head : List ℕ) (is_used : Bool) (are : AreParts head b.parts) → m.uses (span_bytes head b.parts.method) (span_bytes head b.parts.target) is_used → m.uses are.0.method are.0.target is_used
  uses_of b head is_used are used = subst (λ (l : List ℕ). m.uses l are.0.target is_used) are.3 (subst (λ (l : List ℕ). m.uses (span_bytes head b.parts.method) l is_used) are.4 used)

  -- there was no memory for the body
  pub unroomed_moves : (b : Begun F) (old mid new : Connection F B) (d : D) (head : ℕ) → old.begun ≡ Some b → old.closed ≡ false → is_some old.body ≡ true
      → ((came : List ℕ) → HasBody r b.found old.body came → length came + b.left ≡ b.parts.wanted.body → 0 < b.parts.wanted.body) → mid.out ≡ old.out → mid.count ≡ old.count
      → IsAnswered head (response b.parts.wanted.bare true m.no_room) true mid new → Moves m r old new d d
  unroomed_moves b old mid new d head some unclosed used body out count a unread was =
      let h = (within old unread b unclosed some was).1 in
      let text : List ℕ = response b.parts.wanted.bare true m.no_room in
      let are = h.headed.read.parts_are in
      let there = subst (λ (l : List ℕ). HasHead l b.head are.0 b.parts.wanted) (sym h.is) (has_head old.received.items (h.came ++ drop b.head old.received.items) b.head b.parts h.headed.read) in
      let uses : m.uses are.0.method are.0.target true = subst (λ (t : Bool). m.uses are.0.method are.0.target t) used (uses_of b (take b.head old.received.items) (is_some old.body) are h.is_used) in record {
        items = item (inquiry b.parts.wanted.expects (head_text are.0)) (interim b.parts.wanted.expects ++ text) ∷ [];
        rest = new.received.items;
        more = text;
        exchanges = [];
        run = refl;
        asked_are = behind_asked old.begun new.begun b old.received.items new.received.items text (head_text are.0) [] some a.begun (same_head (take b.head old.received.items) b.parts are)
            ∙ ap (λ (l : List Exchange). asked (item l text ∷ []) ++ asked_early new.begun new.received.items) (append-nil (inquiry b.parts.wanted.expects (head_text are.0)));
        taken = (
          left new.count new.received.items new.closed,
          unroomed b.head are.0 b.parts.wanted unclosed there (body h.came h.has h.sized) uses refl (a.count ∙ ap (λ (n : ℕ). n + 1) count) a.closed,
          refl,
        );
        has = closed_has new new.received.items a.closed;
        out = a.out ∙ ap (λ (o : Put). o.bytes ++ text) out;
        text = behind old.begun new.begun b (inquiry b.parts.wanted.expects (head_text are.0)) text some a.begun;
      }

  -- ---- answers

  -- the message is whole
  has_message : (b : Begun F) (c : Connection F B) (unread : List ℕ) → b.left ≡ 0 → (h : IsBegunAs r m.uses b c.received.items c.body c.has_more unread)
      → HasMessage m unread (request_in (take b.head c.received.items) b.parts (used (is_some c.body) h.came)) b.parts.wanted (drop b.head c.received.items)
  has_message b c unread whole h =
      let front : List ℕ = take b.head c.received.items in
      let rest : List ℕ = drop b.head c.received.items in
      let size : length front ≡ b.head = length-take-le b.head c.received.items h.headed.read.within in
      let are = h.headed.read.parts_are in
      let sized : length h.came ≡ b.parts.wanted.body = omega (arith, h.sized, whole) in
      let after : drop b.head unread ≡ h.came ++ rest = ap (drop b.head) h.is ∙ back_of front (h.came ++ rest) b.head size in
      let both : drop (b.head + b.parts.wanted.body) unread ≡ rest
      = ap (drop (b.head + b.parts.wanted.body)) (h.is ∙ sym (append_assoc front h.came rest)) ∙ back_of (front ++ h.came) rest (b.head + b.parts.wanted.body) (length-append front h.came ∙ omega (arith, size, sized)) in
      let body : h.came ≡ take b.parts.wanted.body (drop b.head unread) = sym (ap (take b.parts.wanted.body) after ∙ front_of h.came rest b.parts.wanted.body sized) in
      record {
        len = b.head;
        head = are.0;
        has = subst (λ (l : List ℕ). HasHead l b.head are.0 b.parts.wanted) (sym h.is) (has_head c.received.items (h.came ++ rest) b.head b.parts h.headed.read);
        is_used = is_some c.body;
        use_is = uses_of b front (is_some c.body) are h.is_used;
        whole = omega (arith, ap (λ (l : List ℕ). length l) h.is, length-append front (h.came ++ rest), length-append h.came rest, size, sized);
        request_is = whole_request front b.parts are (used (is_some c.body) h.came) (used (is_some c.body) (take b.parts.wanted.body (drop b.head unread))) (ap (used (is_some c.body)) body);
        rest_is = sym both;
      }

  few_left : (wants : Bool) (count : ℕ) → count < 65536 → (wants || count + 1 == 65536) ≡ false → count + 1 < 65536
  few_left true count few e = absurd (false≢true (sym e))
  few_left false count few e = elim (eqb_tells (count + 1) 65536) [
    | inl same ↦ absurd (false≢true (sym e ∙ same.0))
    | inr other ↦ let apart = other.1 in omega (arith, few, apart)
  ]

  fresh_has : (new : Connection F B) (closes : Bool) → (closes ≡ false → new.count < 65536) → new.begun ≡ None → new.closed ≡ closes → new.seen ≡ 0 → HasScanned [] new.scan → (new.has_more ≡ false → (closes ≡ true) ⊎ (new.received.items ≡ []))
      → HasUnread r m.uses new new.received.items
  fresh_has new closes few none closed seen scanned more still =
      let has : IsSought new.received.items new.scan 0 new.has_more new.received.items = record {
        is = refl;
        within = omega arith;
        scanned = scanned;
        waits = λ waits. elim (more waits) [
          | inl is ↦ absurd (false≢true (sym still ∙ closed ∙ is))
          | inr empty ↦ (ap head_len empty, omega (arith, ap (λ (l : List ℕ). length l) empty))
        ];
      } in (
        few (sym closed ∙ still),
        subst (λ (o : Option (Begun F)). HasBegun r m.uses o new.received.items new.scan new.seen new.body new.has_more new.received.items) (sym none)
            (subst (λ (n : ℕ). IsSought new.received.items new.scan n new.has_more new.received.items) (sym seen) has),
      )

  -- the message is answered
  pub answered_moves : (b : Begun F) (old mid new : Connection F B) (d e : D) (reply : ReplyText) (closes : Bool) → old.begun ≡ Some b → old.closed ≡ false → b.left ≡ 0
      → ((bytes : List ℕ) → HasBody r b.found old.body bytes → m.steps d (request_in (take b.head old.received.items) b.parts (used (is_some old.body) bytes)) reply e)
      → closes ≡ (b.parts.wanted.closes || old.count + 1 == 65536) → mid.received.items ≡ old.received.items → mid.out ≡ old.out → mid.count ≡ old.count
      → IsAnswered b.head (response b.parts.wanted.bare closes reply) closes mid new → Moves m r old new d e
  answered_moves b old mid new d e reply closes some unclosed whole steps closes_is same out count a unread was =
      let h = within old unread b unclosed some was in
      let text : List ℕ = response b.parts.wanted.bare closes reply in
      let front : List ℕ = take b.head old.received.items in
      let asks : RequestText = request_in front b.parts (used (is_some old.body) h.1.came) in
      let xs : List Exchange = inquiry b.parts.wanted.expects (head_in front b.parts) ++ replies asks reply ∷ [] in
      let rest : new.received.items ≡ drop b.head old.received.items = a.received ∙ ap (drop b.head) same in
      let counted : new.count ≡ old.count + 1 = a.count ∙ ap (λ (n : ℕ). n + 1) count in
      let message = subst (λ (l : List ℕ). HasMessage m unread asks b.parts.wanted l) (sym rest) (has_message b old unread whole h.1) in
      let closed : new.closed ≡ (b.parts.wanted.closes || new.count == message_limit) = a.closed ∙ closes_is ∙ ap (λ (n : ℕ). b.parts.wanted.closes || n == 65536) (sym counted) in record {
        items = item xs (interim b.parts.wanted.expects ++ text) ∷ [];
        rest = new.received.items;
        more = text;
        exchanges = replies asks reply ∷ [];
        run = (e, steps h.1.came h.1.has, refl);
        asked_are = behind_asked old.begun new.begun b old.received.items new.received.items text (head_in front b.parts) (replies asks reply ∷ []) some a.begun refl;
        taken = (
          left new.count new.received.items new.closed,
          answered asks reply b.parts.wanted unclosed message (ap (λ (t : Bool). item xs (interim b.parts.wanted.expects ++ response b.parts.wanted.bare t reply)) (sym a.closed)) counted closed,
          refl,
        );
        has = fresh_has new closes (λ keeps. subst (λ (n : ℕ). n < 65536) (sym counted) (few_left b.parts.wanted.closes old.count h.0 (sym closes_is ∙ keeps))) a.begun a.closed a.seen a.scanned a.more;
        out = a.out ∙ ap (λ (o : Put). o.bytes ++ text) out;
        text = behind old.begun new.begun b xs text some a.begun;
      }

-- a connection whose message is begun
pub begun_further : {F B : Type 0} (b : Begun F) (old new : Connection F B) → IsRead old.received.items b.head b.parts → b.left ≡ b.parts.wanted.body → old.begun ≡ None → new.received.items ≡ old.received.items → new.begun ≡ Some b → new.count ≡ old.count → new.has_more ≡ true
    → IsFurther old new
begun_further {F} {B} b old new read all none same some count more =
    let few : b.parts.wanted.body ≤ 4194304 = body_limited read.parts_are.0 b.parts.wanted read.parts_are.2 in
    let long : length new.received.items ≡ length old.received.items = ap (λ (l : List ℕ). length l) same in
    let less : to_come new.begun new.received.items < to_come old.begun old.received.items =
    subst (λ (o : Option (Begun F)). to_come o new.received.items < to_come old.begun old.received.items) (sym some)
    (subst (λ (o : Option (Begun F)). to_come (Some b) new.received.items < to_come o old.received.items) (sym none) (omega (arith, few, all, long))) in
    record { rest = λ rests. absurd (false≢true (sym rests ∙ more)); further = inr (count, λ has. less, λ rests. absurd (false≢true (sym rests ∙ more))) }

-- a connection whose message is not whole after a piece of its body
pub passed_on : {F B : Type 0} (r : Reading F B) (b now : Begun F) (old new : Connection F B) → old.begun ≡ Some b → b.head ≤ length old.received.items → HasPassed r b old new now → 0 < now.left → IsFurther old new
passed_on {F} {B} r b now old new some there p more =
    let front : List ℕ = take b.head old.received.items in
    let size : length front ≡ b.head = length-take-le b.head old.received.items there in
    let w = p.waits (p.rests more) in
    let all : new.received.items ≡ front = p.received ∙ ap (λ (l : List ℕ). front ++ l) w.1 ∙ append-nil front in
    let long : length new.received.items ≡ b.head = ap (λ (l : List ℕ). length l) all ∙ size in
    let came : length old.received.items - b.head ≡ length p.piece = sym (length-drop b.head old.received.items) ∙ ap (λ (l : List ℕ). length l) (p.behind ∙ ap (λ (l : List ℕ). p.piece ++ l) w.1 ∙ append-nil p.piece) in
    let head : now.head ≡ b.head = ap (λ (n : Begun F). n.head) p.now_is in
    let left_is : now.left ≡ b.left - length p.piece = ap (λ (n : Begun F). n.left) p.now_is in
    let same : to_come new.begun new.received.items ≤ to_come old.begun old.received.items =
    subst (λ (o : Option (Begun F)). to_come o new.received.items ≤ to_come old.begun old.received.items) (sym p.begun)
    (subst (λ (o : Option (Begun F)). to_come (Some now) new.received.items ≤ to_come o old.received.items) (sym some) (omega (arith, long, came, head, left_is))) in
    record {
      rest = λ none. subst (λ (o : Option (Begun F)). IsAtRest o new.received.items) (sym p.begun) (long ∙ sym head, more);
      further = inr (p.count, λ has. absurd (false≢true (sym (p.rests more) ∙ has)), λ none. same);
    }
