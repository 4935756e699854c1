-- Windows over an input.
use Rattle.std.proofs.Common.{◌≡◌, ℕ, ◌+◌, ◌-◌, ◌≤◌, true, false, List, [], ◌++◌, length, take, drop, Option, refl, sym, ap, subst, ◌∙◌, arith, append_assoc, length-drop}
use Rattle.std.proofs.lemmas.Bool.{false≢true}
use Rattle.std.proofs.lemmas.List.{append-nil, length-append, length-take-le, take-append-le, drop-take}
use Rattle.std.proofs.lemmas.List.Edits.{take-paste}
use Rattle.std.proofs.Math.Seq.{take-append-add, take-append_seam, paste}
use Rattle.std.specs.List.{copy_within}
use Rattle.std.specs.Prelude.{Result, Ok, Err, OnOk}
use Rattle.std.specs.Io.KnownBytes.{Consumes, IsAtEnd}
use Rattle.std.proofs.KnownBytes.{Consumes-nil, Consumes-trans}
use Rattle.bsp_check.specs.declared.fault.Fault.{Fault}
use Rattle.bsp_check.specs.declared.fault.Fault.TheVariants.{TooLong, Memory}
use Rattle.bsp_check.specs.declared.window.Window.{Window}
use Rattle.bsp_check.proofs.Faults.{IsNotLong, IsNotWrite}
use Rattle.bsp_check.specs.Windows.{room, text_of, last_of, IsWindow, Reads, Fills, Drains, Stops}

-- ---- one read

-- what is written after the text
after_text : (items buf more : List ℕ) (filled count : ℕ) → filled ≤ length items → count ≤ length buf → take (filled + count) (take filled items ++ (buf ++ more)) ≡ take filled items ++ take count buf
after_text items buf more filled count within few =
    let long = length-take-le filled items within in
    ap (λ k. take (k + count) (take filled items ++ (buf ++ more))) (sym long)
    ∙ take-append-add (take filled items) (buf ++ more) count
    ∙ ap (λ xs. take filled items ++ xs) (take-append-le count buf more few)

long_after : (items buf : List ℕ) (filled k : ℕ) → filled + k ≤ length items → length buf ≡ k → length (take filled items ++ (buf ++ drop k (drop filled items))) ≡ length items
long_after items buf filled k within wide =
    let front = length-take-le filled items (omega (arith, within)) in
    omega (arith, within, wide, front, length-append (take filled items) (buf ++ drop k (drop filled items)), length-append buf (drop k (drop filled items)), length-drop k (drop filled items), length-drop filled items)

pub all_written : (len : ℕ) (items more : List ℕ) → length items ≡ len → take len (items ++ more) ≡ items
all_written len items more long = ap (λ n. take n (items ++ more)) (sym long) ∙ take-append_seam items more

pub long_written : (w : Window) (items buf : List ℕ) (k : ℕ) → IsWindow w → items ≡ w.room.items → length buf ≡ length (take k (drop w.filled items)) → w.filled + k ≤ room → length (take w.filled items ++ (buf ++ drop k (drop w.filled items))) ≡ length w.room.items
long_written w items buf k window same same_long fits =
    let long : length items ≡ room = ap length same ∙ window.wide in
    let wide : length buf ≡ k = same_long ∙ length-take-le k (drop w.filled items) (omega (arith, length-drop w.filled items, long, fits)) in
    long_after items buf w.filled k (omega (arith, fits, long)) wide ∙ ap length same

pub some_read : (old new : Window) (items buf : List ℕ) (k count : ℕ) (before after : Option (List ℕ)) → IsWindow old → items ≡ old.room.items → new.room.items ≡ take old.filled items ++ (buf ++ drop k (drop old.filled items))
    → length buf ≡ length (take k (drop old.filled items)) → old.filled + k ≤ room → k ≤ old.left → count ≤ length buf → new.filled ≡ old.filled + count → new.left ≡ old.left - count → old.ended ≡ false → new.ended ≡ false → Consumes before after (take count buf) → Reads (text_of old) old new before after
some_read old new items buf k count before after w same written same_long fits few within filled left was goes taken =
    let long : length items ≡ room = ap length same ∙ w.wide in
    let wide : length buf ≡ k = same_long ∙ length-take-le k (drop old.filled items) (omega (arith, length-drop old.filled items, long, fits)) in
    let got = length-take-le count buf within in
    let front : take old.filled items ≡ text_of old = ap (take old.filled) same in
    record {
      got = take count buf;
      taken = taken;
      text_is = ap (λ n. take n new.room.items) filled ∙ ap (take (old.filled + count)) written ∙ after_text items buf (drop k (drop old.filled items)) old.filled count (omega (arith, long, w.filled)) within ∙ ap (λ xs. xs ++ take count buf) front;
      left = omega (arith, got, left, within, wide, few);
      window = record {
        filled = omega (arith, filled, within, wide, fits);
        wide = ap length written ∙ long_after items buf old.filled k (omega (arith, fits, long)) wide ∙ long;
        within = λ ended. absurd (false≢true (sym goes ∙ ended));
      };
      at_end = λ ended. absurd (false≢true (sym goes ∙ ended));
      stays = λ ended. absurd (false≢true (sym was ∙ ended));
    }

-- ---- several reads

pub reads_none : (w : Window) (before : Option (List ℕ)) → IsWindow w → (w.ended ≡ true → IsAtEnd before) → Reads (text_of w) w w before before
reads_none w before window end = record { got = []; taken = Consumes-nil before; text_is = sym (append-nil (text_of w)); left = omega arith; window = window; at_end = end; stays = λ ended. (refl, ended) }

append_none : (xs ys : List ℕ) → xs ≡ [] → ys ≡ [] → xs ++ ys ≡ []
append_none xs ys none also = rw (none, also) refl

pub reads_more : (text : List ℕ) (old mid new : Window) (a b c : Option (List ℕ)) → Reads text old mid a b → Reads (text_of mid) mid new b c → Reads text old new a c
reads_more text old mid new a b c first next = record {
  got = first.got ++ next.got;
  taken = Consumes-trans a b c first.got next.got first.taken next.taken;
  text_is = next.text_is ∙ ap (λ xs. xs ++ next.got) first.text_is ∙ append_assoc text first.got next.got;
  left = omega (arith, first.left, next.left, length-append first.got next.got);
  window = next.window;
  at_end = next.at_end;
  stays = λ ended.
      let before = first.stays ended in
      let after = next.stays before.1 in (append_none first.got next.got before.0 after.0, after.1);
}

pub too_long : (text : List ℕ) (old mid : Window) (a b : Option (List ℕ)) → Reads text old mid a b → mid.left ≡ 0 → Stops old.left TooLong a b
too_long text old mid a b reads none = record {
  got = reads.got;
  taken = reads.taken;
  within = omega (arith, reads.left);
  not_write = λ is. subst IsNotWrite is tt;
  long = λ is. omega (arith, reads.left, none);
}

-- ---- the last bytes are kept

pub last_kept : (items : List ℕ) (filled kept : ℕ) → filled ≤ length items → kept ≤ filled → last_of kept (take filled items) ≡ take kept (drop (filled - kept) items)
last_kept items filled kept within few =
    let long = length-take-le filled items within in
    let both : filled - kept + kept ≡ filled = omega (arith, few) in
    ap (λ n. drop (n - kept) (take filled items)) long ∙ ap (λ n. drop (filled - kept) (take n items)) (sym both) ∙ drop-take (filled - kept) kept items

pub moved : (items : List ℕ) (filled kept : ℕ) → filled ≤ length items → kept ≤ filled → take kept (copy_within items (filled - kept) filled 0) ≡ last_of kept (take filled items)
moved items filled kept within few =
    let n : filled - (filled - kept) ≡ kept = omega (arith, few) in
    let zero : kept ≡ 0 + kept = omega arith in
    let from = drop (filled - kept) items in
    ap (λ k. take kept (paste items 0 from k)) n
    ∙ ap (λ k. take k (paste items 0 from kept)) zero
    ∙ take-paste items 0 from kept (omega arith) (omega (arith, length-drop (filled - kept) items, within, few))
    ∙ sym (last_kept items filled kept within few)

pub fills_on : {E : Type 0} (text kept : List ℕ) (old mid new : Window) (a b : Option (List ℕ)) (r : Result (Unit {0}) E) → text ≡ kept → mid.left ≡ old.left → old.ended ≡ mid.ended → OnOk r (Fills text mid new a b) → OnOk r (Fills kept old new a b)
fills_on text kept old mid new a b (Ok u) same left is fills =
    let reads = fills.reads in
    record {
      reads = record { got = reads.got; taken = reads.taken; text_is = reads.text_is ∙ ap (λ xs. xs ++ reads.got) same; left = reads.left ∙ left; window = reads.window; at_end = reads.at_end; stays = λ ended. reads.stays (sym is ∙ ended) };
      full = fills.full;
    }
fills_on text kept old mid new a b (Err e) same left is fills = tt

-- a later stop
pub stops_after : (left : ℕ) (mid : ℕ) (fault : Fault) (got : List ℕ) (a b c : Option (List ℕ)) → Consumes a b got → mid + length got ≡ left → Stops mid fault b c → Stops left fault a c
stops_after left mid fault got a b c taken sum stops = record {
  got = got ++ stops.got;
  taken = Consumes-trans a b c got stops.got taken stops.taken;
  within = omega (arith, sum, stops.within, length-append got stops.got);
  not_write = stops.not_write;
  long = λ is. omega (arith, sum, stops.long is, length-append got stops.got);
}

-- ---- reading on

-- the input was read on
pub record Draining (old now : Window) (before after : Option (List ℕ)) : Type 0 where
  pub got : List ℕ
  pub taken : Consumes before after got
  pub left : now.left + length got ≡ old.left
  pub window : IsWindow now
  pub at_end : now.ended ≡ true → IsAtEnd after
  pub stays : old.ended ≡ true → (got ≡ []) × (now.ended ≡ true)

pub draining_more : (rest : List ℕ) (old mid new : Window) (a b c : Option (List ℕ)) → Draining old mid a b → Fills rest mid new b c → Draining old new a c
draining_more rest old mid new a b c first fills =
    let next = fills.reads in
    record {
      got = first.got ++ next.got;
      taken = Consumes-trans a b c first.got next.got first.taken next.taken;
      left = omega (arith, first.left, next.left, length-append first.got next.got);
      window = next.window;
      at_end = next.at_end;
      stays = λ ended.
          let before = first.stays ended in
          let after = next.stays before.1 in (append_none first.got next.got before.0 after.0, after.1);
    }

pub draining_stops : (fault : Fault) (old mid : Window) (a b c : Option (List ℕ)) → Draining old mid a b → Stops mid.left fault b c → Stops old.left fault a c
draining_stops fault old mid a b c first stops = stops_after old.left mid.left fault first.got a b c first.taken first.left stops

pub drained : (old now : Window) (a b : Option (List ℕ)) → Draining old now a b → now.ended ≡ true → Drains old now a b
drained old now a b on ended = record { got = on.got; taken = on.taken; left = on.left; window = on.window; ended = ended; at_end = on.at_end ended; stays = λ was. (on.stays was).0 }

-- ---- what was read

pub text_long : (w : Window) → IsWindow w → length (text_of w) ≡ w.filled
text_long w window = length-take-le w.filled w.room.items (omega (arith, window.filled, window.wide))

pub last_long : (text : List ℕ) (kept : ℕ) → kept ≤ length text → length (last_of kept text) ≡ kept
last_long text kept within = omega (arith, within, length-drop (length text - kept) text)

-- an input that stops after the window was filled
pub later_stops : (rest : List ℕ) (fault : Fault) (old mid : Window) (a b c : Option (List ℕ)) → Fills rest old mid a b → Stops mid.left fault b c → Stops old.left fault a c
later_stops rest fault old mid a b c fills stops = stops_after old.left mid.left fault fills.reads.got a b c fills.reads.taken fills.reads.left stops

-- an allocation was refused
pub no_room : (left : ℕ) (a : Option (List ℕ)) → Stops left Memory a a
no_room left a = record {
  got = [];
  taken = Consumes-nil a;
  within = omega arith;
  not_write = λ is. subst IsNotWrite is tt;
  long = λ is. absurd (subst IsNotLong is tt);
}
