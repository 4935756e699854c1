-- Lines that are taken from an input.
use Rattle.std.proofs.Common.{◌≡◌, ℕ, Bool, ◌+◌, ◌-◌, ◌<◌, ◌≤◌, true, false, List, [], ◌∷◌, ◌++◌, length, drop, Option, Some, None, inl, inr, refl, sym, ap, subst, ◌∙◌, arith, append_assoc}
use Rattle.std.proofs.lemmas.Bool.{false≢true}
use Rattle.std.proofs.lemmas.List.{append-nil, length-append, take-append-drop}
use Rattle.std.specs.Prelude.{IfSome, IfNone}
use Rattle.std.specs.Io.KnownBytes.{Consumes}
use Rattle.std.proofs.KnownBytes.{Consumes-nil, Consumes-trans}
use Rattle.bsp_fields.specs.Columns.{is_wide}
use Rattle.bsp_fields.specs.Lines.{lines, before_rest, HasFirstLine, BeginsOtherwise}
use Rattle.bsp_fields.proofs.RestLemmas.{rest_itself, rest_of_rest}
use Rattle.bsp_hot_check.proofs.PieceLemmas.{line_room, Goes, goes_on, ended_goes, ended_wide, wide_long}
use Rattle.bsp_check.specs.declared.fault.Fault.{Fault}
use Rattle.bsp_check.specs.declared.window.Window.{Window}
use Rattle.bsp_check.specs.Windows.{text_of, last_of, MayFollow, IsWindow, Fills, Stops}
use Rattle.bsp_check.specs.Judging.{most_unended, HasTakenMore, BeginsAtFault, Takes, TakesTo, IsTaken}
use Rattle.bsp_check.proofs.WindowLemmas.{stops_after, text_long, last_long}

-- ---- the first line of a text, whatever follows

-- nothing follows
nothing_more : (text more : List ℕ) (ended : Bool) → ended ≡ true → MayFollow ended more → text ++ more ≡ text
nothing_more text more ended is follows = ap (λ xs. text ++ xs) (follows is) ∙ append-nil text

-- a line of a record's width, with its end or at the end of the text
pub wide_cut : (text line rest : List ℕ) (ended : Bool) → HasFirstLine text line rest → most_unended ended < length text → length line ≡ 136 → (more : List ℕ) → MayFollow ended more → lines (text ++ more) ≡ line ∷ lines (rest ++ more)
wide_cut text line rest true first some wide more follows =
    ap lines (nothing_more text more true refl follows) ∙ first.cut ∙ ap (λ xs. line ∷ lines xs) (sym (nothing_more rest more true refl follows))
wide_cut text line rest false first some wide more follows = ended_goes text line rest more (ended_wide text line rest first some wide)

-- another line, which may go on
first_narrow : (text more : List ℕ) → 137 < length text → Goes text more → (line : List ℕ) × (after : List (List ℕ)) × (lines (text ++ more) ≡ line ∷ after) × (is_wide line ≡ false)
first_narrow text more some goes = (goes.line, goes.ls, goes.are, wide_long goes.line (omega (arith, goes.long, some)))

pub narrow_cut : (text : List ℕ) (ended : Bool) → BeginsOtherwise text → most_unended ended < length text → (more : List ℕ) → MayFollow ended more → (line : List ℕ) × (after : List (List ℕ)) × (lines (text ++ more) ≡ line ∷ after) × (is_wide line ≡ false)
narrow_cut text true other some more follows =
    (other.line, lines other.rest, ap lines (nothing_more text more true refl follows) ∙ other.first.cut, other.narrow)
narrow_cut text false other some more follows =
    elim other.first.ended [
      | inl b ↦ (other.line, lines (other.rest ++ more), ended_goes text other.line other.rest more b, other.narrow)
      | inr last ↦ first_narrow text more some (goes_on text more (omega (arith, some)) (rw other.first.cut (ap length last.0)))
    ]

-- ---- lines that are taken

pub takes_none : {J : Type 0} (HasTaken : J → List (List ℕ) → Type 0) (ended : Bool) (judge : J) (text : List ℕ) → Takes HasTaken ended judge judge text text
takes_none HasTaken ended judge text = record {
  rest_is = rest_itself text;
  ls = [];
  are = λ more follows. refl;
  taken = λ ls has. subst (HasTaken judge) (sym (append-nil ls)) has;
  room = omega arith;
}

pub takes_more : {J F : Type 0} (HasTaken : J → List (List ℕ) → Type 0) (ended : Bool) (old mid new : J) (found : Option F) (text rest line after : List ℕ) → Takes HasTaken ended old mid text rest → HasFirstLine rest line after → most_unended ended < length rest → length line ≡ 136 → found ≡ None → IfNone found (HasTakenMore HasTaken (line ∷ []) mid new) → Takes HasTaken ended old new text after
takes_more {F = F} HasTaken ended old mid new found text rest line after takes first some wide is taken =
    let Taken : Option F → Type 0 = λ x. IfNone x (HasTakenMore HasTaken (line ∷ []) mid new) in
    let one : HasTakenMore HasTaken (line ∷ []) mid new = subst Taken is taken in
    record {
      rest_is = rest_of_rest after rest text first.rest_is takes.rest_is;
      ls = takes.ls ++ line ∷ [];
      are = λ more follows. takes.are more follows ∙ ap (λ xs. takes.ls ++ xs) (wide_cut rest line after ended first some wide more follows) ∙ sym (append_assoc takes.ls (line ∷ []) (lines (after ++ more)));
      taken = λ ls has. subst (HasTaken new) (append_assoc ls takes.ls (line ∷ [])) (one (ls ++ takes.ls) (takes.taken ls has));
      room = omega (arith, takes.room, line_room rest line after first, wide, length-append takes.ls (line ∷ []));
    }

-- a line of a record's width that is not allowed
pub wide_fault : {J F : Type 0} (IsAtFault : J → List ℕ → F → Type 0) (ended : Bool) (judge : J) (fault : F) (rest line after : List ℕ) → HasFirstLine rest line after → most_unended ended < length rest → length line ≡ 136 → IsAtFault judge line fault → BeginsAtFault IsAtFault ended judge rest fault
wide_fault IsAtFault ended judge fault rest line after first some wide at_fault = λ more follows. (line, lines (after ++ more), wide_cut rest line after ended first some wide more follows, at_fault)

-- another line
pub narrow_fault : {J F : Type 0} (IsAtFault : J → List ℕ → F → Type 0) (ended : Bool) (judge : J) (fault : F) (rest : List ℕ) → BeginsOtherwise rest → most_unended ended < length rest → ((line : List ℕ) → is_wide line ≡ false → IsAtFault judge line fault) → BeginsAtFault IsAtFault ended judge rest fault
narrow_fault IsAtFault ended judge fault rest other some none = λ more follows.
    let found = narrow_cut rest ended other some more follows in (found.0, found.1, found.2, none found.0 found.3)

-- so few bytes that no more lines are taken
pub few_left : (ended : Bool) (rest : List ℕ) → length rest ≤ most_unended ended → (length rest ≤ 137) × (ended ≡ true → rest ≡ [])
few_left true [] few = (omega arith, λ is. refl)
few_left true (b ∷ rest) few = absurd (omega (arith, few))
few_left false rest few = (few, λ is. absurd (false≢true is))

-- ---- where no more lines are taken

pub to_wide : {J F : Type 0} (HasTaken : J → List (List ℕ) → Type 0) (IsAtFault : J → List ℕ → F → Type 0) (ended : Bool) (old mid new : J) (found : Option F) (fault : F) (text rest line after : List ℕ) → Takes HasTaken ended old mid text rest → HasFirstLine rest line after → most_unended ended < length rest → length line ≡ 136 → found ≡ Some fault → IfSome found (λ why. IsAtFault mid line why) → IfSome found (λ why. new ≡ mid) → TakesTo HasTaken IsAtFault ended old new text (length rest) (Some fault)
to_wide {J = J} {F = F} HasTaken IsAtFault ended old mid new found fault text rest line after takes first some wide is refused unchanged =
    let Refused : Option F → Type 0 = λ x. IfSome x (λ why. IsAtFault mid line why) in
    let Unchanged : Option F → Type 0 = λ x. IfSome x (λ why. new ≡ mid) in
    let same : new ≡ mid = subst Unchanged is unchanged in
    let To : J → Type 0 = λ judge. TakesTo HasTaken IsAtFault ended old judge text (length rest) (Some fault) in
    subst To (sym same) (record { rest = rest; long = refl; takes = takes; stop = (omega (arith, some), wide_fault IsAtFault ended mid fault rest line after first some wide (subst Refused is refused)) })

pub to_narrow : {J F : Type 0} (HasTaken : J → List (List ℕ) → Type 0) (IsAtFault : J → List ℕ → F → Type 0) (ended : Bool) (old mid : J) (fault : F) (text rest : List ℕ) → Takes HasTaken ended old mid text rest → BeginsOtherwise rest → most_unended ended < length rest → ((line : List ℕ) → is_wide line ≡ false → IsAtFault mid line fault) → TakesTo HasTaken IsAtFault ended old mid text (length rest) (Some fault)
to_narrow HasTaken IsAtFault ended old mid fault text rest takes other some none =
    record { rest = rest; long = refl; takes = takes; stop = (omega (arith, some), narrow_fault IsAtFault ended mid fault rest other some none) }

-- ---- the lines of a window

nothing_last : (text : List ℕ) → text ≡ [] → last_of 0 text ≡ []
nothing_last text none = rw none refl

pub taken_none : {J F : Type 0} (HasTaken : J → List (List ℕ) → Type 0) (IsAtFault : J → List ℕ → F → Type 0) (judge : J) (w : Window) (a : Option (List ℕ)) → HasTaken judge [] → IsWindow w → text_of w ≡ [] → w.ended ≡ false → IsTaken HasTaken IsAtFault judge 0 None w.left w a a
taken_none HasTaken IsAtFault judge w a has window nothing goes = record {
  front = [];
  rest = [];
  taken = Consumes-nil a;
  within = omega arith;
  rest_is = sym (nothing_last (text_of w) nothing);
  left_is = omega arith;
  sound = window;
  at_end = λ ended. absurd (false≢true (sym goes ∙ ended));
  ls = [];
  are = λ more follows. refl;
  has = has;
  few = omega arith;
  stop = (omega arith, λ ended. refl);
}

-- what is before the rest of a text, and the rest
both_parts : (text rest : List ℕ) → rest ≡ drop (length text - length rest) text → before_rest text rest ++ rest ≡ text
both_parts text rest last = ap (λ xs. before_rest text rest ++ xs) last ∙ take-append-drop (length text - length rest) text

rest_long : {J F : Type 0} (HasTaken : J → List (List ℕ) → Type 0) (IsAtFault : J → List ℕ → F → Type 0) (judge : J) (kept left : ℕ) (fault : Option F) (w : Window) (a b : Option (List ℕ)) → (t : IsTaken HasTaken IsAtFault judge kept fault left w a b) → length t.rest ≡ kept
rest_long HasTaken IsAtFault judge kept left fault w a b t = ap length t.rest_is ∙ last_long (text_of w) kept (omega (arith, t.within, text_long w t.sound))

-- the text of the next window
next_text : {J F : Type 0} (HasTaken : J → List (List ℕ) → Type 0) (IsAtFault : J → List ℕ → F → Type 0) (judge : J) (kept left : ℕ) (fault : Option F) (mid new : Window) (a b c : Option (List ℕ)) → (t : IsTaken HasTaken IsAtFault judge kept fault left mid a b) → (fills : Fills (last_of kept (text_of mid)) mid new b c) → text_of new ≡ t.rest ++ fills.reads.got
next_text HasTaken IsAtFault judge kept left fault mid new a b c t fills = fills.reads.text_is ∙ ap (λ xs. xs ++ fills.reads.got) (sym t.rest_is)

pub taken_more : {J F : Type 0} (HasTaken : J → List (List ℕ) → Type 0) (IsAtFault : J → List ℕ → F → Type 0) (at then : J) (kept next left : ℕ) (was fault : Option F) (mid new : Window) (text : List ℕ) (a b c : Option (List ℕ)) → IsTaken HasTaken IsAtFault at kept was left mid a b → mid.ended ≡ false → Fills (last_of kept (text_of mid)) mid new b c → text ≡ text_of new
    → TakesTo HasTaken IsAtFault new.ended at then text next fault → IsTaken HasTaken IsAtFault then next fault left new a c
taken_more HasTaken IsAtFault at then kept next left was fault mid new text a b c t goes fills is to =
    let reads = fills.reads in
    let got = reads.got in
    let takes = to.takes in
    let front = t.front in
    let same : text ≡ t.rest ++ got = is ∙ next_text HasTaken IsAtFault at kept left was mid new a b c t fills in
    let before = before_rest text to.rest in
    let both = both_parts text to.rest takes.rest_is.last in
    let parts : length before + length to.rest ≡ length text = sym (length-append before to.rest) ∙ ap length both in
    let long = ap length is ∙ text_long new reads.window in
    let all : (front ++ t.rest) ++ got ≡ (front ++ before) ++ to.rest =
    append_assoc front t.rest got ∙ ap (λ xs. front ++ xs) (sym same ∙ sym both) ∙ sym (append_assoc front before to.rest) in
    let cut : (more : List ℕ) → (front ++ before) ++ (to.rest ++ more) ≡ front ++ (t.rest ++ (got ++ more)) =
    λ more. append_assoc front before (to.rest ++ more) ∙ ap (λ xs. front ++ xs) (sym (append_assoc before to.rest more) ∙ ap (λ xs. xs ++ more) (both ∙ same) ∙ append_assoc t.rest got more) in
    let known : (more : List ℕ) → t.rest ++ (got ++ more) ≡ text ++ more = λ more. sym (append_assoc t.rest got more) ∙ ap (λ xs. xs ++ more) (sym same) in
    record {
      front = front ++ before;
      rest = to.rest;
      taken = subst (Consumes a c) all (Consumes-trans a b c (front ++ t.rest) got t.taken reads.taken);
      within = omega (arith, to.long, takes.rest_is.short, long);
      rest_is = takes.rest_is.last ∙ ap (λ n. drop (length text - n) text) (sym to.long) ∙ ap (last_of next) is;
      left_is = omega (arith, t.left_is, reads.left, rest_long HasTaken IsAtFault at kept left was mid a b t, ap length same, length-append t.rest got, parts, to.long, length-append front before);
      sound = reads.window;
      at_end = reads.at_end;
      ls = t.ls ++ takes.ls;
      are = λ more follows. ap lines (cut more) ∙ t.are (got ++ more) (λ ended. absurd (false≢true (sym goes ∙ ended)))
          ∙ ap (λ xs. t.ls ++ lines xs) (known more) ∙ ap (λ xs. t.ls ++ xs) (takes.are more follows) ∙ sym (append_assoc t.ls takes.ls (lines (to.rest ++ more)));
      has = takes.taken t.ls t.has;
      few = omega (arith, t.few, takes.room, parts, length-append front before, length-append t.ls takes.ls);
      stop = to.stop;
    }

-- an input that stops later
pub taken_stops : {J F : Type 0} (HasTaken : J → List (List ℕ) → Type 0) (IsAtFault : J → List ℕ → F → Type 0) (judge : J) (kept left : ℕ) (fault : Option F) (why : Fault) (w : Window) (a b c : Option (List ℕ)) → IsTaken HasTaken IsAtFault judge kept fault left w a b → Stops w.left why b c → Stops left why a c
taken_stops HasTaken IsAtFault judge kept left fault why w a b c t stops =
    stops_after left w.left why (t.front ++ t.rest) a b c t.taken (omega (arith, t.left_is, rest_long HasTaken IsAtFault judge kept left fault w a b t, length-append t.front t.rest)) stops
