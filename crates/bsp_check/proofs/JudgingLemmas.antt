-- What is said of the line of an input that is not allowed.
use Rattle.std.proofs.Common.{◌≡◌, ℕ, ◌+◌, ◌-◌, ◌^◌, ◌<◌, ◌≤◌, true, false, List, [], ◌∷◌, ◌++◌, length, take, drop, Option, Some, None, refl, sym, ap, subst, ◌∙◌, arith, append_assoc}
use Rattle.std.proofs.lemmas.List.{append-nil, length-append, length-take-le, take-append-le, take-append-drop}
use Rattle.std.proofs.lemmas.Bool.{false≢true}
use Rattle.std.specs.Io.KnownBytes.{Consumes, IsAtEnd}
use Rattle.std.proofs.KnownBytes.{Consumes-nil, Consumes-trans}
use Rattle.bsp_fields.specs.Lines.{lines}
use Rattle.bsp_fields.proofs.CutLemmas.{some_lines, lines_nil}
use Rattle.bsp_explain.specs.Lines.{IsLine}
use Rattle.bsp_check.specs.declared.fault.Fault.{Fault}
use Rattle.bsp_check.specs.declared.window.Window.{Window}
use Rattle.bsp_check.specs.Windows.{room, text_of, last_of, MayFollow, IsWindow, Fills, Drains, Stops}
use Rattle.bsp_check.specs.Widths.{all_but_one, HasWidth}
use Rattle.bsp_check.specs.Inputs.{IsUnread}
use Rattle.bsp_check.specs.Judging.{IsAfterFew, Explains, IsJudged, BeginsAtFault, IsStop, IsTaken, IsExplained, IsRefused}
use Rattle.bsp_check.proofs.WindowLemmas.{stops_after, later_stops, text_long, last_long}

-- ---- an explanation

same_text : (text other line : List ℕ) → text ≡ other → IsLine 0 (lines text) line → IsLine 0 (lines other) line
same_text text other line same is = subst (λ (xs : List ℕ). IsLine 0 (lines xs) line) same is

-- of a line whose end is in the window, or with which the input ends
pub explained_here : (Says : List ℕ → Type 0) (text : List ℕ) (w : Window) (a : Option (List ℕ)) → IsWindow w → (w.ended ≡ true → IsAtEnd a)
    → ((more : List ℕ) → MayFollow w.ended more → (line : List ℕ) → IsLine 0 (lines (text_of w ++ more)) line → IsLine 0 (lines (text_of w)) line)
    → text ≡ text_of w → ((line : List ℕ) → IsLine 0 (lines text) line → Says line) → IsExplained Says w w a a
explained_here Says text w a window end whole same says =
    let now = text_of w in
    record {
      got = [];
      taken = Consumes-nil a;
      left = omega arith;
      window = window;
      at_end = end;
      stays = λ ended. (refl, ended);
      says = λ more follows line is.
          let first = whole more follows line (same_text ((now ++ []) ++ more) (now ++ more) line (ap (λ xs. xs ++ more) (append-nil now)) is) in
          says line (same_text now text line (sym same) first);
    }

some_first : (text more : List ℕ) → 0 < length text → (line : List ℕ) × (ls : List (List ℕ)) × (lines (text ++ more) ≡ line ∷ ls)
some_first [] more some = absurd (omega (arith, some))
some_first (b ∷ text) more some = some_lines b (text ++ more)

-- such a line is longer than a record
pub width_long : (text : List ℕ) (width : ℕ) (old new : Window) (a b : Option (List ℕ)) → length text ≡ room → HasWidth text width old new a b → 136 < width
width_long text width old new a b full has =
    let first = some_first text (has.got ++ []) (omega (arith, full)) in
    let none : new.ended ≡ true → [] ≡ [] = λ ended. refl in
    let is : IsLine 0 (lines (text ++ (has.got ++ []))) first.0 = (first.1, first.2) in
    let begins = has.begins [] none first.0 is in
    omega (arith, has.width_is [] none first.0 is, ap length begins.1, length-append (all_but_one text) begins.0, length-take-le (length text - 1) text (omega arith), full)

-- the first characters of the window are those of the line
head_of : (text line : List ℕ) (n : ℕ) → n + 1 ≤ length text → ((x : List ℕ) × (line ≡ all_but_one text ++ x)) → (x : List ℕ) × (line ≡ take n text ++ x)
head_of text line n within begins =
    let front = all_but_one text in
    let long = length-take-le (length text - 1) text (omega arith) in
    let same : take n front ≡ take n text = sym (take-append-le n front (last_of 1 text) (omega (arith, within, long))) ∙ ap (take n) (take-append-drop (length text - 1) text) in
    (drop n front ++ begins.0, begins.1 ∙ ap (λ xs. xs ++ begins.0) (sym (take-append-drop n front)) ∙ append_assoc (take n front) (drop n front) begins.0 ∙ ap (λ xs. xs ++ (drop n front ++ begins.0)) same)

pub explained_longer : (Says : List ℕ → Type 0) (head : List ℕ) (width : ℕ) (old new : Window) (a b : Option (List ℕ)) → old.ended ≡ false → length (text_of old) ≡ room → head ≡ take 1024 (text_of old) → HasWidth (text_of old) width old new a b
    → ((more : List ℕ) → length (head ++ more) ≡ width → Says (head ++ more)) → IsExplained Says old new a b
explained_longer Says head width old new a b goes full head_is has says =
    let text = text_of old in
    record {
      got = has.got;
      taken = has.taken;
      left = has.left;
      window = has.window;
      at_end = has.at_end;
      stays = λ ended. absurd (false≢true (sym goes ∙ ended));
      says = λ more follows line is.
          let known = same_text ((text ++ has.got) ++ more) (text ++ (has.got ++ more)) line (append_assoc text has.got more) is in
          let found = head_of text line 1024 (omega (arith, full)) (has.begins more follows line known) in
          let same : line ≡ head ++ found.0 = found.1 ∙ ap (λ xs. xs ++ found.0) (sym head_is) in
          subst Says (sym same) (says found.0 (ap length (sym same) ∙ has.width_is more follows line known));
    }

-- ---- the input is read to its end

refused_text : (rest one two three : List ℕ) → rest ++ (one ++ (two ++ three)) ≡ ((rest ++ one) ++ two) ++ three
refused_text rest one two three = sym (append_assoc rest one (two ++ three)) ∙ sym (append_assoc (rest ++ one) two three)

none_joined : (xs ys : List ℕ) → xs ≡ [] → ys ≡ [] → xs ++ ys ≡ []
none_joined xs ys none also = rw (none, also) refl

pub refused : (Says : List ℕ → Type 0) (rest : List ℕ) (old mid next new : Window) (a b c d : Option (List ℕ)) → Fills rest old mid a b → IsExplained Says mid next b c → Drains next new c d → IsRefused Says rest old new a d
refused Says rest old mid next new a b c d fills told drains =
    let one = fills.reads in
    let got = one.got ++ (told.got ++ drains.got) in
    let all : rest ++ got ≡ (text_of mid ++ told.got) ++ drains.got = refused_text rest one.got told.got drains.got ∙ ap (λ xs. (xs ++ told.got) ++ drains.got) (sym one.text_is) in
    record {
      got = got;
      taken = Consumes-trans a b d one.got (told.got ++ drains.got) one.taken (Consumes-trans b c d told.got drains.got told.taken drains.taken);
      left = omega (arith, one.left, told.left, drains.left, length-append one.got (told.got ++ drains.got), length-append told.got drains.got);
      window = drains.window;
      ended = drains.ended;
      at_end = drains.at_end;
      stays = λ ended.
          let first = one.stays ended in
          let second = told.stays first.1 in
          none_joined one.got (told.got ++ drains.got) first.0 (none_joined told.got drains.got second.0 (drains.stays second.1));
      says = λ line is. told.says drains.got drains.stays line (same_text (rest ++ got) ((text_of mid ++ told.got) ++ drains.got) line all is);
    }

pub explained_stops : (Says : List ℕ → Type 0) (rest : List ℕ) (fault : Fault) (old mid next : Window) (a b c d : Option (List ℕ)) → Fills rest old mid a b → IsExplained Says mid next b c → Stops next.left fault c d → Stops old.left fault a d
explained_stops Says rest fault old mid next a b c d fills told stops =
    later_stops rest fault old mid a b d fills (stops_after mid.left next.left fault told.got b c d told.taken told.left stops)

-- ---- an input that is judged

pub judged_all : {J F E : Type 0} (HasTaken : J → List (List ℕ) → Type 0) (IsAtFault : J → List ℕ → F → Type 0) (IsRefusal : List (List ℕ) → E → Type 0) (judge : J) (kept left limit : ℕ) (found : Option F) (w : Window) (a b : Option (List ℕ)) → left ≡ limit + 1 → left < 2 ^ 64 → found ≡ None → IsTaken HasTaken IsAtFault judge kept found left w a b → w.ended ≡ true
    → (x : List ℕ) × Consumes a b x × IsAtEnd b × (length x ≤ limit) × IsJudged HasTaken IsRefusal judge (lines x) None
judged_all {F = F} HasTaken IsAtFault IsRefusal judge kept left limit found w a b is fits nothing_found t ended =
    let Stop : Option F → Type 0 = λ x. IsStop IsAtFault w.ended judge t.rest x in
    let stop : (length t.rest ≤ 137) × (w.ended ≡ true → t.rest ≡ []) = subst Stop nothing_found t.stop in
    let none : t.rest ≡ [] = stop.1 ended in
    let nothing : MayFollow w.ended [] = λ e. refl in
    let more = t.sound.within ended in
    let front : t.front ++ t.rest ≡ t.front = ap (λ xs. t.front ++ xs) none ∙ append-nil t.front in
    let are : lines t.front ≡ t.ls =
    sym (ap lines (ap (λ xs. t.front ++ (xs ++ [])) none ∙ append-nil t.front)) ∙ t.are [] nothing ∙ ap (λ xs. t.ls ++ lines (xs ++ [])) none ∙ ap (λ xs. t.ls ++ xs) lines_nil ∙ append-nil t.ls in
    (t.front, subst (Consumes a b) front t.taken, t.at_end ended, omega (arith, is, t.left_is, more), (subst (HasTaken judge) (sym are) t.has, omega (arith, ap length are, t.few, t.left_is, fits)))

pub judged_refused : {J F E : Type 0} (HasTaken : J → List (List ℕ) → Type 0) (IsAtFault : J → List ℕ → F → Type 0) (IsRefusal : List (List ℕ) → E → Type 0) (judge : J) (kept left limit : ℕ) (found : Option F) (fault : F) (refusal : E) (w new : Window) (a b c : Option (List ℕ)) → left ≡ limit + 1 → found ≡ Some fault → IsTaken HasTaken IsAtFault judge kept found left w a b
    → IsRefused (Explains HasTaken IsAtFault IsRefusal judge fault refusal) (last_of kept (text_of w)) w new b c
    → (x : List ℕ) × Consumes a c x × IsAtEnd c × (length x ≤ limit) × IsJudged HasTaken IsRefusal judge (lines x) (Some refusal)
judged_refused {F = F} HasTaken IsAtFault IsRefusal judge kept left limit found fault refusal w new a b c is fault_is t told =
    let Stop : Option F → Type 0 = λ x. IsStop IsAtFault w.ended judge t.rest x in
    let stop : (0 < length t.rest) × BeginsAtFault IsAtFault w.ended judge t.rest fault = subst Stop fault_is t.stop in
    let long = ap length t.rest_is ∙ last_long (text_of w) kept (omega (arith, t.within, text_long w t.sound)) in
    let more = told.window.within told.ended in
    let first = stop.1 told.got told.stays in
    let line = first.0 in
    let known : last_of kept (text_of w) ++ told.got ≡ t.rest ++ told.got = ap (λ xs. xs ++ told.got) (sym t.rest_is) in
    let are : lines (t.front ++ (t.rest ++ told.got)) ≡ t.ls ++ line ∷ first.1 = t.are told.got told.stays ∙ ap (λ xs. t.ls ++ xs) first.2 in
    let said = told.says line (first.1, ap lines known ∙ first.2) first.3 t.ls t.has first.1 in
    let Refuses : List (List ℕ) → Type 0 = λ ls. IsRefusal ls refusal in (
      t.front ++ (t.rest ++ told.got),
      subst (Consumes a c) (append_assoc t.front t.rest told.got) (Consumes-trans a b c (t.front ++ t.rest) told.got t.taken told.taken),
      told.at_end,
      omega (arith, is, t.left_is, told.left, more, long, length-append t.front (t.rest ++ told.got), length-append t.rest told.got),
      subst Refuses (sym are) said,
    )

-- ---- an input that is not judged

pub unread : (left limit : ℕ) (fault : Fault) (a b : Option (List ℕ)) → left ≡ limit + 1 → Stops left fault a b → IsUnread limit fault a b
unread left limit fault a b is stops = record {
  stopped = (stops.got, stops.taken, omega (arith, is, stops.within));
  not_write = stops.not_write;
  long = λ long. (stops.got, stops.taken, stops.long long ∙ is);
}

-- fewer than 2^62 lines were taken where all were
pub judged_few : {J E : Type 0} (HasTaken : J → List (List ℕ) → Type 0) (IsRefusal : List (List ℕ) → E → Type 0) (judge : J) (ls : List (List ℕ)) (refusal : Option E) → IsJudged HasTaken IsRefusal judge ls refusal → refusal ≡ None → IsAfterFew HasTaken judge
judged_few {E = E} HasTaken IsRefusal judge ls refusal judged none =
    let Judged : Option E → Type 0 = λ o. IsJudged HasTaken IsRefusal judge ls o in
    let all = subst Judged none judged in (ls, all.0, all.1)

-- what was judged of lines that were all taken, and of those with a refusal
pub judged_taken : {J E : Type 0} (HasTaken : J → List (List ℕ) → Type 0) (IsRefusal : List (List ℕ) → E → Type 0) (judge : J) (ls : List (List ℕ)) (refusal : Option E) → IsJudged HasTaken IsRefusal judge ls refusal → refusal ≡ None → HasTaken judge ls
judged_taken {E = E} HasTaken IsRefusal judge ls refusal judged none =
    let Judged : Option E → Type 0 = λ o. IsJudged HasTaken IsRefusal judge ls o in (subst Judged none judged).0

pub judged_refusal : {J E : Type 0} (HasTaken : J → List (List ℕ) → Type 0) (IsRefusal : List (List ℕ) → E → Type 0) (judge : J) (ls : List (List ℕ)) (found : Option E) (refusal : E) → IsJudged HasTaken IsRefusal judge ls found → found ≡ Some refusal → IsRefusal ls refusal
judged_refusal {E = E} HasTaken IsRefusal judge ls found refusal judged some =
    let Judged : Option E → Type 0 = λ o. IsJudged HasTaken IsRefusal judge ls o in subst Judged some judged
