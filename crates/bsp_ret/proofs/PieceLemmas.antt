-- A text that is judged and noted to a place.
use Rattle.std.proofs.Common.{◌≡◌, ℕ, ◌+◌, ◌-◌, ◌*◌, ◌^◌, ◌<◌, ◌≤◌, Bool, true, false, List, [], ◌∷◌, ◌++◌, length, take, drop, Some, Ok, Err, refl, sym, ap, subst, ◌∙◌, inl, inr, arith, append_assoc, length-drop}
use Rattle.std.specs.Prelude.{unsigned_abs}
use Rattle.std.proofs.lemmas.Bool.{cases_Bool}
use Rattle.std.proofs.lemmas.List.{take-append-drop, take-append-le, length-take, drop_all}
use Rattle.bsp_ret.specs.declared.model.FaultCode.{FaultCode}
use Rattle.bsp_ret.specs.declared.model.FaultCode.TheVariants.{F09}
use Rattle.bsp_ret.specs.declared.model.Record.{Record}
use Rattle.bsp_ret.specs.declared.model.Record.TheVariants as said
use Rattle.bsp_ret.specs.declared.model.Standing.{Standing}
use Rattle.bsp_ret.specs.declared.notes.Notes.{Notes}
use Rattle.bsp_ret.specs.declared.notes.Place.{Place}
use Rattle.bsp_fields.specs.Lines.{lines, before_rest, IsWholeLines, BeginsWithLine}
use Rattle.bsp_ret.specs.Said.{record_in}
use Rattle.bsp_ret.specs.Table.{kind, standing, has_ended, row_fault, first_fault}
use Rattle.bsp_ret.specs.Standings.{standing_with, standing_behind, fault_behind, FitsIn}
use Rattle.bsp_ret.specs.Reading.{Draft, add, read_from, read_all}
use Rattle.bsp_ret.specs.Payments.{paid_with}
use Rattle.bsp_ret.specs.Notes.{no_notes, draft_by, draft_of, HasPlaces, IsNoted, IsNotedTo}
use Rattle.bsp_ret.specs.Pieces.{IsFinal, IsClearSoFar}
use Rattle.bsp_fields.proofs.CutLemmas.{lines_nil, some_lines, IsRest-drop}
use Rattle.bsp_fields.proofs.RestLemmas.{whole_nothing, whole_joined}
use Rattle.bsp_ret.proofs.Rows.{clean}
use Rattle.bsp_ret.proofs.Steps.{standing_snoc, read_cons}
use Rattle.bsp_ret.proofs.LawLemmas.{fault_of, behind_cons, read_behind, read_is_fault}
use Rattle.bsp_ret.proofs.SaidLemmas.{ended_row}
use Rattle.bsp_ret.proofs.FewForms.{few_forms}
use Rattle.bsp_ret.proofs.NoteLemmas.{front_joined, IsNext}

-- ---- nothing came

pub noted_nothing : (bytes : List ℕ) (closed : List Place) → bytes ≡ [] → closed ≡ [] → IsNotedTo no_notes closed bytes
noted_nothing bytes closed none no_groups =
    rw (none, no_groups)
    record {
      noted = record {
        places = record {
          within = omega arith;
          header = record { ordered = omega arith; within = omega arith };
          trailer = record { ordered = omega arith; within = omega arith };
          latest = record { ordered = omega arith; within = omega arith; paid = rw lines_nil refl };
          whole = whole_nothing;
          open_end = λ goes_on. refl;
          groups = tt;
        };
        fits = record { counted = omega arith; small = omega arith; few = omega arith };
        whole = whole_nothing;
        state_is = rw lines_nil refl;
        reads = λ more. rw lines_nil refl;
        few = λ goes_on. omega arith;
      };
      unended = refl;
      nothing_behind = λ ended. omega arith;
    }

-- ---- the text goes on

-- where the text is cut at what is judged
pub lines_joined : (bytes : List ℕ) (n : ℕ) → IsWholeLines (take n bytes) → (more : List ℕ) → lines (bytes ++ more) ≡ lines (take n bytes) ++ lines (drop n bytes ++ more)
lines_joined bytes n whole more =
    ap (λ xs. lines (xs ++ more)) (sym (take-append-drop n bytes)) ∙ ap lines (append_assoc (take n bytes) (drop n bytes) more) ∙ whole (drop n bytes ++ more)

-- the first fault is that of what is left
pub left_fault : (notes : Notes) (closed : List Place) (bytes : List ℕ) → IsNoted notes closed bytes → (more : List ℕ) → first_fault (lines (bytes ++ more)) ≡ fault_behind notes.at (lines (drop notes.judged bytes ++ more))
left_fault notes closed bytes known more =
    let left = lines (drop notes.judged bytes ++ more) in
    ap first_fault (lines_joined bytes notes.judged known.whole more) ∙ sym (read_is_fault (lines (take notes.judged bytes) ++ left))
    ∙ ap fault_of (known.reads left) ∙ read_behind left notes.at (draft_of notes closed bytes)

-- a line at fault
pub fails_at_line : (notes : Notes) (closed : List Place) (bytes line after : List ℕ) (code : FaultCode) → IsNoted notes closed bytes → BeginsWithLine (drop notes.judged bytes) line after → row_fault notes.at line ≡ Err code
    → IsFinal bytes (record { code = code; at = notes.at.records + 1 })
fails_at_line notes closed bytes line after code known begins fault more =
    let rest = drop notes.judged bytes in
    let whole : before_rest rest after ++ after ≡ rest = ap (λ xs. before_rest rest after ++ xs) begins.rest_is.last ∙ take-append-drop (length rest - length after) rest in
    let cut : lines (rest ++ more) ≡ line ∷ lines (after ++ more) =
    ap (λ xs. lines (xs ++ more)) (sym whole) ∙ ap lines (append_assoc (before_rest rest after) after more) ∙ begins.cut (after ++ more) in
    left_fault notes closed bytes known more ∙ ap (fault_behind notes.at) cut ∙ behind_cons notes.at line (lines (after ++ more)) ∙ rw fault refl

-- a line that begins behind a trailer
behind_trailer : (at : Standing) (rest more : List ℕ) → 0 < length rest → has_ended at.last ≡ true → fault_behind at (lines (rest ++ more)) ≡ Some (record { code = F09; at = at.records + 1 })
behind_trailer at [] more some ended = absurd (omega arith)
behind_trailer at (b ∷ rest) more some ended =
    let k = some_lines b (rest ++ more) in
    ap (fault_behind at) k.2 ∙ behind_cons at k.0 k.1 ∙ rw (ended_row at k.0 ended) refl

pub fails_behind : (notes : Notes) (closed : List Place) (bytes : List ℕ) → IsNoted notes closed bytes → has_ended notes.at.last ≡ true → notes.judged < length bytes → IsFinal bytes (record { code = F09; at = notes.at.records + 1 })
fails_behind notes closed bytes known ended some more =
    left_fault notes closed bytes known more
    ∙ behind_trailer notes.at (drop notes.judged bytes) more (omega (arith, length-drop notes.judged bytes, some)) ended

nothing_left : (bytes : List ℕ) (n : ℕ) → length bytes ≤ n → drop n bytes ≡ []
nothing_left bytes n all = drop_all n bytes all

-- what the reader answers of text without fault
pub clear_so_far : (notes : Notes) (closed : List Place) (bytes : List ℕ) → IsNotedTo notes closed bytes → IsClearSoFar bytes
clear_so_far notes closed bytes known =
    let n = notes.judged in
    let within = known.noted.places.within in
    let rest = drop n bytes in
    let size : length bytes - length rest ≡ n = omega (arith, length-drop n bytes, within) in
    let front : before_rest bytes rest ≡ take n bytes = ap (λ k. take k bytes) size in
    let stood : standing (lines (before_rest bytes rest)) ≡ notes.at = ap (λ xs. standing (lines xs)) front ∙ sym known.noted.state_is in
    record {
      rest = rest;
      rest_is = IsRest-drop bytes n within;
      unended = known.unended;
      whole = subst IsWholeLines (sym front) known.noted.whole;
      clear = λ more. ap (λ xs. first_fault (lines xs ++ more)) front ∙ sym (read_is_fault (lines (take n bytes) ++ more))
          ∙ ap fault_of (known.noted.reads more) ∙ read_behind more notes.at (draft_of notes closed bytes) ∙ ap (λ (at : Standing). fault_behind at more) (sym stood);
      nothing_behind = λ ended. let all = known.nothing_behind (ap (λ (at : Standing). has_ended at.last) (sym stood) ∙ ended) in nothing_left bytes n all;
    }

-- ---- one more line

pub last_with : (at : Standing) (next : Record) → (standing_with at next).last ≡ kind next
last_with at (said.Header profile) = refl
last_with at (said.Sale code) = refl
last_with at (said.Related order) = refl
last_with at said.Amounts = refl
last_with at (said.Form form amount) = refl
last_with at said.Trailer = refl

pub records_with : (at : Standing) (next : Record) → (standing_with at next).records ≡ at.records + 1
records_with at (said.Header profile) = refl
records_with at (said.Sale code) = refl
records_with at (said.Related order) = refl
records_with at said.Amounts = refl
records_with at (said.Form form amount) = refl
records_with at said.Trailer = refl

-- a line without fault is behind no trailer
pub open_before : (at : Standing) (line : List ℕ) → row_fault at line ≡ Ok tt → has_ended at.last ≡ false
open_before at line none =
    elim (cases_Bool (has_ended at.last)) [
      | inl ended ↦ absurd (let k = sym none ∙ ended_row at line ended in cc k)
      | inr goes_on ↦ goes_on
    ]

-- what is known of one more line
pub record IsMore (old new : Notes) (closed more : List Place) (bytes line : List ℕ) (next : Record) : Type 0 where
  pub none : row_fault old.at line ≡ Ok tt
  pub says : next ≡ record_in line
  pub state_is : new.at ≡ standing_behind old.at line
  pub fits : FitsIn new.at (old.at.records + 1)
  pub draft : draft_by (has_ended (kind next)) new more bytes ≡ add (draft_by false old closed bytes) line
  pub places : HasPlaces (has_ended (kind next)) new more bytes
  pub sum : has_ended (kind next) ≡ false → new.latest.paid ≡ paid_with old.latest.paid next
  pub bound : unsigned_abs new.latest.paid ≤ unsigned_abs old.latest.paid + 99_999_999_999

pub noted_more : (old new : Notes) (closed more : List Place) (bytes line after : List ℕ) (next : Record) → IsNoted old closed bytes → IsNext bytes old.judged line after new.judged → IsMore old new closed more bytes line next → IsNoted new more bytes
noted_more old new closed more bytes line after next known cut is =
    let state_is : new.at ≡ standing_with old.at next = is.state_is ∙ ap (standing_with old.at) (sym is.says) in
    let last_is : new.at.last ≡ kind next = ap (λ (at : Standing). at.last) state_is ∙ last_with old.at next in
    let ended_is : has_ended new.at.last ≡ has_ended (kind next) = ap has_ended last_is in
    let goes_on : has_ended old.at.last ≡ false = open_before old.at line is.none in
    let front = front_joined bytes old.judged new.judged (omega (arith, cut.before)) in
    let lines_are : lines (take new.judged bytes) ≡ lines (take old.judged bytes) ++ line ∷ [] =
    ap lines front ∙ known.whole _ ∙ ap (λ ls. lines (take old.judged bytes) ++ ls) cut.single in
    let then = add (draft_by false old closed bytes) line in
    let same : (further : List (List ℕ)) → read_from new.at (draft_of new more bytes) further ≡ read_from (standing_behind old.at line) then further =
    λ further. ap (λ b. read_from new.at (draft_by b new more bytes) further) ended_is ∙ ap (λ (d : Draft). read_from new.at d further) is.draft ∙ ap (λ (at : Standing). read_from at then further) is.state_is in
    record {
      places = rw ended_is is.places;
      fits = record { counted = is.fits.counted; small = is.fits.small; few = omega (arith, is.fits.few, known.fits.few, cut.before) };
      whole = subst IsWholeLines (sym front) (whole_joined (take old.judged bytes) _ known.whole cut.whole);
      state_is = is.state_is ∙ ap (λ (at : Standing). standing_behind at line) known.state_is ∙ sym (standing_snoc (lines (take old.judged bytes)) line) ∙ ap standing (sym lines_are);
      reads = λ further. ap (λ ls. read_all (ls ++ further)) lines_are ∙ ap read_all (append_assoc (lines (take old.judged bytes)) (line ∷ []) further) ∙ known.reads (line ∷ further)
          ∙ ap (λ b. read_from old.at (draft_by b old closed bytes) (line ∷ further)) goes_on ∙ read_cons old.at (draft_by false old closed bytes) line further ∙ rw is.none refl ∙ sym (same further);
      few = λ on. let few = few_forms old.at line old.latest.paid new.latest.paid next (clean old.at line is.none) is.says (is.sum (sym ended_is ∙ on)) is.bound (known.few goes_on) in rw last_is few;
    }

-- ---- a step of the loop

pub places_with : (b ended : Bool) (notes : Notes) (at : Standing) (closed : List Place) (bytes : List ℕ) → ended ≡ b → HasPlaces ended notes closed bytes → HasPlaces b (record notes { at = at }) closed bytes
places_with b ended notes at closed bytes is has = record {
  within = has.within;
  header = has.header;
  trailer = has.trailer;
  latest = has.latest;
  whole = has.whole;
  open_end = λ on. has.open_end (is ∙ on);
  groups = has.groups;
}

-- what was in a list first is still first
pub kept_on : (first now new : List Place) → take (length first) now ≡ first → take (length now) new ≡ now → take (length first) new ≡ first
kept_on first now new kept still =
    let whole : now ++ drop (length now) new ≡ new = ap (λ (xs : List Place). xs ++ drop (length now) new) (sym still) ∙ take-append-drop (length now) new in
    let few : length first ≤ length now = omega (arith, length-take (length first) now, ap length kept) in
    ap (take (length first)) (sym whole) ∙ take-append-le (length first) now (drop (length now) new) few ∙ kept

pub few_small : (size forms : ℕ) → forms ≤ 3 → size ≤ forms * 10 ^ 11 → size ≤ 3 * 10 ^ 11
few_small size forms most few = omega arith
