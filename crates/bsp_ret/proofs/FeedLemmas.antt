-- A text that goes on or ends.
use Rattle.std.proofs.Common.{◌≡◌, ℕ, ◌+◌, ◌-◌, ◌<◌, ◌≤◌, Bool, true, false, List, [], ◌∷◌, ◌++◌, length, take, drop, Ok, Err, refl, sym, ap, subst, ◌∙◌, arith, length-append, length-drop}
use Rattle.std.specs.Prelude.{◌==◌}
use Rattle.std.proofs.lemmas.List.{take-append-drop, take-append-le, take_all}
use Rattle.std.proofs.lemmas.Bool.{eqb-true}
use Rattle.bsp_ret.specs.declared.model.FaultCode.{FaultCode}
use Rattle.bsp_ret.specs.declared.model.FaultCode.TheVariants.{F08}
use Rattle.bsp_ret.specs.declared.model.Record.{Record}
use Rattle.bsp_ret.specs.declared.model.Record.TheVariants as said
use Rattle.bsp_ret.specs.declared.model.Standing.{Standing}
use Rattle.bsp_ret.specs.declared.model.Progress.{Progress}
use Rattle.bsp_ret.specs.declared.model.Progress.TheVariants.{Reading, Ended, Failed}
use Rattle.bsp_ret.specs.declared.notes.Notes.{Notes}
use Rattle.bsp_ret.specs.declared.notes.Place.{Place}
use Rattle.bsp_fields.specs.Lines.{lines, has_end, IsWholeLines}
use Rattle.bsp_ret.specs.Said.{record_in}
use Rattle.bsp_ret.specs.Table.{kind, has_ended, row_fault}
use Rattle.bsp_ret.specs.Standings.{standing_behind, FitsIn}
use Rattle.bsp_ret.specs.Reading.{Draft, add, read_from, read_all}
use Rattle.bsp_ret.specs.Notes.{bytes_of, draft_by, draft_of, HasPlaces, IsNoted, IsNotedTo, IsFileNoted}
use Rattle.bsp_ret.specs.Pieces.{IsKnown}
use Rattle.bsp_fields.proofs.CutLemmas.{lines_last}
use Rattle.bsp_fields.proofs.RestLemmas.{lines_empty}
use Rattle.bsp_ret.proofs.LoopLemmas.{goes_on, fails, ends, lacks}
use Rattle.bsp_ret.proofs.NoteLemmas.{part_grown, lines_grown, place_grown, places_grown, groups_grown, place_further, places_further}
use Rattle.bsp_ret.proofs.PieceLemmas.{last_with, records_with, open_before}

-- ---- a piece comes

places_on : (ended : Bool) (notes : Notes) (closed : List Place) (old piece : List ℕ) → HasPlaces ended notes closed old → HasPlaces ended notes closed (old ++ piece)
places_on ended notes closed old piece has =
    let latest = part_grown old piece notes.latest.from notes.latest.to has.latest.ordered (omega (arith, has.latest.within, has.within)) in
    record {
      within = omega (arith, has.within, length-append old piece);
      header = has.header;
      trailer = has.trailer;
      latest = place_grown old piece notes.judged notes.latest has.within has.latest;
      whole = subst IsWholeLines (sym latest) has.whole;
      open_end = has.open_end;
      groups = places_grown old piece notes.judged closed has.within has.groups;
    }

draft_on : (b ended : Bool) (notes : Notes) (closed : List Place) (old piece : List ℕ) → HasPlaces ended notes closed old → draft_by b notes closed (old ++ piece) ≡ draft_by b notes closed old
draft_on b ended notes closed old piece has =
    let header = part_grown old piece notes.header.from notes.header.to has.header.ordered (omega (arith, has.header.within, has.within)) in
    let trailer = part_grown old piece notes.trailer.from notes.trailer.to has.trailer.ordered (omega (arith, has.trailer.within, has.within)) in
    let latest = lines_grown old piece notes.judged notes.latest has.within has.latest in
    let groups = groups_grown old piece notes.judged closed has.within has.groups in
    elim b as (λ v. draft_by v notes closed (old ++ piece) ≡ draft_by v notes closed old) [
      | true ↦ rw (header, trailer, latest, groups) refl
      | false ↦ rw (header, trailer, latest, groups) refl
    ]

pub noted_on : (notes : Notes) (closed : List Place) (old piece : List ℕ) → IsNoted notes closed old → IsNoted notes closed (old ++ piece)
noted_on notes closed old piece known =
    let front : take notes.judged (old ++ piece) ≡ take notes.judged old = take-append-le notes.judged old piece known.places.within in
    let draft = draft_on (has_ended notes.at.last) (has_ended notes.at.last) notes closed old piece known.places in
    record {
      places = places_on (has_ended notes.at.last) notes closed old piece known.places;
      fits = known.fits;
      whole = subst IsWholeLines (sym front) known.whole;
      state_is = rw front known.state_is;
      reads = λ more. rw (front, draft) (known.reads more);
      few = known.few;
    }

-- ---- no more comes

all_lines : (notes : Notes) (closed : List Place) (bytes : List ℕ) → IsNoted notes closed bytes → lines bytes ≡ lines (take notes.judged bytes) ++ lines (drop notes.judged bytes)
all_lines notes closed bytes known = ap lines (sym (take-append-drop notes.judged bytes)) ∙ known.whole (drop notes.judged bytes)

all_read : (notes : Notes) (closed : List Place) (bytes : List ℕ) → IsNoted notes closed bytes → read_from notes.at (draft_of notes closed bytes) (lines (drop notes.judged bytes)) ≡ read_all (lines bytes)
all_read notes closed bytes known = sym (ap read_all (all_lines notes closed bytes known) ∙ known.reads (lines (drop notes.judged bytes)))

-- whether bytes are left
pub none_left : (bytes : List ℕ) (n : ℕ) → (length (drop n bytes) == 0) ≡ true → length bytes ≤ n
none_left bytes n none = omega (arith, eqb-true (length (drop n bytes)) 0 none, length-drop n bytes)

pub some_left : (bytes : List ℕ) (n : ℕ) → (length (drop n bytes) == 0) ≡ false → n < length bytes
some_left bytes n some = grind (arith, length-drop n bytes, some)

-- how many lines came
came : (notes : Notes) (closed : List Place) (bytes : List ℕ) → IsNoted notes closed bytes → length (lines bytes) ≡ notes.at.records + length (lines (drop notes.judged bytes))
came notes closed bytes known =
    ap length (all_lines notes closed bytes known) ∙ length-append (lines (take notes.judged bytes)) (lines (drop notes.judged bytes))
    ∙ ap (λ (k : ℕ). k + length (lines (drop notes.judged bytes))) (sym (ap (λ (x : Standing). x.records) known.state_is))

one_unended : (rest : List ℕ) → has_end rest ≡ false → 0 < length rest → lines rest ≡ rest ∷ []
one_unended [] unended some = absurd (omega arith)
one_unended (b ∷ rest) unended some = lines_last b rest unended

last_line : (notes : Notes) (closed : List Place) (bytes : List ℕ) → IsNotedTo notes closed bytes → notes.judged < length bytes → lines (drop notes.judged bytes) ≡ drop notes.judged bytes ∷ []
last_line notes closed bytes known some = one_unended (drop notes.judged bytes) known.unended (omega (arith, length-drop notes.judged bytes, some))

no_line : (bytes : List ℕ) (n : ℕ) → length bytes ≤ n → lines (drop n bytes) ≡ []
no_line bytes n all = lines_empty (drop n bytes) (grind (arith, length-drop n bytes, all))

pub came_some : (notes : Notes) (closed : List Place) (bytes : List ℕ) → IsNotedTo notes closed bytes → notes.judged < length bytes → length (lines bytes) ≡ notes.at.records + 1
came_some notes closed bytes known some =
    came notes closed bytes known.noted ∙ ap (λ (ls : List (List ℕ)). notes.at.records + length ls) (last_line notes closed bytes known some)

pub came_none : (notes : Notes) (closed : List Place) (bytes : List ℕ) → IsNotedTo notes closed bytes → length bytes ≤ notes.judged → length (lines bytes) ≡ notes.at.records
came_none notes closed bytes known all =
    let none : length (lines (drop notes.judged bytes)) ≡ 0 = ap length (no_line bytes notes.judged all) in
    omega (arith, came notes closed bytes known.noted, none)

-- the trailer came, and nothing is left
pub file_came : (notes : Notes) (closed : List Place) (bytes : List ℕ) → IsNotedTo notes closed bytes → length bytes ≤ notes.judged → has_ended notes.at.last ≡ true → IsFileNoted notes closed bytes
file_came notes closed bytes known all ended =
    let so_far = ap (λ b. read_from notes.at (draft_by b notes closed bytes) (lines (drop notes.judged bytes))) (sym ended) ∙ all_read notes closed bytes known.noted in
    record {
      places = rw (← ended) known.noted.places;
      fits = record { counted = known.noted.fits.counted; small = known.noted.fits.small; few = omega (arith, known.noted.fits.few, known.noted.places.within) };
      count = sym (came_none notes closed bytes known all);
      read = ends notes.at (draft_by true notes closed bytes) (lines (drop notes.judged bytes)) (read_all (lines bytes)) (no_line bytes notes.judged all) ended so_far;
    }

-- nothing is left, and no trailer came
pub trailer_lacks : (notes : Notes) (closed : List Place) (bytes : List ℕ) → IsNotedTo notes closed bytes → length bytes ≤ notes.judged → has_ended notes.at.last ≡ false → read_all (lines bytes) ≡ Err (record { code = F08; at = notes.at.records + 1 })
trailer_lacks notes closed bytes known all going =
    lacks notes.at (draft_of notes closed bytes) (lines (drop notes.judged bytes)) (read_all (lines bytes)) (no_line bytes notes.judged all) going (all_read notes closed bytes known.noted)

-- ---- the last line has no end

pub last_fails : (notes : Notes) (closed : List Place) (bytes : List ℕ) (code : FaultCode) → IsNotedTo notes closed bytes → notes.judged < length bytes → row_fault notes.at (drop notes.judged bytes) ≡ Err code
    → read_all (lines bytes) ≡ Err (record { code = code; at = notes.at.records + 1 })
last_fails notes closed bytes code known some fault =
    fails notes.at (draft_of notes closed bytes) (lines (drop notes.judged bytes)) [] (drop notes.judged bytes) (read_all (lines bytes)) code (last_line notes closed bytes known some) fault (all_read notes closed bytes known.noted)

-- with that line read
last_read : (notes : Notes) (closed : List Place) (bytes : List ℕ) (at : Standing) → IsNotedTo notes closed bytes → notes.judged < length bytes → row_fault notes.at (drop notes.judged bytes) ≡ Ok tt → at ≡ standing_behind notes.at (drop notes.judged bytes)
    → read_from at (add (draft_by false notes closed bytes) (drop notes.judged bytes)) [] ≡ read_all (lines bytes)
last_read notes closed bytes at known some none state_is =
    let line = drop notes.judged bytes in
    let going = open_before notes.at line none in
    let so_far = ap (λ b. read_from notes.at (draft_by b notes closed bytes) (lines line)) (sym going) ∙ all_read notes closed bytes known.noted in
    goes_on notes.at at (draft_by false notes closed bytes) _ (lines line) [] line (read_all (lines bytes)) (last_line notes closed bytes known some) none state_is refl so_far

pub last_lacks : (notes : Notes) (closed : List Place) (bytes : List ℕ) (at : Standing) → IsNotedTo notes closed bytes → notes.judged < length bytes → row_fault notes.at (drop notes.judged bytes) ≡ Ok tt → at ≡ standing_behind notes.at (drop notes.judged bytes) → has_ended at.last ≡ false
    → read_all (lines bytes) ≡ Err (record { code = F08; at = at.records + 1 })
last_lacks notes closed bytes at known some none state_is going =
    lacks at _ [] (read_all (lines bytes)) refl going (last_read notes closed bytes at known some none state_is)

trailer_said : (next : Record) → has_ended (kind next) ≡ true → next ≡ said.Trailer
trailer_said (said.Header profile) is = absurd (cc is)
trailer_said (said.Sale code) is = absurd (cc is)
trailer_said (said.Related order) is = absurd (cc is)
trailer_said said.Amounts is = absurd (cc is)
trailer_said (said.Form form amount) is = absurd (cc is)
trailer_said said.Trailer is = refl

-- the notes with a trailer
pub draft_ended : (old new : Notes) (closed : List Place) (bytes line : List ℕ) → new.header ≡ old.header → new.latest ≡ old.latest → bytes_of bytes new.trailer ≡ line → record_in line ≡ said.Trailer
    → draft_by true new closed bytes ≡ add (draft_by false old closed bytes) line
draft_ended old new closed bytes line header latest trailer says = rw (header, latest, trailer, says) refl

pub last_trailer : (notes new : Notes) (closed : List Place) (bytes : List ℕ) → IsNotedTo notes closed bytes → notes.judged < length bytes → row_fault notes.at (drop notes.judged bytes) ≡ Ok tt → new.at ≡ standing_behind notes.at (drop notes.judged bytes)
    → FitsIn new.at (notes.at.records + 1) → has_ended new.at.last ≡ true → new.header ≡ notes.header → new.latest ≡ notes.latest → new.judged ≡ length bytes → new.trailer ≡ record { from = notes.judged; to = length bytes } → IsFileNoted new closed bytes
last_trailer notes new closed bytes known some none state_is fits ended header latest judged trailer =
    let line = drop notes.judged bytes in
    let has = known.noted.places in
    let says = trailer_said (record_in line) (ap has_ended (sym (ap (λ (at : Standing). at.last) state_is ∙ last_with notes.at (record_in line))) ∙ ended) in
    let size : length line ≤ length bytes - notes.judged = omega (arith, length-drop notes.judged bytes) in
    let text : bytes_of bytes new.trailer ≡ line = ap (bytes_of bytes) trailer ∙ take_all (length bytes - notes.judged) line size in
    let draft = draft_ended notes new closed bytes line header latest text says in
    let so_far = ap (λ (d : Draft). read_from new.at d []) draft ∙ last_read notes closed bytes new.at known some none state_is in
    record {
      places = rw (header, latest, judged, trailer)
          record {
            within = omega arith;
            header = record { ordered = has.header.ordered; within = omega (arith, has.header.within, has.within) };
            trailer = record { ordered = has.within; within = omega arith };
            latest = place_further bytes notes.judged (length bytes) notes.latest has.within has.latest;
            whole = has.whole;
            open_end = λ on. absurd (cc on);
            groups = places_further bytes notes.judged (length bytes) closed has.within has.groups;
          };
      fits = record { counted = fits.counted; small = fits.small; few = omega (arith, fits.few, known.noted.fits.few, some) };
      count = ap (λ (at : Standing). at.records) state_is ∙ records_with notes.at (record_in line) ∙ sym (came_some notes closed bytes known some);
      read = ends new.at (draft_by true new closed bytes) [] (read_all (lines bytes)) refl ended so_far;
    }

-- ---- how far a reader is

pub known_reading : (p : Progress) (notes : Notes) (closed : List Place) (bytes : List ℕ) → p ≡ Reading → IsKnown p notes closed bytes → IsNotedTo notes closed bytes
known_reading Reading notes closed bytes is known = known
known_reading Ended notes closed bytes is known = absurd (cc is)
known_reading (Failed fault) notes closed bytes is known = absurd (cc is)

pub known_ended : (p : Progress) (notes : Notes) (closed : List Place) (bytes : List ℕ) → p ≡ Ended → IsKnown p notes closed bytes → IsFileNoted notes closed bytes
known_ended Ended notes closed bytes is known = known
known_ended Reading notes closed bytes is known = absurd (cc is)
known_ended (Failed fault) notes closed bytes is known = absurd (cc is)
