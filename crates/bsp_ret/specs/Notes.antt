-- Where the records of a text are, as a reader of pieces notes it.
use Rattle.std.specs.Prelude.{◌≡◌, ◌≤◌, ◌*◌, ◌^◌, ℕ, pos, unsigned_abs, Bool, true, false, List, [], ◌∷◌, ◌++◌, length, take, drop, map, Ok}
use Rattle.std.specs.List.{slice_range}
use Rattle.bsp_fields.specs.Lines.{lines, has_end, IsWholeLines}
use Rattle.bsp_ret.specs.declared.notes.Notes.{Notes}
use Rattle.bsp_ret.specs.declared.notes.Place.{Place}
use Rattle.bsp_ret.specs.declared.notes.Span.{Span}
use Rattle.bsp_ret.specs.Table.{standing, has_ended, total_paid}
use Rattle.bsp_ret.specs.Standings.{FitsIn}
use Rattle.bsp_ret.specs.Ret.{File}
use Rattle.bsp_ret.specs.Reading.{Draft, with_group, read_from, read_all}
use Rattle.bsp_ret.specs.Payments.{forms_up_to}

-- nothing of a text
abbrev pub no_notes : Notes
no_notes = record {
  judged = 0;
  at = standing [];
  header = record { from = 0; to = 0 };
  latest = record { from = 0; to = 0; paid = pos 0 };
  trailer = record { from = 0; to = 0 };
}

abbrev pub bytes_of : List ℕ → Span → List ℕ
bytes_of bytes span = slice_range bytes span.from span.to

-- the lines of a transaction
abbrev pub lines_at : List ℕ → Place → List (List ℕ)
lines_at bytes place = lines (slice_range bytes place.from place.to)

abbrev pub groups_at : List ℕ → List Place → List (List (List ℕ))
groups_at bytes places = map (lines_at bytes) places

-- the draft that notes describe, by whether a trailer came
abbrev pub draft_by : Bool → Notes → List Place → List ℕ → Draft
draft_by false notes closed bytes = record {
  header = bytes_of bytes notes.header;
  closed = groups_at bytes closed;
  latest = lines_at bytes notes.latest;
  trailer = bytes_of bytes notes.trailer;
}
draft_by true notes closed bytes = record {
  header = bytes_of bytes notes.header;
  closed = with_group (groups_at bytes closed) (lines_at bytes notes.latest);
  latest = [];
  trailer = bytes_of bytes notes.trailer;
}

abbrev pub draft_of : Notes → List Place → List ℕ → Draft
draft_of notes closed bytes = draft_by (has_ended notes.at.last) notes closed bytes

-- the file, where a trailer came
abbrev pub file_of : Notes → List Place → List ℕ → File
file_of notes closed bytes = record {
  header = bytes_of bytes notes.header;
  groups = with_group (groups_at bytes closed) (lines_at bytes notes.latest);
  trailer = bytes_of bytes notes.trailer;
}

-- ---- the places are in the first n bytes

pub record IsSpan (n : ℕ) (span : Span) : Type 0 where
  pub ordered : span.from ≤ span.to
  pub within : span.to ≤ n

-- with the sum that the lines pay
pub record IsPlace (bytes : List ℕ) (n : ℕ) (place : Place) : Type 0 where
  pub ordered : place.from ≤ place.to
  pub within : place.to ≤ n
  pub paid : place.paid ≡ total_paid (lines_at bytes place)

abbrev pub ArePlaces : List ℕ → ℕ → List Place → Type 0
ArePlaces bytes n [] = Unit {0}
ArePlaces bytes n (place ∷ places) = IsPlace bytes n place × ArePlaces bytes n places

-- all places are in the bytes that are judged, and the last transaction ends there where no trailer came
pub record HasPlaces (ended : Bool) (notes : Notes) (closed : List Place) (bytes : List ℕ) : Type 0 where
  pub within : notes.judged ≤ length bytes
  pub header : IsSpan notes.judged notes.header
  pub trailer : IsSpan notes.judged notes.trailer
  pub latest : IsPlace bytes notes.judged notes.latest
  pub whole : IsWholeLines (slice_range bytes notes.latest.from notes.latest.to)
  pub open_end : ended ≡ false → notes.latest.to ≡ notes.judged
  pub groups : ArePlaces bytes notes.judged closed

-- ---- what a reader knows of its bytes

-- the bytes that are judged are whole lines without fault, and reading them gives this state and this draft
pub record IsNoted (notes : Notes) (closed : List Place) (bytes : List ℕ) : Type 0 where
  pub places : HasPlaces (has_ended notes.at.last) notes closed bytes
  pub fits : FitsIn notes.at notes.judged
  pub whole : IsWholeLines (take notes.judged bytes)
  pub state_is : notes.at ≡ standing (lines (take notes.judged bytes))
  pub reads : (more : List (List ℕ)) → read_all (lines (take notes.judged bytes) ++ more) ≡ read_from notes.at (draft_of notes closed bytes) more
  pub few : has_ended notes.at.last ≡ false → unsigned_abs notes.latest.paid ≤ forms_up_to notes.at.last * 10 ^ 11

-- all lines with an end are judged, and nothing is behind a trailer
pub record IsNotedTo (notes : Notes) (closed : List Place) (bytes : List ℕ) : Type 0 where
  pub noted : IsNoted notes closed bytes
  pub unended : has_end (drop notes.judged bytes) ≡ false
  pub nothing_behind : has_ended notes.at.last ≡ true → length bytes ≤ notes.judged

-- all bytes are read, and this is their file
pub record IsFileNoted (notes : Notes) (closed : List Place) (bytes : List ℕ) : Type 0 where
  pub places : HasPlaces true notes closed bytes
  pub fits : FitsIn notes.at (length bytes)
  pub count : notes.at.records ≡ length (lines bytes)
  pub read : read_all (lines bytes) ≡ Ok (file_of notes closed bytes)
