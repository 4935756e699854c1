-- A file as far as its records stand, and what the standing of the records is.
use Rattle.std.proofs.Common.{◌≡◌, ◌<◌, ℕ, ◌+◌, true, List, [], ◌∷◌, ◌++◌, length, map, filter, Option, Some, None}
use Rattle.std.specs.List.{last_or}
use Rattle.bsp_hot_records.specs.declared.code.DocumentCode.{DocumentCode}
use Rattle.bsp_hot_records.specs.declared.totals.Sums.{Sums}
use Rattle.bsp_hot_check.specs.declared.model.DocumentKey.{DocumentKey}
use Rattle.bsp_hot_records.specs.declared.model.Heading.{Heading as JudgedHeading}
use Rattle.bsp_hot_check.specs.declared.model.Place.{Place}
use Rattle.bsp_hot_check.specs.declared.model.Place.TheVariants.{Headed, Between, Opened, Begun, InDocument, Totalled, Closed, Ended}
use Rattle.bsp_hot_check.specs.declared.model.OfficeSums.{OfficeSums}
use Rattle.bsp_hot_check.specs.declared.model.Standing.{Standing}
use Rattle.bsp_hot_records.specs.Records.{Heading, Document, Record, file_header, office_header, transaction_header, document, part, code_totals}
use Rattle.bsp_hot_records.specs.Sums.{no_sums, add, with_net, all_codes}
use Rattle.bsp_hot_check.specs.Hot.{Item, Office, File, document_sums, items_sums, code_sums, file_sums, items_records, has_code, headers, offices_records, all_but_last, records_of, AreItems, IsFile}
use Rattle.bsp_hot_records.specs.Judged.{judged, judged_heading}
use Rattle.bsp_hot_check.specs.Standings.{later_codes, no_office, is_key_after, is_agent_after, add_at, start, step}
use Rattle.bsp_hot_check.proofs.SumLemmas.{codes_of}
use Rattle.bsp_hot_check.proofs.PartialItems.{PartialItem, code_of, parts_so_far, progress_of, IsSound}

-- a file with the offices that are complete, and what stands of one that is not: its agent, its complete items, and an item or the codes that have their BOT93
pub data Draft : Type 0 where
  nothing : Draft
  headed : Heading → Draft
  between : File → Draft
  opened : File → ℕ → Draft
  begun : File → ℕ → List Item → Draft
  in_item : File → ℕ → List Item → Document → PartialItem → Draft
  totalled : File → ℕ → List Item → List DocumentCode → DocumentCode → Draft
  closed : File → Draft
  ended : File → Draft

-- ---- its records

-- the items of offices
abbrev pub count_items : List Office → ℕ
count_items [] = 0
count_items (o ∷ offices) = length o.items + count_items offices

-- the transaction behind these items
abbrev pub number : File → List Item → ℕ
number f items = 1 + count_items f.offices + length items

abbrev pub front : File → List Record
front f = headers f ++ offices_records f.heading 1 f.offices

abbrev pub with_items : File → ℕ → List Item → List Record
with_items f agent items =
    front f
    ++ office_header agent f.heading.period f.heading.currency
    ∷ items_records f.heading.airline agent (1 + count_items f.offices) items

-- an item's records as far as they stand
abbrev pub partial_records : ℕ → ℕ → ℕ → Document → PartialItem → List Record
partial_records airline agent n d g = transaction_header n airline ∷ document n agent (code_of g) d ∷ map (part n) (parts_so_far g)

abbrev pub code_records : ℕ → List Item → List DocumentCode → List Record
code_records agent items some_codes = map (λ c. code_totals agent c (with_net (code_sums c items))) some_codes

abbrev pub so_far : Draft → List Record
so_far nothing = []
so_far (headed h) = file_header h ∷ []
so_far (between f) = front f
so_far (opened f agent) = with_items f agent []
so_far (begun f agent items) = with_items f agent items ++ transaction_header (number f items) f.heading.airline ∷ []
so_far (in_item f agent items d g) = with_items f agent items ++ partial_records f.heading.airline agent (number f items) d g
so_far (totalled f agent items done c) = with_items f agent items ++ code_records agent items done
so_far (closed f) = all_but_last f
so_far (ended f) = records_of f

-- ---- its standing

abbrev pub key_of : Item → DocumentKey
key_of it = record { code = it.code; number = it.document_is.number }

abbrev pub key_or : Option Item → Option DocumentKey
key_or None = None
key_or (Some it) = Some (key_of it)

abbrev pub latest_key : List Item → Option DocumentKey
latest_key items = key_or (last_or None items)

abbrev pub last_agent : Option ℕ → List Office → Option ℕ
last_agent before [] = before
last_agent before (o ∷ offices) = last_agent (Some o.agent) offices

-- of an office with these items
abbrev pub office_of : List Item → OfficeSums
office_of items = record { codes = codes_of items; all = items_sums items; latest = latest_key items }

-- and with one more that stands so
abbrev pub office_with : List Item → Document → PartialItem → OfficeSums
office_with items d g = record {
  codes = add_at (codes_of items) (code_of g) (document_sums (parts_so_far g));
  all = add (items_sums items) (document_sums (parts_so_far g));
  latest = Some (record { code = code_of g; number = d.number });
}

-- a standing of these parts
abbrev pub made : ℕ → Place → Option JudgedHeading → ℕ → ℕ → Sums → Option ℕ → OfficeSums → Standing
made records place heading offices transactions file agent office = record {
  records = records;
  place = place;
  heading = heading;
  offices = offices;
  transactions = transactions;
  file = file;
  agent = agent;
  office = office;
}

-- behind the headers of a file and its offices
abbrev pub behind_offices : File → ℕ → Place → Standing
behind_offices f records place =
    made records place (Some (judged_heading f.heading)) (length f.offices) (count_items f.offices) (file_sums f.offices)
    (last_agent None f.offices) no_office

-- and behind items of one more office
abbrev pub in_office : File → ℕ → ℕ → Place → ℕ → OfficeSums → Standing
in_office f agent records place transactions office =
    made records place (Some (judged_heading f.heading)) (length f.offices) transactions (add (file_sums f.offices) office.all) (Some agent) office

abbrev pub standing_of : Draft → Standing
standing_of nothing = start
standing_of (headed h) = made 1 Headed (Some (judged_heading h)) 0 0 no_sums None no_office
standing_of (between f) = behind_offices f (length (front f)) Between
standing_of (opened f agent) =
    made (length (with_items f agent [])) Opened (Some (judged_heading f.heading)) (length f.offices) (count_items f.offices)
    (file_sums f.offices) (Some agent) no_office
standing_of (begun f agent items) =
    in_office f agent (length (so_far (begun f agent items))) Begun (number f items) (office_of items)
standing_of (in_item f agent items d g) =
    in_office f agent (length (so_far (in_item f agent items d g))) (InDocument (progress_of g)) (number f items) (office_with items d g)
standing_of (totalled f agent items done c) =
    in_office f agent (length (so_far (totalled f agent items done c))) (Totalled c) (count_items f.offices + length items) (office_of items)
standing_of (closed f) = behind_offices f (length (all_but_last f)) Closed
standing_of (ended f) = behind_offices f (length (records_of f)) Ended

-- ---- a sound draft

-- the offices and the items of the last one
pub record IsOpen (f : File) (agent : ℕ) (items : List Item) : Type 0 where
  pub file : IsFile f
  pub after : is_agent_after (last_agent None f.offices) agent ≡ true
  pub are : AreItems f.heading.form f.heading.airline None items

-- an item may stand behind these
pub record IsInItem (f : File) (agent : ℕ) (items : List Item) (d : Document) (g : PartialItem) : Type 0 where
  pub is_open : IsOpen f agent items
  pub in_order : is_key_after (latest_key items) (record { code = code_of g; number = d.number }) ≡ true
  pub sound : IsSound f.heading.form f.heading.airline g

-- these codes have their BOT93, and later ones may come
pub record IsTotalling (f : File) (agent : ℕ) (items : List Item) (done : List DocumentCode) (c : DocumentCode) : Type 0 where
  pub is_open : IsOpen f agent items
  pub some : 0 < length items
  pub rest : filter (has_code items) all_codes ≡ done ++ filter (has_code items) (later_codes c)

abbrev pub IsSoundDraft : Draft → Type 0
IsSoundDraft nothing = Unit {0}
IsSoundDraft (headed h) = Unit {0}
IsSoundDraft (between f) = IsFile f
IsSoundDraft (opened f agent) = IsOpen f agent []
IsSoundDraft (begun f agent items) = IsOpen f agent items
IsSoundDraft (in_item f agent items d g) = IsInItem f agent items d g
IsSoundDraft (totalled f agent items done c) = IsTotalling f agent items done c
IsSoundDraft (closed f) = IsFile f
IsSoundDraft (ended f) = IsFile f

-- ---- one more record

-- with this record the draft becomes the other
pub record Next (d : Draft) (r : Record) (e : Draft) : Type 0 where
  pub stands : step (standing_of d) (judged r) ≡ Some (standing_of e)
  pub records_are : so_far e ≡ so_far d ++ r ∷ []
  pub sound : IsSoundDraft e
