-- How records stand with one more, where those before allow it.
use Rattle.std.specs.Prelude.{◌≡◌, ◌≤◌, ℕ, pos, ◌+◌, ◌==◌, nat_lt, Bool, true, false, not, ◌&&◌, ◌||◌, List, [], ◌∷◌, Option, Some, None, is_none, if◌then◌else◌}
use Rattle.std.specs.List.{find}
use Rattle.std.specs.Str.{bytes_eq}
use Rattle.bsp_hot_records.specs.declared.code.DocumentCode.{DocumentCode}
use Rattle.bsp_hot_records.specs.declared.code.DocumentCode.TheVariants.{Tktt, Rfnd, Canx, Adma, Acma}
use Rattle.bsp_hot_records.specs.declared.form.FileForm.{FileForm}
use Rattle.bsp_hot_records.specs.declared.form.FileForm.TheVariants.{One, Two}
use Rattle.bsp_hot_records.specs.declared.totals.Sums.{Sums}
use Rattle.bsp_hot_check.specs.declared.model.HotTotals.{HotTotals}
use Rattle.bsp_hot_records.specs.declared.model.Heading.{Heading as JudgedHeading}
use Rattle.bsp_hot_check.specs.declared.model.DocumentKey.{DocumentKey}
use Rattle.bsp_hot_records.specs.declared.model.Document.{Document as JudgedDocument}
use Rattle.bsp_hot_records.specs.declared.model.Part.{Part as JudgedPart}
use Rattle.bsp_hot_records.specs.declared.model.Part.TheVariants as part_is
use Rattle.bsp_hot_records.specs.declared.model.PartOf.{PartOf}
use Rattle.bsp_hot_records.specs.declared.model.Record.{Record as JudgedRecord}
use Rattle.bsp_hot_records.specs.declared.model.Record.TheVariants as record_is
use Rattle.bsp_hot_check.specs.declared.model.Stage.{Stage}
use Rattle.bsp_hot_check.specs.declared.model.Stage.TheVariants as stage
use Rattle.bsp_hot_check.specs.declared.model.Progress.{Progress}
use Rattle.bsp_hot_check.specs.declared.model.Place.{Place}
use Rattle.bsp_hot_check.specs.declared.model.Place.TheVariants.{Start, Headed, Between, Opened, Begun, InDocument, Totalled, Closed, Ended}
use Rattle.bsp_hot_check.specs.declared.model.CodeSums.{CodeSums}
use Rattle.bsp_hot_check.specs.declared.model.OfficeSums.{OfficeSums}
use Rattle.bsp_hot_check.specs.declared.model.Standing.{Standing}
use Rattle.bsp_hot_records.specs.Sums.{no_sums, one_document, add, net_of, has_totals, AreSmall, is_code, all_codes}
use Rattle.bsp_hot_check.specs.Hot.{is_before}

-- ---- what may stand behind what

-- the place is this one, of those that hold no value
abbrev pub is_at : Place → Place → Bool
is_at Start Start = true
is_at Headed Headed = true
is_at Between Between = true
is_at Begun Begun = true
is_at Closed Closed = true
is_at Ended Ended = true
is_at _ _ = false

abbrev pub is_totalled : Place → Bool
is_totalled (Totalled c) = true
is_totalled _ = false

-- by the code of a document, its last record, and whether it has a BKS45
abbrev pub is_complete : DocumentCode → Stage → Bool → Bool
is_complete Tktt stage.Cash has_related = not has_related
is_complete Tktt stage.Credit has_related = not has_related
is_complete Tktt stage.Exchange has_related = true
is_complete Rfnd stage.Cash has_related = true
is_complete Rfnd stage.Credit has_related = true
is_complete Canx stage.Document has_related = true
is_complete Adma stage.Cash has_related = true
is_complete Acma stage.Cash has_related = true
is_complete _ _ has_related = false

-- a second BKS45 stands behind one that is alone, and has a greater number
abbrev pub comes_behind : Option ℕ → ℕ → Bool
comes_behind None number = false
comes_behind (Some first) number = nat_lt first number

-- a BKS45 may come next, the first of a document or a second one: by the code, the last record, its number where it is a BKS45 that is alone, and the number that comes
abbrev pub takes_related_part : DocumentCode → Stage → Option ℕ → ℕ → Bool
takes_related_part Tktt stage.Charged only number = true
takes_related_part Rfnd stage.Charged only number = true
takes_related_part Tktt stage.Related only number = comes_behind only number
takes_related_part _ _ only number = false

abbrev pub takes_related : Progress → ℕ → Bool
takes_related x number = takes_related_part x.code x.stage x.only number

-- by the airline, a document's code, its last record, whether it has a BKS45, the number of the last record where it is a BKS45 that is alone, and the record that is to come next
abbrev pub takes_part : ℕ → DocumentCode → Stage → Bool → Option ℕ → JudgedPart → Bool
takes_part airline code stage related only (part_is.Related other) = takes_related_part code stage only other.number && (other.airline == airline)
takes_part airline Tktt stage.Document related only (part_is.Amounts taxed) = true
takes_part airline Tktt stage.Amounts related only (part_is.Commission amount) = true
takes_part airline Tktt stage.Commission related only (part_is.CommissionTax amount) = true
takes_part airline Tktt stage.Charged related only (part_is.Cash amount) = true
takes_part airline Tktt stage.Charged related only (part_is.Credit amount) = true
takes_part airline Tktt stage.Related related only (part_is.Cash amount) = true
takes_part airline Tktt stage.Related related only (part_is.Credit amount) = true
takes_part airline Tktt stage.Related related only part_is.Exchange = related
takes_part airline Tktt stage.Cash related only (part_is.Credit amount) = true
takes_part airline Tktt stage.Cash related only part_is.Exchange = related
takes_part airline Tktt stage.Credit related only part_is.Exchange = related
takes_part airline Rfnd stage.Document related only (part_is.Amounts taxed) = true
takes_part airline Rfnd stage.Amounts related only (part_is.Commission amount) = true
takes_part airline Rfnd stage.Commission related only (part_is.CommissionTax amount) = true
takes_part airline Rfnd stage.Related related only (part_is.Cash amount) = true
takes_part airline Rfnd stage.Related related only (part_is.Credit amount) = true
takes_part airline Rfnd stage.Cash related only (part_is.Credit amount) = true
takes_part airline Adma stage.Document related only (part_is.Amounts taxed) = not taxed
takes_part airline Adma stage.Amounts related only (part_is.Cash amount) = true
takes_part airline Acma stage.Document related only (part_is.Amounts taxed) = not taxed
takes_part airline Acma stage.Amounts related only (part_is.Cash amount) = true
takes_part airline _ _ related only _ = false

-- a further record of a document of this airline
abbrev pub takes : ℕ → Progress → JudgedPart → Bool
takes airline x y = takes_part airline x.code x.stage x.related x.only y

-- behind BKS39: in form 2 its BKS42 comes next
abbrev pub commission_stage : FileForm → Stage
commission_stage One = stage.Charged
commission_stage Two = stage.Commission

abbrev pub stage_of : FileForm → JudgedPart → Stage
stage_of form (part_is.Amounts taxed) = stage.Amounts
stage_of form (part_is.Commission amount) = commission_stage form
stage_of form (part_is.CommissionTax amount) = stage.Charged
stage_of form (part_is.Related other) = stage.Related
stage_of form (part_is.Cash amount) = stage.Cash
stage_of form (part_is.Credit amount) = stage.Credit
stage_of form part_is.Exchange = stage.Exchange

abbrev pub is_related_part : JudgedPart → Bool
is_related_part (part_is.Related other) = true
is_related_part _ = false

-- the number of a BKS45 that is alone, where the document has another or not
abbrev pub only_behind : Bool → JudgedPart → Option ℕ
only_behind false (part_is.Related other) = Some other.number
only_behind _ _ = None

-- with one more record, in a file of this form
abbrev pub progress_behind : FileForm → Progress → JudgedPart → Progress
progress_behind form x y = record { code = x.code; stage = stage_of form y; related = x.related || is_related_part y; only = only_behind x.related y }

abbrev pub is_complete_progress : Progress → Bool
is_complete_progress x = is_complete x.code x.stage x.related

-- a transaction may begin: behind the office's header, or a complete document
abbrev pub takes_transaction : Place → Bool
takes_transaction Opened = true
takes_transaction (InDocument x) = is_complete_progress x
takes_transaction _ = false

-- the codes that come later
abbrev pub later_codes : DocumentCode → List DocumentCode
later_codes Tktt = Rfnd ∷ Canx ∷ Adma ∷ Acma ∷ []
later_codes Rfnd = Canx ∷ Adma ∷ Acma ∷ []
later_codes Canx = Adma ∷ Acma ∷ []
later_codes Adma = Acma ∷ []
later_codes Acma = []

-- the codes whose BOT93 may still come
abbrev pub left_codes : Place → List DocumentCode
left_codes (InDocument x) = if is_complete_progress x then all_codes else []
left_codes (Totalled c) = later_codes c
left_codes _ = []

-- ---- sums by code

abbrev pub sums_at : CodeSums → DocumentCode → Sums
sums_at sums Tktt = sums.tktt
sums_at sums Rfnd = sums.rfnd
sums_at sums Canx = sums.canx
sums_at sums Adma = sums.adma
sums_at sums Acma = sums.acma

abbrev pub add_at : CodeSums → DocumentCode → Sums → CodeSums
add_at sums Tktt s = record { tktt = add sums.tktt s; rfnd = sums.rfnd; canx = sums.canx; adma = sums.adma; acma = sums.acma }
add_at sums Rfnd s = record { tktt = sums.tktt; rfnd = add sums.rfnd s; canx = sums.canx; adma = sums.adma; acma = sums.acma }
add_at sums Canx s = record { tktt = sums.tktt; rfnd = sums.rfnd; canx = add sums.canx s; adma = sums.adma; acma = sums.acma }
add_at sums Adma s = record { tktt = sums.tktt; rfnd = sums.rfnd; canx = sums.canx; adma = add sums.adma s; acma = sums.acma }
add_at sums Acma s = record { tktt = sums.tktt; rfnd = sums.rfnd; canx = sums.canx; adma = sums.adma; acma = add sums.acma s }

-- some document of the code stands
abbrev pub stands_in : CodeSums → DocumentCode → Bool
stands_in sums c = nat_lt 0 (sums_at sums c).documents

abbrev pub no_office : OfficeSums
no_office = record {
  codes = record { tktt = no_sums; rfnd = no_sums; canx = no_sums; adma = no_sums; acma = no_sums };
  all = no_sums;
  latest = None;
}

-- the code whose BOT93 comes next
abbrev pub next_code : CodeSums → Place → Option DocumentCode
next_code sums place = find (stands_in sums) (left_codes place)

abbrev pub is_next : Option DocumentCode → DocumentCode → Bool
is_next None c = false
is_next (Some d) c = is_code d c

-- by what a document is in order
abbrev pub key_of : JudgedDocument → DocumentKey
key_of d = record { code = d.code; number = d.number }

abbrev pub is_key_after : Option DocumentKey → DocumentKey → Bool
is_key_after None k = true
is_key_after (Some before) k = is_before before.code before.number k.code k.number

abbrev pub is_agent_after : Option ℕ → ℕ → Bool
is_agent_after None agent = true
is_agent_after (Some before) agent = nat_lt before agent

abbrev pub is_agent : Option ℕ → ℕ → Bool
is_agent None agent = false
is_agent (Some x) agent = agent == x

-- what BFH01 says of the file; before it the form is 1
abbrev pub form_at : Option JudgedHeading → FileForm
form_at None = One
form_at (Some h) = h.form

abbrev pub is_airline : Option JudgedHeading → ℕ → Bool
is_airline None airline = false
is_airline (Some h) airline = airline == h.airline

abbrev pub is_period : Option JudgedHeading → ℕ → Bool
is_period None period = false
is_period (Some h) period = period == h.period

abbrev pub is_currency : Option JudgedHeading → List ℕ → Bool
is_currency None currency = false
is_currency (Some h) currency = bytes_eq currency h.currency

-- ---- steps

-- how no records stand
abbrev pub start : Standing
start = record {
  records = 0;
  place = Start;
  heading = None;
  offices = 0;
  transactions = 0;
  file = no_sums;
  agent = None;
  office = no_office;
}

-- one more record, behind which the place is this
abbrev pub moved : Standing → Place → Standing
moved at place = record at { records = at.records + 1; place = place }

-- and which adds to the sums
abbrev pub counted : Standing → Progress → Sums → Standing
counted at x s =
    record (moved at (InDocument x)) {
      file = add at.file s;
      office = record at.office { codes = add_at at.office.codes x.code s; all = add at.office.all s };
    }

abbrev pub allowed : Bool → Standing → Option Standing
allowed test at = if test then Some at else None

abbrev pub judged_sums : JudgedPart → Sums
judged_sums (part_is.Amounts taxed) = no_sums
judged_sums (part_is.Commission amount) = record { documents = 0; cash = pos 0; credit = pos 0; commission = amount; tax = pos 0 }
judged_sums (part_is.CommissionTax amount) = record { documents = 0; cash = pos 0; credit = pos 0; commission = pos 0; tax = amount }
judged_sums (part_is.Related other) = no_sums
judged_sums (part_is.Cash amount) = record { documents = 0; cash = amount; credit = pos 0; commission = pos 0; tax = pos 0 }
judged_sums (part_is.Credit amount) = record { documents = 0; cash = pos 0; credit = amount; commission = pos 0; tax = pos 0 }
judged_sums part_is.Exchange = no_sums

abbrev pub part_step : Standing → Place → Option JudgedHeading → PartOf → Option Standing
part_step at (InDocument x) (Some h) y =
    allowed (takes h.airline x y.part && (y.transaction == at.transactions)) (counted at (progress_behind h.form x y.part) (judged_sums y.part))
part_step at _ _ y = None

-- one more record, where those before allow it
unfoldable pub step : Standing → JudgedRecord → Option Standing
step at (record_is.FileHeader h) = allowed (is_at Start at.place) (record (moved at Headed) { heading = Some h })
step at (record_is.PeriodHeader period) = allowed (is_at Headed at.place && is_period at.heading period) (moved at Between)
step at (record_is.OfficeHeader o) =
    allowed
    (is_at Between at.place && is_agent_after at.agent o.agent && is_period at.heading o.period && is_currency at.heading o.currency)
    (record (moved at Opened) { agent = Some o.agent })
step at (record_is.TransactionHeader t) =
    allowed
    (takes_transaction at.place && (t.transaction == at.transactions + 1) && is_airline at.heading t.airline)
    (record (moved at Begun) { transactions = at.transactions + 1 })
step at (record_is.Document d) =
    allowed
    (is_at Begun at.place && (d.transaction == at.transactions) && is_agent at.agent d.agent && is_key_after at.office.latest (key_of d))
    (counted
    (record at { office = record at.office { latest = Some (key_of d) } })
    (record { code = d.code; stage = stage.Document; related = false; only = None }) one_document)
step at (record_is.PartOf y) = part_step at at.place at.heading y
step at (record_is.CodeTotals t) =
    allowed
    (is_next (next_code at.office.codes at.place) t.code && is_agent at.agent t.agent && has_totals (sums_at at.office.codes t.code) t.totals)
    (moved at (Totalled t.code))
step at (record_is.OfficeTotals t) =
    allowed
    (is_totalled at.place && is_none (next_code at.office.codes at.place) && is_agent at.agent t.agent && has_totals at.office.all t.totals)
    (record (moved at Between) { offices = at.offices + 1; office = no_office })
step at (record_is.PeriodTotals t) =
    allowed
    (is_at Between at.place && is_period at.heading t.period && (t.offices == at.offices) && has_totals at.file t.totals)
    (moved at Closed)
step at (record_is.FileTotals t) =
    allowed
    (is_at Closed at.place && is_airline at.heading t.airline && (t.records == at.records + 1) && has_totals at.file t.totals)
    (moved at Ended)

-- the totals of a file that stands so
abbrev pub totals_at : Standing → HotTotals
totals_at at = record { records = at.records; documents = at.file.documents; net = net_of at.file }

-- ---- sizes

pub record AreSmallSums (n : ℕ) (sums : CodeSums) : Type 0 where
  pub tktt : AreSmall n sums.tktt
  pub rfnd : AreSmall n sums.rfnd
  pub canx : AreSmall n sums.canx
  pub adma : AreSmall n sums.adma
  pub acma : AreSmall n sums.acma

-- what stands fits the program's numbers
pub record IsSmall (at : Standing) : Type 0 where
  pub offices : at.offices ≤ at.records
  pub transactions : at.transactions ≤ at.records
  pub file : AreSmall at.records at.file
  pub codes : AreSmallSums at.records at.office.codes
  pub all : AreSmall at.records at.office.all

-- with one record more it fits, too
pub record IsSmallNext (at next : Standing) : Type 0 where
  pub records : next.records ≡ at.records + 1
  pub small : IsSmall next
