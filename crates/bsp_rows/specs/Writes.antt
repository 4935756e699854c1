-- What each write makes of the rows.
use Rattle.std.specs.Prelude.{◌≡◌, ℕ, ◌≤◌, Bool, false, List, Option, Some, None, IsSome, IfSome, IsTrue, Result, Ok, Err}
use Rattle.std.specs.declared.cmp.Ordering.{Ordering}
use Rattle.std.specs.FinMap.{FinMap, get, insert, remove}
use Rattle.bsp_fields.specs.Changes.{change_of}
use Rattle.bsp_fields.specs.declared.change.Change.{Change}
use Rattle.bsp_calendar.specs.Published.{Published, is_closed}
use Rattle.bsp_calendar.specs.DayOrder.{same_day}
use Rattle.bsp_calendar.specs.Requests.{holds_already}
use Rattle.bsp_calendar.specs.History.{Request, outcome}
use Rattle.bsp_calendar.specs.History.Request.{Publish, SetDay, Close}
use Rattle.bsp_calendar.specs.declared.fault.PlanFault.{PlanFault}
use Rattle.bsp_rules.specs.declared.rows.Item.{Item}
use Rattle.bsp_rules.specs.declared.rows.Range.{Range}
use Rattle.bsp_memos.specs.declared.fields.MemoFields.{MemoFields}
use Rattle.bsp_memos.specs.Billing.{billed_in, may_be_billed}
use Rattle.bsp_rows.specs.declared.keys.ItemKey.{ItemKey}
use Rattle.bsp_rows.specs.declared.keys.MemoKey.{MemoKey}
use Rattle.bsp_rows.specs.Rows.{Rows, has_meeting, key_of, memo_key, range_at, range_key}

-- ---- conditions on what is found at a key

abbrev pub IsFree : {X : Type 0} → Option X → Type 0
IsFree found = found ≡ None

abbrev pub IsThere : {X : Type 0} → Option X → Type 0
IsThere found = IsSome found

abbrev pub MayBeBilled : Option MemoFields → Type 0
MayBeBilled found = IfSome found (λ m. IsTrue (may_be_billed m))

-- a range that may be added: its key is free, its first number is not after its last, and no range has a number of it
pub record MayBeAdded (agent : ℕ) (range : Range) (rows : Rows) : Type 0 where
  pub free : IsFree (range_at (range_key agent range) rows)
  pub numbers : range.first ≤ range.last
  pub apart : has_meeting range rows ≡ false

-- ---- callers and ranges

abbrev pub with_agent_token : ℕ → List ℕ → Rows → Rows
with_agent_token agent token rows = record rows { agents = insert rows.agents agent token }

abbrev pub with_airline_token : ℕ → List ℕ → Rows → Rows
with_airline_token airline token rows = record rows { airlines = insert rows.airlines airline token }

abbrev pub with_range : ℕ → Range → Rows → Rows
with_range agent range rows = record rows { ranges = insert rows.ranges (range_key agent range) range.last }

abbrev pub without_range : ℕ → Range → Rows → Rows
without_range agent range rows = record rows { ranges = remove rows.ranges (range_key agent range) }

-- ---- items and memos

-- the value at a key changed, where there is one
abbrev pub changed_to : {K X : Type 0} {R : K → K → Ordering} → (X → X) → K → Option X → FinMap R X → FinMap R X
changed_to change key None m = m
changed_to change key (Some x) m = insert m key (change x)

abbrev pub changed : {K X : Type 0} {R : K → K → Ordering} → (X → X) → K → FinMap R X → FinMap R X
changed change key m = changed_to change key (get m key) m

abbrev pub with_item : Item → Rows → Rows
with_item item rows = record rows { items = insert rows.items (key_of item) item }

-- it lives no more
abbrev pub ended : Item → Item
ended i = record i { lives = false }

abbrev pub with_end : ItemKey → Rows → Rows
with_end key rows = record rows { items = changed ended key rows.items }

abbrev pub with_memo : MemoFields → Rows → Rows
with_memo memo rows = record rows { memos = insert rows.memos (memo_key memo) memo }

abbrev pub with_billing : MemoKey → ℕ → Rows → Rows
with_billing key period rows = record rows { memos = changed (billed_in period) key rows.memos }

-- ---- the plan

-- nothing of the request is new
abbrev pub is_held : Published → Request → Bool
is_held plan (Publish text) = holds_already plan text
is_held plan (SetDay day) = same_day plan.day day
is_held plan (Close code) = is_closed plan code

abbrev pub change_or_fault : Bool → Result Published PlanFault → Result Change PlanFault
change_or_fault held (Ok plan) = Ok (change_of held)
change_or_fault held (Err fault) = Err fault

abbrev pub plan_left : Published → Result Published PlanFault → Published
plan_left old (Ok plan) = plan
plan_left old (Err fault) = old

-- the plan's answer to a request
abbrev pub request_answer : Request → Rows → Result Change PlanFault
request_answer request rows = change_or_fault (is_held rows.published request) (outcome rows.published request)

-- the plan after it, which a refusal leaves as it is
abbrev pub after_request : Request → Rows → Rows
after_request request rows = record rows { published = plan_left rows.published (outcome rows.published request) }
