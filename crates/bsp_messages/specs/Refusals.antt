-- The codes of refusals, their statuses and their bodies.
use Rattle.std.specs.Prelude.{ℕ, List, codes}
use Rattle.serde_json.specs.Data.{Data, string, object, no_members, member}
use Rattle.bsp_calendar.specs.declared.fault.PlanFault.{PlanFault}
use Rattle.bsp_calendar.specs.declared.fault.PlanFault.TheVariants as plan
use Rattle.bsp_calendar.specs.Faults.{code_text}
use Rattle.bsp_memos.specs.declared.fault.MemoFault.{MemoFault}
use Rattle.bsp_memos.specs.declared.fault.MemoFault.TheVariants as memo
use Rattle.bsp_memos.specs.Texts.{fault_text}
use Rattle.bsp_messages.specs.declared.refusal.StockFault.{StockFault}
use Rattle.bsp_messages.specs.declared.refusal.StockFault.TheVariants as stock
use Rattle.bsp_messages.specs.declared.refusal.RequestRefusal.{RequestRefusal}
use Rattle.bsp_messages.specs.declared.refusal.RequestRefusal.TheVariants.{Forbidden, NoRoute, OtherMethod, Malformed, WrongAgentCode, AirlineNotInPlan, Plan, Stock, Memo, NoDocument, UnknownPeriod, HotTooLarge, NoHot, NoRoom, StoreFailed}
use Rattle.bsp_routes.specs.declared.status.Status.{Status}
use Rattle.bsp_routes.specs.declared.status.Status.TheVariants as status

-- `{"code":"X"}`
abbrev pub code_object : List ℕ → Data
code_object code = object (member (codes "code") (string code) no_members)

-- ---- codes

-- want of memory is B01 in every answer
abbrev pub plan_code : PlanFault → List ℕ
plan_code plan.NoMemory = codes "B01"
plan_code plan.NotToml = code_text plan.NotToml
plan_code plan.WrongKey = code_text plan.WrongKey
plan_code plan.Differs = code_text plan.Differs
plan_code plan.OutOfOrder = code_text plan.OutOfOrder
plan_code plan.LateRate = code_text plan.LateRate
plan_code plan.DayBackwards = code_text plan.DayBackwards
plan_code plan.NotEarliest = code_text plan.NotEarliest
plan_code plan.NotOver = code_text plan.NotOver

abbrev pub stock_code : StockFault → List ℕ
stock_code stock.FirstAfterLast = codes "K01"
stock_code stock.NotRegistered = codes "K02"
stock_code stock.MeetsRange = codes "K03"
stock_code stock.NoSuchRange = codes "K04"
stock_code stock.RangeUsed = codes "K05"

abbrev pub memo_code : MemoFault → List ℕ
memo_code fault = fault_text fault

abbrev pub refusal_code : RequestRefusal → List ℕ
refusal_code Forbidden = codes "N01"
refusal_code NoRoute = codes "N02"
refusal_code OtherMethod = codes "N03"
refusal_code Malformed = codes "N04"
refusal_code WrongAgentCode = codes "N05"
refusal_code AirlineNotInPlan = codes "N06"
refusal_code (Plan fault) = plan_code fault
refusal_code (Stock fault) = stock_code fault
refusal_code (Memo fault) = memo_code fault
refusal_code NoDocument = codes "D01"
refusal_code UnknownPeriod = codes "S01"
refusal_code HotTooLarge = codes "H01"
refusal_code NoHot = codes "H02"
refusal_code NoRoom = codes "B01"
refusal_code StoreFailed = codes "B03"

-- ---- statuses

-- 400 where the text is at fault, else 409; 503 for want of memory
abbrev pub plan_status : PlanFault → Status
plan_status plan.NotToml = status.BadRequest
plan_status plan.WrongKey = status.BadRequest
plan_status plan.NoMemory = status.ServiceUnavailable
plan_status plan.Differs = status.Conflict
plan_status plan.OutOfOrder = status.Conflict
plan_status plan.LateRate = status.Conflict
plan_status plan.DayBackwards = status.Conflict
plan_status plan.NotEarliest = status.Conflict
plan_status plan.NotOver = status.Conflict

-- 404 where the caller has no such memo, else 409
abbrev pub memo_status : MemoFault → Status
memo_status memo.NoSuchMemo = status.NotFound
memo_status memo.ReviewOver = status.Conflict
memo_status memo.StateForbids = status.Conflict
memo_status memo.AmountOutOfRange = status.Conflict
memo_status memo.OtherContent = status.Conflict
memo_status memo.CreditMemo = status.Conflict
memo_status memo.LimitReached = status.Conflict
memo_status memo.AgentNotRegistered = status.Conflict

abbrev pub refusal_status : RequestRefusal → Status
refusal_status Forbidden = status.Forbidden
refusal_status NoRoute = status.NotFound
refusal_status OtherMethod = status.MethodNotAllowed
refusal_status Malformed = status.BadRequest
refusal_status WrongAgentCode = status.Conflict
refusal_status AirlineNotInPlan = status.Conflict
refusal_status (Plan fault) = plan_status fault
refusal_status (Stock fault) = status.Conflict
refusal_status (Memo fault) = memo_status fault
refusal_status NoDocument = status.NotFound
refusal_status UnknownPeriod = status.Conflict
refusal_status HotTooLarge = status.Conflict
refusal_status NoHot = status.Conflict
refusal_status NoRoom = status.ServiceUnavailable
refusal_status StoreFailed = status.ServiceUnavailable
