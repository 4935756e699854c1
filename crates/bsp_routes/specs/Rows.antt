-- The rows of the router.
use Rattle.std.specs.Prelude.{ℕ, List, [], codes, Result, Ok, Err}
use Rattle.matchit.specs.Rows.{RowsOf}
use Rattle.matchit.specs.Router.{RouteOf, route_from}
use Rattle.matchit.specs.Order.{placed}
use Rattle.matchit.specs.Route.{parse_route, Scan}
use Rattle.matchit.specs.declared.error.InsertError.{InsertError}
use Rattle.bsp_routes.specs.declared.resource.Resource.{Resource}
use Rattle.bsp_routes.specs.declared.resource.Resource.TheVariants.{Plan, Day, Agents, Airlines, Allot, Withdraw, OfficeRet, Close, Settlement, AgentRet, Document, Period, Stock, AgentMemos, Dispute, Agree, Statement, AirlineMemos, Uphold, WithdrawMemo, Reduce, Hot}

abbrev pub ResourceRows : Type 0
ResourceRows = RowsOf (RouteOf Resource)

-- the rows with the route of a text, if it reads well
abbrev pub placed_read : Result Scan InsertError → Resource → ResourceRows → ResourceRows
placed_read (Ok s) resource rows = placed (s.pattern, route_from s resource) rows
placed_read (Err e) resource rows = rows

unfoldable pub add : List ℕ → Resource → ResourceRows → ResourceRows
add text resource rows = placed_read (parse_route text) resource rows

unfoldable pub office_rows : ResourceRows → ResourceRows
office_rows rows =
    add (codes "/office/settlement/{period}") Settlement
    (add (codes "/office/close") Close
    (add (codes "/office/ret") OfficeRet
    (add (codes "/office/stock/withdraw") Withdraw
    (add (codes "/office/stock/allot") Allot
    (add (codes "/office/airlines") Airlines
    (add (codes "/office/agents") Agents
    (add (codes "/office/day") Day
    (add (codes "/office/plan") Plan rows))))))))

unfoldable pub agent_rows : ResourceRows → ResourceRows
agent_rows rows =
    add (codes "/agents/{agent}/statements/{period}") Statement
    (add (codes "/agents/{agent}/memos/agree") Agree
    (add (codes "/agents/{agent}/memos/dispute") Dispute
    (add (codes "/agents/{agent}/memos") AgentMemos
    (add (codes "/agents/{agent}/stock") Stock
    (add (codes "/agents/{agent}/periods/{period}") Period
    (add (codes "/agents/{agent}/documents/{number}") Document
    (add (codes "/agents/{agent}/ret") AgentRet rows)))))))

unfoldable pub airline_rows : ResourceRows → ResourceRows
airline_rows rows =
    add (codes "/airlines/{airline}/hot/{period}") Hot
    (add (codes "/airlines/{airline}/memos/reduce") Reduce
    (add (codes "/airlines/{airline}/memos/withdraw") WithdrawMemo
    (add (codes "/airlines/{airline}/memos/uphold") Uphold
    (add (codes "/airlines/{airline}/memos") AirlineMemos rows))))

abbrev pub routes : ResourceRows
routes = airline_rows (agent_rows (office_rows []))
