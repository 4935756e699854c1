-- What a call is read as fits: each transaction of its file is a group.
use Rattle.std.proofs.Common.{ℕ, List, [], ◌∷◌, suc, Ok, Err, sym, subst}
use Rattle.bsp_rows.specs.Writing.{HaveContents}
use Rattle.bsp_rows.specs.Transaction.{Transaction}
use Rattle.bsp_rows.proofs.ContentMakes.{content_makes}
use Rattle.bsp_routes.specs.declared.asking.Asking.TheVariants as asking
use Rattle.bsp_routes.specs.declared.call.Call.TheVariants as call
use Rattle.bsp_routes.specs.declared.call.OfficeCall.{OfficeCall}
use Rattle.bsp_routes.specs.declared.call.OfficeCall.TheVariants as office
use Rattle.bsp_routes.specs.declared.call.AgentCall.{AgentCall}
use Rattle.bsp_routes.specs.declared.call.AgentCall.TheVariants as agent
use Rattle.bsp_office_spec.specs.Laws.{ReadRequestsFit}
use Rattle.bsp_office_spec.specs.Requests.{AgentRequest, FileRead, IsAgentRequest, IsFileOf, IsOfficeRequest, OfficeRequest}
use Rattle.bsp_office_spec.specs.Requests.Asked.{ByAgent, ByOffice}
use Rattle.bsp_office_spec.specs.Step.{AreGroups, Fits, HasGroups}

groups_of : (n : ℕ) (groups : List (List (List ℕ))) (ts : List Transaction) → HaveContents n groups ts → AreGroups ts
groups_of n [] [] h = tt
groups_of n (group ∷ groups) (t ∷ ts) h = (content_makes n group t h.0, groups_of (suc n) groups ts h.1)
groups_of n [] (t ∷ ts) h = elim h [ ]
groups_of n (group ∷ groups) [] h = elim h [ ]

file_fits : (body : List ℕ) (file : FileRead) → IsFileOf body file → HasGroups file
file_fits body (Ok ts) h = groups_of 1 h.0.groups ts h.2
file_fits body (Err fault) h = tt

office_fits : (of_office : OfficeCall (List ℕ)) (body : List ℕ) (request : OfficeRequest) → IsOfficeRequest of_office body request → Fits (ByOffice request)
office_fits office.Plan body request h = subst (λ r. Fits (ByOffice r)) (sym h.2) tt
office_fits office.Day body request h = subst (λ r. Fits (ByOffice r)) (sym h) tt
office_fits office.RegisterAgent body request h = subst (λ r. Fits (ByOffice r)) (sym h) tt
office_fits office.RegisterAirline body request h = subst (λ r. Fits (ByOffice r)) (sym h) tt
office_fits office.Allot body request h = subst (λ r. Fits (ByOffice r)) (sym h) tt
office_fits office.Withdraw body request h = subst (λ r. Fits (ByOffice r)) (sym h) tt
office_fits office.Ret body request h = subst (λ r. Fits (ByOffice r)) (sym h.2) (file_fits body h.0 h.1)
office_fits office.Close body request h = subst (λ r. Fits (ByOffice r)) (sym h) tt
office_fits (office.Settlement period) body request h = subst (λ r. Fits (ByOffice r)) (sym h) tt

agent_fits : (code : List ℕ) (of_agent : AgentCall (List ℕ)) (body : List ℕ) (request : AgentRequest) → IsAgentRequest of_agent body request → Fits (ByAgent code request)
agent_fits code agent.Ret body request h = subst (λ r. Fits (ByAgent code r)) (sym h.2) (file_fits body h.0 h.1)
agent_fits code (agent.Document number) body request h = subst (λ r. Fits (ByAgent code r)) (sym h) tt
agent_fits code (agent.Period period) body request h = subst (λ r. Fits (ByAgent code r)) (sym h) tt
agent_fits code agent.Stock body request h = subst (λ r. Fits (ByAgent code r)) (sym h) tt
agent_fits code agent.Memos body request h = subst (λ r. Fits (ByAgent code r)) (sym h) tt
agent_fits code agent.Dispute body request h = subst (λ r. Fits (ByAgent code r)) (sym h) tt
agent_fits code agent.Agree body request h = subst (λ r. Fits (ByAgent code r)) (sym h) tt
agent_fits code (agent.Statement period) body request h = subst (λ r. Fits (ByAgent code r)) (sym h) tt

pub read_fits : ReadRequestsFit
read_fits asking.NoRoute body asked h = subst Fits (sym h) tt
read_fits (asking.OtherMethod methods) body asked h = subst Fits (sym h) tt
read_fits (asking.Call (call.Office of_office)) body asked h = subst Fits (sym h.2) (office_fits of_office body h.0 h.1)
read_fits (asking.Call (call.Agent code of_agent)) body asked h = subst Fits (sym h.2) (agent_fits code of_agent body h.0 h.1)
read_fits (asking.Call (call.Airline code of_airline)) body asked h = subst Fits (sym h.2) tt
