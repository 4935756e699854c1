-- What a request is read as fits: each transaction of its file is a group.
use Rattle.std.proofs.Common.{ℕ, List, [], ◌∷◌, suc, Ok, Err, refl, sym, subst}
use Rattle.bsp_rows.specs.Transaction.{Transaction}
use Rattle.bsp_rows.proofs.ContentMakes.{content_makes}
use Rattle.bsp_rows.specs.Writing.{HaveContents}
use Rattle.bsp_routes.specs.Calls.{asking_text}
use Rattle.bsp_routes.specs.declared.asking.Asking.{Asking}
use Rattle.bsp_routes.specs.declared.asking.Asking.TheVariants as asking
use Rattle.bsp_routes.specs.declared.call.AgentCall.{AgentCall}
use Rattle.bsp_routes.specs.declared.call.AgentCall.TheVariants as agent
use Rattle.bsp_routes.specs.declared.call.Call.TheVariants as call
use Rattle.bsp_routes.specs.declared.call.OfficeCall.{OfficeCall}
use Rattle.bsp_routes.specs.declared.call.OfficeCall.TheVariants as office
use Rattle.bsp_desk_writes.specs.Contents.{IsAgentCall, IsAskedWith, IsFileIn, IsOfficeCall, bytes_in}
use Rattle.bsp_desk_writes.specs.declared.content.Content.{Content}
use Rattle.bsp_desk_writes.specs.declared.content.Content.TheVariants.{Bytes, File, Fault}
use Rattle.bsp_desk_writes.proofs.FitLemmas.{read_fits as bytes_fit}
use Rattle.bsp_desk_writes.specs.Requests.{AgentRequest, Asked, FileRead, OfficeRequest, Request as Reading}
use Rattle.bsp_desk_writes.specs.Requests.Asked.{ByAgent, ByOffice}
use Rattle.bsp_desk_writes.specs.Step.{AreGroups, Fits, HasGroups}
use Rattle.bsp_desk.specs.Reading.{IsRead}
use Rattle.bsp_desk.specs.declared.request.Request.{Request}

pub groups_fit : (n : ℕ) (groups : List (List (List ℕ))) (ts : List Transaction) → HaveContents n groups ts → AreGroups ts
groups_fit n [] [] h = tt
groups_fit n (group ∷ groups) (t ∷ ts) h = (content_makes n group t h.0, groups_fit (suc n) groups ts h.1)
groups_fit n [] (t ∷ ts) h = elim h [ ]
groups_fit n (group ∷ groups) [] h = elim h [ ]

file_fits : (content : Content) (file : FileRead) → IsFileIn content file → HasGroups file
file_fits (Bytes bytes) (Ok ts) h = groups_fit 1 h.0.groups ts h.2
file_fits (File ret) (Ok ts) h = groups_fit 1 ret.now.groups ts h
file_fits (Fault fault) (Ok ts) h = elim h [ ]
file_fits content (Err fault) h = tt

office_fits : (of_office : OfficeCall (List ℕ)) (content : Content) (request : OfficeRequest) → IsOfficeCall of_office content request → Fits (ByOffice request)
office_fits office.Ret content request h = subst (λ (r : OfficeRequest). Fits (ByOffice r)) (sym h.2) (file_fits content h.0 h.1)
office_fits of_office content request h = bytes_fit (asking.Call (call.Office of_office)) (bytes_in content) (ByOffice request) (request, h, refl)

agent_fits : (code : List ℕ) (of_agent : AgentCall (List ℕ)) (content : Content) (request : AgentRequest) → IsAgentCall of_agent content request → Fits (ByAgent code request)
agent_fits code agent.Ret content request h = subst (λ (r : AgentRequest). Fits (ByAgent code r)) (sym h.2) (file_fits content h.0 h.1)
agent_fits code of_agent content request h = bytes_fit (asking.Call (call.Agent code of_agent)) (bytes_in content) (ByAgent code request) (request, h, refl)

asked_fits : (asked_for : Asking (List ℕ)) (content : Content) (asked : Asked) → IsAskedWith asked_for content asked → Fits asked
asked_fits (asking.Call (call.Office of_office)) content asked h = subst Fits (sym h.2) (office_fits of_office content h.0 h.1)
asked_fits (asking.Call (call.Agent code of_agent)) content asked h = subst Fits (sym h.2) (agent_fits code of_agent content h.0 h.1)
asked_fits (asking.Call (call.Airline code of_airline)) content asked h = bytes_fit (asking.Call (call.Airline code of_airline)) (bytes_in content) asked h
asked_fits (asking.OtherMethod methods) content asked h = bytes_fit (asking.OtherMethod methods) (bytes_in content) asked h
asked_fits asking.NoRoute content asked h = bytes_fit asking.NoRoute (bytes_in content) asked h

pub read_fits : (request : Request) (reading : Reading) → IsRead request reading → Fits reading.asked
read_fits request reading is = asked_fits (asking_text request.call) request.content reading.asked is.asked
