-- The content of a message is read as its body is.
use Rattle.std.proofs.Common.{◌≡◌, ℕ, ◌<◌, List, [], ◌∷◌, length, Option, Some, None, Result, Ok, Err, refl, sym, subst, ◌∙◌, arith}
use Rattle.std.specs.Borrow.{Bor}
use Rattle.std.specs.Option.{option_map}
use Rattle.bsp_desk.specs.Reading.{token_text}
use Rattle.bsp_ret.specs.Lines.{lines}
use Rattle.bsp_ret.proofs.AnswerLemmas.{faulty}
use Rattle.bsp_ret.proofs.LawLemmas.{is_read}
use Rattle.bsp_ret.specs.Ret.{File, Ret}
use Rattle.bsp_ret.specs.Table.{first_fault}
use Rattle.bsp_ret.specs.declared.model.FaultCode.TheVariants.{F08}
use Rattle.bsp_ret.specs.declared.model.RetFault.{RetFault}
use Rattle.bsp_desk.specs.Writing.{HaveContents}
use Rattle.bsp_desk.specs.Asking.{Asking}
use Rattle.bsp_desk.specs.Asking.TheVariants as asking
use Rattle.bsp_desk.specs.AgentCall.{AgentCall}
use Rattle.bsp_desk.specs.AgentCall.TheVariants as agent
use Rattle.bsp_desk.specs.AirlineCall.{AirlineCall}
use Rattle.bsp_desk.specs.AirlineCall.TheVariants as airline
use Rattle.bsp_desk.specs.Call.TheVariants as call
use Rattle.bsp_desk.specs.OfficeCall.{OfficeCall}
use Rattle.bsp_desk.specs.OfficeCall.TheVariants as office
use Rattle.bsp_desk.specs.Contents.{IsAgentCall, IsAskedWith, IsFileIn, IsOfficeCall}
use Rattle.bsp_desk.specs.Content.TheVariants as content
use Rattle.bsp_desk.specs.Requests.{AgentRequest, Asked, FileRead, IsAgentRequest, IsAsked, IsFileOf, IsOfficeRequest, OfficeRequest}
use Rattle.bsp_desk.specs.BodyKind.TheVariants.{Ret as RetFile}
use Rattle.bsp_http.specs.Bodies.{IsFileRead}
use Rattle.bsp_http.specs.Messages.{content_of}
use Rattle.bsp_http.specs.Uses.{kind_of}

pub same_token : (token : Option (Bor (List ℕ))) → token_text token ≡ option_map (λ t. t.now) token
same_token None = refl
same_token (Some token) = refl

-- ---- a body that is kept or ignored

office_bytes : (of_office : OfficeCall (List ℕ)) (bytes : Bor (List ℕ)) (request : OfficeRequest) → IsOfficeRequest of_office bytes.now request → IsOfficeCall of_office (content.Bytes bytes) request
office_bytes office.Ret bytes request h = h
office_bytes of_office bytes request h = h

agent_bytes : (of_agent : AgentCall (List ℕ)) (bytes : Bor (List ℕ)) (request : AgentRequest) → IsAgentRequest of_agent bytes.now request → IsAgentCall of_agent (content.Bytes bytes) request
agent_bytes agent.Ret bytes request h = h
agent_bytes of_agent bytes request h = h

pub as_bytes : (asked_for : Asking (List ℕ)) (bytes : Bor (List ℕ)) (asked : Asked) → IsAsked asked_for bytes.now asked → IsAskedWith asked_for (content.Bytes bytes) asked
as_bytes (asking.Call (call.Office of_office)) bytes asked h = (h.0, office_bytes of_office bytes h.0 h.1, h.2)
as_bytes (asking.Call (call.Agent code of_agent)) bytes asked h = (h.0, agent_bytes of_agent bytes h.0 h.1, h.2)
as_bytes (asking.Call (call.Airline code of_airline)) bytes asked h = h
as_bytes (asking.OtherMethod methods) bytes asked h = h
as_bytes asking.NoRoute bytes asked h = h

-- ---- a body that is a RET file

same_file : (ls : List (List ℕ)) (a b : File) → Ret ls a → Ret ls b → a ≡ b
same_file ls a b first second = let both : ◌≡◌ {A = Result File RetFault} (Ok a) (Ok b) = sym (is_read ls a first) ∙ is_read ls b second in cc

file_in : (bytes : List ℕ) (file : Result (Bor File) RetFault) (read : FileRead) → IsFileRead bytes file → IsFileOf bytes read → IsFileIn (content_of file) read
file_in bytes (Ok file) (Ok ts) is h = subst (λ (f : File). HaveContents 1 f.groups ts) (same_file (lines bytes) h.0 file.now h.1 is) h.2
file_in bytes (Ok file) (Err fault) is h = absurd (faulty (lines bytes) fault h file.now is)
file_in bytes (Err fault) (Ok ts) is h = absurd (faulty (lines bytes) fault is h.0 h.1)
file_in bytes (Err fault) (Err first) is h = let both : Some first ≡ Some fault = sym h ∙ is in cc

office_file : (of_office : OfficeCall (List ℕ)) (bytes : List ℕ) (file : Result (Bor File) RetFault) (request : OfficeRequest) → RetFile ≡ kind_of (asking.Call (call.Office of_office)) → IsFileRead bytes file
    → IsOfficeRequest of_office bytes request → IsOfficeCall of_office (content_of file) request
office_file office.Ret bytes file request e is h = (h.0, file_in bytes file h.0 is h.1, h.2)
office_file of_office bytes file request e is h = absurd (cc)

agent_file : (code : List ℕ) (of_agent : AgentCall (List ℕ)) (bytes : List ℕ) (file : Result (Bor File) RetFault) (request : AgentRequest) → RetFile ≡ kind_of (asking.Call (call.Agent code of_agent)) → IsFileRead bytes file
    → IsAgentRequest of_agent bytes request → IsAgentCall of_agent (content_of file) request
agent_file code agent.Ret bytes file request e is h = (h.0, file_in bytes file h.0 is h.1, h.2)
agent_file code of_agent bytes file request e is h = absurd (cc)

no_airline_file : (code : List ℕ) (of_airline : AirlineCall (List ℕ)) → RetFile ≡ kind_of (asking.Call (call.Airline code of_airline)) → ⊥
no_airline_file code airline.Memos e = cc
no_airline_file code (airline.Hot period) e = cc
no_airline_file code of_airline e = cc

pub as_file : (asked_for : Asking (List ℕ)) (bytes : List ℕ) (file : Result (Bor File) RetFault) (asked : Asked) → RetFile ≡ kind_of asked_for → IsFileRead bytes file → IsAsked asked_for bytes asked
    → IsAskedWith asked_for (content_of file) asked
as_file (asking.Call (call.Office of_office)) bytes file asked e is h = (h.0, office_file of_office bytes file h.0 e is h.1, h.2)
as_file (asking.Call (call.Agent code of_agent)) bytes file asked e is h = (h.0, agent_file code of_agent bytes file h.0 e is h.1, h.2)
as_file (asking.Call (call.Airline code of_airline)) bytes file asked e is h = absurd (no_airline_file code of_airline e)
as_file (asking.OtherMethod methods) bytes file asked e is h = absurd (cc)
as_file asking.NoRoute bytes file asked e is h = absurd (cc)

-- ---- a RET file is not empty

none_is_faulty : first_fault (lines []) ≡ Some (record { code = F08; at = 1 })
unfolding lines
none_is_faulty = refl

pub some_bytes : (bytes : List ℕ) → first_fault (lines bytes) ≡ None → 0 < length bytes
some_bytes [] none = let both : ◌≡◌ {A = Option RetFault} None (Some (record { code = F08; at = 1 })) = sym none ∙ none_is_faulty in absurd (cc)
some_bytes (b ∷ bytes) none = omega arith
