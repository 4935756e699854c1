-- How a call and the content of a request are read as a request.
use Rattle.std.specs.Prelude.{◌≡◌, ℕ, List, [], Ok, Err}
use Rattle.bsp_ret.specs.Ret.{HasLines}
use Rattle.bsp_book.specs.Writing.{HaveContents}
use Rattle.bsp_office_spec.specs.Asking.{Asking}
use Rattle.bsp_office_spec.specs.Asking.TheVariants as asking
use Rattle.bsp_office_spec.specs.Call.TheVariants as call
use Rattle.bsp_office_spec.specs.OfficeCall.{OfficeCall}
use Rattle.bsp_office_spec.specs.OfficeCall.TheVariants as office
use Rattle.bsp_office_spec.specs.AgentCall.{AgentCall}
use Rattle.bsp_office_spec.specs.AgentCall.TheVariants as agent
use Rattle.bsp_desk_writes.specs.declared.content.Content.{Content}
use Rattle.bsp_desk_writes.specs.declared.content.Content.TheVariants.{Bytes, File, Fault}
use Rattle.bsp_office_spec.specs.Requests.{AgentRequest, Asked, FileRead, IsAgentRequest, IsAsked, IsFileOf, IsOfficeRequest, OfficeRequest}
use Rattle.bsp_office_spec.specs.Requests.AgentRequest.{AgentFile}
use Rattle.bsp_office_spec.specs.Requests.Asked.{ByAgent, ByOffice}
use Rattle.bsp_office_spec.specs.Requests.OfficeRequest.{OfficeFile}

-- the bytes of the body; what a reader gave has none
abbrev pub bytes_in : Content → List ℕ
bytes_in (Bytes bytes) = bytes.now
bytes_in (File file) = []
bytes_in (Fault fault) = []

-- what the content is as a RET file
abbrev pub IsFileIn : Content → FileRead → Type 0
IsFileIn (Bytes bytes) read = IsFileOf bytes.now read
IsFileIn (File file) (Ok ts) = HaveContents 1 file.now.groups ts
IsFileIn (File file) (Err fault) = ⊥
IsFileIn (Fault fault) (Ok ts) = ⊥
IsFileIn (Fault fault) (Err first) = first ≡ fault

-- the office's call with its content is this request
abbrev pub IsOfficeCall : OfficeCall (List ℕ) → Content → OfficeRequest → Type 0
IsOfficeCall office.Ret content request = (file : FileRead) × IsFileIn content file × (request ≡ OfficeFile file)
IsOfficeCall call content request = IsOfficeRequest call (bytes_in content) request

-- an agent's call with its content is this request
abbrev pub IsAgentCall : AgentCall (List ℕ) → Content → AgentRequest → Type 0
IsAgentCall agent.Ret content request = (file : FileRead) × IsFileIn content file × (request ≡ AgentFile file)
IsAgentCall call content request = IsAgentRequest call (bytes_in content) request

-- what a method and a target ask for, with this content, is this
abbrev pub IsAskedWith : Asking (List ℕ) → Content → Asked → Type 0
IsAskedWith (asking.Call (call.Office of_office)) content asked = (request : OfficeRequest) × IsOfficeCall of_office content request × (asked ≡ ByOffice request)
IsAskedWith (asking.Call (call.Agent code of_agent)) content asked = (request : AgentRequest) × IsAgentCall of_agent content request × (asked ≡ ByAgent code request)
IsAskedWith asking content asked = IsAsked asking (bytes_in content) asked

-- what a reader gave as a file is one, as each `RetFile` is
abbrev pub IsWhole : Content → Type 0
IsWhole (Bytes bytes) = Unit {0}
IsWhole (File file) = HasLines file.now
IsWhole (Fault fault) = Unit {0}

-- each call whose content is whole is read as some request
abbrev pub EachContentIsRead : Type 0
EachContentIsRead = (asking : Asking (List ℕ)) (content : Content) → IsWhole content → (asked : Asked) × IsAskedWith asking content asked
