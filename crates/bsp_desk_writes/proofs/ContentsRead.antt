-- Each call with its content has a reading.
use Rattle.std.proofs.Common.{ℕ, List, Ok, Err, refl}
use Rattle.bsp_office_spec.specs.Asking.TheVariants as asking
use Rattle.bsp_office_spec.specs.AgentCall.{AgentCall}
use Rattle.bsp_office_spec.specs.AgentCall.TheVariants as agent
use Rattle.bsp_office_spec.specs.Call.TheVariants as call
use Rattle.bsp_office_spec.specs.OfficeCall.{OfficeCall}
use Rattle.bsp_office_spec.specs.OfficeCall.TheVariants as office
use Rattle.bsp_office_spec.proofs.EachIsRead.{each_file_is_read, groups_read}
use Rattle.bsp_office_spec.proofs.RequestsRead.{each_request_is_read}
use Rattle.bsp_office_spec.specs.Requests.{Asked, FileRead}
use Rattle.bsp_office_spec.specs.Requests.AgentRequest.{AgentFile}
use Rattle.bsp_office_spec.specs.Requests.Asked.{ByAgent, ByOffice}
use Rattle.bsp_office_spec.specs.Requests.OfficeRequest.{OfficeFile}
use Rattle.bsp_desk_writes.specs.Contents.{EachContentIsRead, IsAskedWith, IsFileIn, IsWhole, bytes_in}
use Rattle.bsp_desk_writes.specs.declared.content.Content.{Content}
use Rattle.bsp_desk_writes.specs.declared.content.Content.TheVariants.{Bytes, File, Fault}

file_in : (content : Content) → IsWhole content → (read : FileRead) × IsFileIn content read
file_in (Bytes bytes) whole = each_file_is_read bytes.now
file_in (File file) whole = let ts = groups_read 1 file.now.groups whole.1.groups in (Ok ts.0, ts.1)
file_in (Fault fault) whole = (Err fault, refl)

office_content : (of_office : OfficeCall (List ℕ)) (content : Content) → IsWhole content → (asked : Asked) × IsAskedWith (asking.Call (call.Office of_office)) content asked
office_content office.Ret content whole = let file = file_in content whole in (ByOffice (OfficeFile file.0), (OfficeFile file.0, (file.0, file.1, refl), refl))
office_content of_office content whole = each_request_is_read (asking.Call (call.Office of_office)) (bytes_in content)

agent_content : (code : List ℕ) (of_agent : AgentCall (List ℕ)) (content : Content) → IsWhole content → (asked : Asked) × IsAskedWith (asking.Call (call.Agent code of_agent)) content asked
agent_content code agent.Ret content whole = let file = file_in content whole in (ByAgent code (AgentFile file.0), (AgentFile file.0, (file.0, file.1, refl), refl))
agent_content code of_agent content whole = each_request_is_read (asking.Call (call.Agent code of_agent)) (bytes_in content)

pub each_content_is_read : EachContentIsRead
each_content_is_read (asking.Call (call.Office of_office)) content whole = office_content of_office content whole
each_content_is_read (asking.Call (call.Agent code of_agent)) content whole = agent_content code of_agent content whole
each_content_is_read (asking.Call (call.Airline code of_airline)) content whole = each_request_is_read (asking.Call (call.Airline code of_airline)) (bytes_in content)
each_content_is_read (asking.OtherMethod methods) content whole = each_request_is_read (asking.OtherMethod methods) (bytes_in content)
each_content_is_read asking.NoRoute content whole = each_request_is_read asking.NoRoute (bytes_in content)
