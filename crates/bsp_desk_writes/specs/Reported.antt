-- What a RET file of a reporter is answered.
use Rattle.std.specs.Prelude.{Result}
use Rattle.bsp_book.specs.Calls.{Meaning}
use Rattle.bsp_book.specs.declared.fault.BookFault.{BookFault}
use Rattle.bsp_messages.specs.declared.answer.Answer.{Answer}
use Rattle.bsp_rows.specs.Rows.{Rows}
use Rattle.bsp_rows.specs.Reporter.{Reporter}
use Rattle.bsp_rows.specs.Reporter.TheVariants.{Office, Agent}
use Rattle.bsp_desk_sales.specs.Serves.{ServesAgent, ServesOffice}
use Rattle.bsp_office_spec.specs.Requests.{FileRead}
use Rattle.bsp_office_spec.specs.Requests.AgentRequest.{AgentFile}
use Rattle.bsp_office_spec.specs.Requests.OfficeRequest.{OfficeFile}

-- the reporter's request with this file is served
abbrev pub ServesFile : {B : Type 0} (m : Meaning B Rows) (old new : B) → Result Answer BookFault → Reporter → FileRead → Type 0
ServesFile m old new result Office file = ServesOffice m old new result (OfficeFile file)
ServesFile m old new result (Agent agent) file = ServesAgent m old new result agent (AgentFile file)
