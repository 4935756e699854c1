-- Requests, their answers, and the rows after them.
pub mod Requests
pub mod Answers
pub mod Ledger
pub mod AirlineLedger
pub mod Step
pub mod View
pub mod AirlineView
pub mod Texts
pub mod Unmarked
pub mod Laws
pub mod Printed
pub mod HotRules
pub use Rattle.bsp_messages.specs.declared.answer.Answer
pub use Rattle.bsp_routes.specs.declared.asking.Asking
pub use Rattle.bsp_routes.specs.declared.call.AgentCall
pub use Rattle.bsp_routes.specs.declared.call.Call
pub use Rattle.bsp_routes.specs.declared.call.OfficeCall
