-- How requests are read and answered, and what a run of them is.
pub mod Sums
pub mod Documents
pub mod Stock
pub mod Calls
pub mod Callers
pub mod Reading
pub mod Replies
pub mod Steps
pub mod Runs
pub mod Laws
pub mod Books
pub mod HotReplies
pub mod Stops
pub mod Instructions
pub use Rattle.bsp_book.specs.Calls as BookCalls
pub use Rattle.bsp_book.specs.declared.fault.BookFault
pub use Rattle.bsp_desk_writes.specs.Contents
pub use Rattle.bsp_desk_writes.specs.Requests
pub use Rattle.bsp_desk_writes.specs.declared.content.Content
pub use Rattle.bsp_routes.specs.declared.reply.Reply
pub use Rattle.bsp_messages.specs.Answers
pub use Rattle.bsp_messages.specs.declared.answer.Answer
pub use Rattle.bsp_messages.specs.declared.refusal.RequestRefusal
pub use Rattle.bsp_routes.specs.Calls as RoutesCalls
pub use Rattle.bsp_routes.specs.Routed
pub use Rattle.bsp_routes.specs.declared.asking.Asking
pub use Rattle.bsp_routes.specs.declared.body.BodyKind
pub use Rattle.bsp_routes.specs.declared.call.AgentCall
pub use Rattle.bsp_routes.specs.declared.call.AirlineCall
pub use Rattle.bsp_routes.specs.declared.call.Call
pub use Rattle.bsp_routes.specs.declared.call.OfficeCall
pub use Rattle.bsp_routes.specs.declared.methods.Methods
pub use Rattle.bsp_rows.specs.Rows
pub use Rattle.bsp_rows.specs.Sound
pub use Rattle.bsp_rows.specs.Writing
