-- What a part of a request is answered, and what it makes of the rows.
pub mod Counted
pub mod Judged
pub mod Serves
pub mod After
pub mod Replies
pub use Rattle.bsp_office_spec.specs.AirlineLedger
pub use Rattle.bsp_office_spec.specs.Answers
pub use Rattle.bsp_office_spec.specs.HotRules
pub use Rattle.bsp_office_spec.specs.Ledger
pub use Rattle.bsp_office_spec.specs.Requests
pub use Rattle.bsp_office_spec.specs.Step
pub use Rattle.bsp_office_spec.specs.Texts
