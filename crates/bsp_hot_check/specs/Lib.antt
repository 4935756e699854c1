-- What the contracts of HOT files cite.
pub mod Hot
pub mod Standings
pub mod Judging
pub mod Pieces
pub mod Checked
pub use Rattle.bsp_hot_records.specs.Records
pub use Rattle.bsp_hot_records.specs.Sums
pub use Rattle.bsp_hot_records.specs.declared.code.DocumentCode
pub use Rattle.bsp_hot_records.specs.declared.form.FileForm
pub use Rattle.bsp_hot_records.specs.declared.name.RecordName
pub use Rattle.bsp_hot_records.specs.declared.totals.Sums as HotRecordsSums
pub use Rattle.bsp_hot_records.specs.declared.totals.Totals
