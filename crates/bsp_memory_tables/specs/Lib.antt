pub mod Numbers
pub mod Windows
pub mod Places
pub mod MemoTables
pub mod ItemTables
pub mod TallyTables
pub mod RangeTables
pub mod Used
