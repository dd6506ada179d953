-- Laws of the graph of a sheet.
pub mod Fair
pub mod RowsRead
pub mod SheetRows
pub mod GoodRuns
pub mod GoodTables
pub mod GraphRead
pub mod Puts
pub mod LentTables
pub mod Progress
pub mod FairReading
pub mod Written
pub mod Answers
