-- What is proved of writing.
pub mod Laws
pub mod TableRows
pub mod LentTables
pub mod Filing
pub mod Answers
pub mod ReadAgain
pub mod WrittenAgain
pub mod Samples
