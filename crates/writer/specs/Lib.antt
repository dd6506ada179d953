-- What writing a graph file means (02, Ask 1). Definitions alone.
pub mod Outcome
pub mod GraphFile
pub mod TableRows
pub mod Writes
pub mod Told
