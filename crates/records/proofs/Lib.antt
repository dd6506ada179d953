pub mod Laws
pub mod RowAhead
pub mod TwoLists
pub mod HeldName
pub mod Steps
pub mod Answers
