-- What is proved of the list that a caller lends.
pub mod Passed
pub mod Laws
pub mod Shorter
pub mod Answers
pub mod BesideCheck
