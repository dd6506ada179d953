pub mod Promise
pub mod Laws
pub mod Inverse
pub mod Answers
