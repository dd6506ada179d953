pub mod Answers
pub mod Ends
pub mod Kept
pub mod Masks
