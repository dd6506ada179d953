pub mod Sought
pub mod Standing
pub mod Further
pub mod Answers
