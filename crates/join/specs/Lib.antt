-- What joining two graph files means (02, Ask 7). Definitions alone.
pub mod Moved
pub mod Joined
pub mod Joins
pub mod JoinedFile
pub mod Samples
pub mod Inner
