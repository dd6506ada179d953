-- What graphs, schemas and the four rules mean. Definitions alone, in the order in which document 01 brings them.
pub mod Places
pub mod Counted
pub mod Model
pub mod Fits
pub mod Rules
pub mod Violations
pub mod Answer
pub mod Loosen
pub mod Join
pub mod Bench
pub mod Traps
pub mod Names
pub mod Listing
