-- What an angle sheet says, line by line (02, Ask 4). Definitions alone.
pub mod Digits
pub mod Line
pub mod Sheet
pub mod Promise
pub mod Inner
