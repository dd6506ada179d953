pub mod Promise
pub mod Little
