pub mod Count
pub mod First
pub mod Judge
pub mod Laws
