pub mod Lists
pub mod Finders
