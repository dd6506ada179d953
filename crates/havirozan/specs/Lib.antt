pub mod TablePlaces
pub mod Inner
