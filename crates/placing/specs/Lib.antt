pub mod Masks
pub mod PlacedEdges
pub mod Inner
