-- The graph that an angle sheet says, and what reading it promises (02, Ask 4). Definitions alone.
pub mod Graph
pub mod Tables
pub mod Reads
