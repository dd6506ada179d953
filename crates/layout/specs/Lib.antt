-- What a graph file and a schema file are, when they are refused, and the whole answer. Definitions alone, in the order of document 01.
pub mod Tables
pub mod Files
pub mod Runs
pub mod Date
pub mod Value
pub mod Graph
pub mod Schema
pub mod Rows
pub mod Refusals
pub mod Codes
pub mod Promise
pub mod Search
pub mod Ways
pub mod Checked
pub mod BenchFiles
pub mod WideFiles
pub mod AllAnswers
