pub mod Graph
pub mod Trails
