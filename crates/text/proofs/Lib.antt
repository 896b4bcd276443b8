pub mod Ahead
pub mod Blocks
pub mod Claimed
pub mod Gathered
pub mod Runs
