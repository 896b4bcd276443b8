pub mod Costs
pub mod Kinds
pub mod Order
pub mod Promise
pub mod Reach
pub mod Sorting
pub mod Values
