pub mod Choosing
pub mod Passing
pub mod Promise
pub mod Touching
pub mod Walking
