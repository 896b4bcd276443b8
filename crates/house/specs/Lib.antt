pub mod Bounds
pub mod House
pub mod Promise
pub mod Reading
pub mod Rules
pub mod Shown
