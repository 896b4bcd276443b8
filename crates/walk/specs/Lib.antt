pub mod Checking
pub mod Codes
pub mod Marking
pub mod Promise
pub mod Shown
pub mod Steps
pub mod Walk
