pub mod Choice
pub mod Choosing
pub mod Ending
pub mod Filling
pub mod Lent
pub mod Prices
pub mod Table
pub mod Tracing
