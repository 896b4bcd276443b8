pub mod Accept
pub mod Exact
pub mod Fits
pub mod Found
pub mod Pairs
pub mod Searching
pub mod Tested
pub mod Told
