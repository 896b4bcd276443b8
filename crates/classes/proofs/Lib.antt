pub mod Numbers
pub mod Rule
pub mod Tests
