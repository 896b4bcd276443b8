pub mod Beginnings
pub mod Came
pub mod Laying
pub mod Planning
pub mod Plans
pub mod Promise
pub mod Tables
