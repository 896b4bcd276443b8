pub mod Floor
pub mod Picture
pub mod Places
pub mod Strokes
