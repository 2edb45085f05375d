pub mod Files
pub mod Lawful
pub mod Levels
pub mod Scopes
pub mod Values
