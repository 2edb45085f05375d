pub mod Oldest
pub mod Names
pub mod Givings
