pub mod Written
pub mod Readings
pub mod Strictness
pub mod Appends
pub mod Givings
