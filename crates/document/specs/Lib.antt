pub mod Stands
pub mod Standing
