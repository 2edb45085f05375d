pub mod Binds
pub mod Chains
pub mod Contents
pub mod Holding
pub mod Objects
pub mod Roots
pub mod Turns
