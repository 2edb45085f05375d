pub mod Pairs
pub mod Listings
pub mod Forms
pub mod Memory
pub mod Sizes
