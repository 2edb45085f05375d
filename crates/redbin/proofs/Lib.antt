mod Lists
pub mod Drafted
pub mod Fields
pub mod Headings
pub mod Puts
pub mod Paths
pub mod Shares
pub mod Whole
pub mod Parts
pub mod Symbols
pub mod Holders
pub mod Records
pub mod Table
pub mod File
pub mod Got
pub mod Kept
pub mod Loaded
pub mod Elsewhere
pub mod Meant
pub mod Roomy
mod Long
pub mod Examples
