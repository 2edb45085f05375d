pub mod Bytes
pub mod Layout
pub mod Canonical
pub mod Reading
pub mod Promises
pub mod Examples
