pub mod Drafts
pub mod Events
pub mod Histories
