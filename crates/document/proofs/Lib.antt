pub mod Agreed
pub mod Checked
pub mod Adding
pub mod Undone
pub mod Closing
pub mod Reading
pub mod Counting
pub mod Propositions
