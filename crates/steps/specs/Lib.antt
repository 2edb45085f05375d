pub mod Adjust
pub mod Utf8
pub mod Steps
pub mod Outline
pub mod Law
pub mod Given
pub mod Items
pub mod Build
