pub mod Input
pub mod Block
pub mod Output
pub mod Turn
pub mod Hint
