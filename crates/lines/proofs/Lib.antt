pub mod Passed
pub mod Pieces
pub mod Turns
pub mod Rows
pub mod ProgramLaws
pub mod Putting
pub mod Texts
