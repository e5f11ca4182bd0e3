pub mod InputLaws
pub mod TextLaws
pub mod LongLaws
pub mod CheckLaws
