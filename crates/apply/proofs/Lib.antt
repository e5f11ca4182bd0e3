pub mod WorksLaws
pub mod ApplyLaws
pub mod RevokeLaws
pub mod InsertLaws
pub mod LeaveLaws
pub mod GrantLaws
pub mod GrantWorks
pub mod GrantSteps
