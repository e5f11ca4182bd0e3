pub mod Answers
pub mod CRuns
