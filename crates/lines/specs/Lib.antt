pub mod Text
pub mod Request
pub mod Reading
pub mod Answer
pub mod Program
pub mod Examples
pub mod ProgramExamples
