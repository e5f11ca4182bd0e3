pub mod Step
pub mod Apply
pub mod Grant
pub mod Work
