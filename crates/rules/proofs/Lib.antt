pub mod Numbers
pub mod Examples
pub mod HostRuns
pub mod Leave
pub mod Places
pub mod Broken
