pub mod CheckLaws
pub mod OpenLaws
pub mod RequestCalls
pub mod MarkedLaws
pub mod ServeLaws
