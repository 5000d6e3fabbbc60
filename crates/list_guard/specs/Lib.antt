pub mod Refusals
pub mod State
pub mod Sizes
pub mod Machine
pub mod History
pub mod Judged
pub mod Reported
pub mod Statements
