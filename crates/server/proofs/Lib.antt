pub mod Words
pub mod Extensions
pub mod Runs
pub mod Visits
pub mod Keeping
pub mod Lines
