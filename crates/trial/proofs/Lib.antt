pub mod Applied
pub mod Causes
