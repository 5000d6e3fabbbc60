pub mod Listed
pub mod Stored
pub mod Failed
