pub mod Covering
pub mod Kept
pub mod Asked
