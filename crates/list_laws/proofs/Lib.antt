pub mod Sizes
pub mod Growing
pub mod Accounted
pub mod Jumping
