pub mod Images
pub mod Lives
pub mod Runs
pub mod Ending
pub mod Adding
