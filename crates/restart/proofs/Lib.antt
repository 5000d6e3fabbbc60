pub mod Opened
pub mod Left
pub mod Ended
pub mod HowEnded
pub mod Lives
pub mod Adding
