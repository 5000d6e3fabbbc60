pub mod OneSchema
pub mod HalfMade
pub mod Looked
pub mod HowEnded
