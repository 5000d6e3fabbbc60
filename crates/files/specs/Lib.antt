pub mod Schemas
pub mod Opening
pub mod Images
pub mod Ending
