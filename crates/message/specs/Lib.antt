pub mod Values
pub mod Ends
pub mod Texts
pub mod Belonging
mod Kinds
pub mod Reading
pub mod Parts
pub mod Faults
pub mod Permissions
