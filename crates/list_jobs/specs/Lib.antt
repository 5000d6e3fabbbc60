pub mod Asking
pub mod Stating
pub mod Jobs
