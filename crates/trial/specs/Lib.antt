pub mod Faults
pub mod TrialOffice
pub mod Trial
