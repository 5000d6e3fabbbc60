pub mod Options
pub mod OptionFaults
pub mod Bodies
pub mod Certificates
pub mod Reading
pub mod Faults
