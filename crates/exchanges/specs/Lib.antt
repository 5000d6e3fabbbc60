pub mod Exchanges
pub mod Printing
pub mod Reading
pub mod Running
