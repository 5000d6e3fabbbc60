pub mod Names
pub mod Books
pub mod Connections
