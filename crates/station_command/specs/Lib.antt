pub mod Arguments
pub mod Command
pub mod Asked
pub mod Answers
