pub mod Counted
pub mod ListLaws
