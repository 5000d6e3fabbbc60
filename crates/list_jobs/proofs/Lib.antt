pub mod KeysRead
pub mod Statings
