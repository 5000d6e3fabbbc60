pub mod LongFiles
pub mod RecordFiles
pub mod Records
