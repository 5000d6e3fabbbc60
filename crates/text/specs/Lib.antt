pub mod Results
pub mod Bytes
