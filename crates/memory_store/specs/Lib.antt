pub mod Departments
pub mod KeyIds
pub mod Contents
